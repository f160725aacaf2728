-- The spelling of a number: its last digit, and how many digits it has. Assumes nothing.
use mathlib.Core.Path.{◌≡◌, ap, ◌∙◌}
use mathlib.Core.Logic.{⊎_elim}
use mathlib.Core.List.{[], ◌∷◌, ◌++◌}
use Prim.Native.Nat.{ℕ, zero, suc, ◌+◌, ◌*◌, ◌/◌, ◌%◌, ◌^◌, ◌≤◌, ◌<◌}
use Prim.Native.Char.{code}
use native.Mathlib.Nat.{not-suc-le-zero, one-le-pow, pow-suc}
use native.Mathlib.Omega.{arith}
use lib.Dec.{ltb}
use lib.ListN.{length, length-append}
use borrow.Author.Tests.{lt-ltb, le-ltb, ltb-true, ltb-false}
use Rattle.ground.proofs.Tests.{split}
use Rattle.paper.specs.Spelling.{spell_digits, spell_number}

-- room for more digits than there are changes nothing
digits_room : (d e n : ℕ) → n < d → n < e → spell_digits d n ≡ spell_digits e n
unfolding spell_digits
digits_room zero e n h k = absurd (not-suc-le-zero h)
digits_room (suc d) zero n h k = absurd (not-suc-le-zero k)
digits_room (suc d) (suc e) n h k =
    ⊎_elim
    (λ l. rw l)
    (λ l. let g : 10 ≤ n = ltb-false n 10 l in rw (l, digits_room d e (n / 10) (omega arith) (omega arith)))
    (split (ltb n 10))

pub number_small : (n : ℕ) → n < 10 → spell_number n ≡ (code "0" + n) ∷ []
unfolding spell_number spell_digits
number_small n h = rw (lt-ltb n 10 h)

pub number_more : (n : ℕ) → 10 ≤ n → spell_number n ≡ spell_number (n / 10) ++ ((code "0" + n % 10) ∷ [])
unfolding spell_number spell_digits
number_more n h = rw (le-ltb n 10 h, digits_room n (suc (n / 10)) (n / 10) (omega arith) (omega arith))

length_more : (n : ℕ) → 10 ≤ n → length (spell_number n) ≡ length (spell_number (n / 10)) + 1
length_more n h = ap length (number_more n h) ∙ length-append (spell_number (n / 10)) ((code "0" + n % 10) ∷ [])

pub number_some : (n : ℕ) → 0 < length (spell_number n)
number_some n =
    ⊎_elim
    (λ l. omega (arith, ap length (number_small n (ltb-true n 10 l))))
    (λ l. omega (arith, length_more n (ltb-false n 10 l)))
    (split (ltb n 10))

pub number_least : (d n : ℕ) → 10 ^ d ≤ n → d < length (spell_number n)
number_least zero n h = number_some n
number_least (suc d) n h =
    let p : 10 ^ suc d ≡ 10 ^ d * 10 = pow-suc 10 d in
    let g : 10 ≤ n = omega (arith, one-le-pow d 10 (omega arith)) in
    omega (arith, number_least d (n / 10) (omega arith), length_more n g)

pub number_most : (d n : ℕ) → n < 10 ^ suc d → length (spell_number n) ≤ suc d
number_most zero n h = omega (arith, ap length (number_small n h))
number_most (suc d) n h =
    let p : 10 ^ suc (suc d) ≡ 10 ^ suc d * 10 = pow-suc 10 (suc d) in
    ⊎_elim
    (λ l. omega (arith, ap length (number_small n (ltb-true n 10 l))))
    (λ l. omega (arith, number_most d (n / 10) (omega arith), length_more n (ltb-false n 10 l)))
    (split (ltb n 10))
