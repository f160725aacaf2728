-- A number that is read is as wide as its spelling. Assumes nothing.
use mathlib.Core.Path.{◌≡◌, refl, ap}
use mathlib.Core.Bool.{Bool, true, false, cond}
use mathlib.Core.List.{[], ◌∷◌}
use Prim.Native.Nat.{ℕ, suc, ◌+◌, ◌-◌, ◌*◌, ◌/◌, ◌%◌, ◌<◌}
use Prim.Native.Char.{code}
use native.Mathlib.Omega.{arith}
use lib.Dec.{eqb, leb}
use lib.ListN.{length, drop, length-append, length-drop}
use borrow.Author.Tests.{eqb-false, leb-true}
use Rattle.ground.proofs.Tests.{and_left, and_right}
use Rattle.paper.specs.Grammar.{Bytes, got, stuck, is_digit, digits, decimal}
use Rattle.paper.specs.Spelling.{spell_number}
use Rattle.paper.proofs.Numbers.{number_small, number_more}
use Rattle.paper.proofs.Reading.{clash}
use Rattle.reader.specs.Places.{Got}

abbrev width : ℕ → ℕ
width n = length (spell_number n)

-- one digit more
width_digit : (v x : ℕ) → 0 < v → x < 10 → width (v * 10 + x) ≡ width v + 1
width_digit v x p h =
    let q : (v * 10 + x) / 10 ≡ v = omega arith in
    omega (
      arith,
      ap length (number_more (v * 10 + x) (omega arith)),
      length-append (spell_number ((v * 10 + x) / 10)) ((code "0" + (v * 10 + x) % 10) ∷ []),
      ap width q,
    )

digit_low : (b : ℕ) → is_digit b ≡ true → 47 < b
unfolding is_digit
digit_low b e = omega (arith, leb-true 48 b (and_left (leb 48 b) (leb b 57) e))

digit_lt : (b : ℕ) → is_digit b ≡ true → b - 48 < 10
unfolding is_digit
digit_lt b e = omega (arith, leb-true b 57 (and_right (leb 48 b) (leb b 57) e))

digits_width : (v : ℕ) (s : Bytes) (n : ℕ) (r : Bytes) → 0 < v → digits v s ≡ got n r → width n + length r ≡ width v + length s
unfolding digits
digits_width v [] n r p e = let q : v ≡ n = cc in let z : [] ≡ r = cc in omega (arith, ap width q, ap length z)
digits_width v (b ∷ s) n r p e = go (is_digit b) refl e (digits_width (v * 10 + (b - code "0")) s n r (omega arith))
  where
    go : (t : Bool) → is_digit b ≡ t → cond t (digits (v * 10 + (b - code "0")) s) (got v (b ∷ s)) ≡ got n r
        → (digits (v * 10 + (b - code "0")) s ≡ got n r → width n + length r ≡ width (v * 10 + (b - code "0")) + length s) → width n + length r ≡ width v + suc (length s)
    go true d e ih = omega (arith, ih e, width_digit v (b - 48) p (digit_lt b d))
    go false d e ih = let q : v ≡ n = cc in let z : (b ∷ s) ≡ r = cc in omega (arith, ap width q, ap length z)

decimal_width : (s : Bytes) (n : ℕ) (r : Bytes) → decimal s ≡ got n r → width n + length r ≡ length s
unfolding decimal
decimal_width [] n r e = absurd (clash e)
decimal_width (b ∷ s) n r e = go (eqb b (code "0")) (is_digit b) refl refl e
  where
    go : (t u : Bool) → eqb b (code "0") ≡ t → is_digit b ≡ u → cond t (got 0 s) (cond u (digits (b - code "0") s) (stuck (b ∷ s))) ≡ got n r
        → width n + length r ≡ suc (length s)
    go true u z d e = let q : 0 ≡ n = cc in let y : s ≡ r = cc in omega (arith, ap width q, ap length y, ap length (number_small 0 (omega arith)))
    go false true z d e =
        let f : b ≡ 48 → ⊥ = eqb-false b 48 z in
        let p : 0 < b - 48 = omega (arith, digit_low b d) in
        omega (arith, digits_width (b - 48) s n r p e, ap length (number_small (b - 48) (digit_lt b d)))
    go false false z d e = absurd (clash e)

pub decimal_ends : (s : Bytes) (at n e : ℕ) → Got decimal s at n e → e ≡ at + width n
decimal_ends s at n e g =
    let o = g.onward in
    let i = g.inside in
    omega (arith, decimal_width (drop at s) n (drop e s) g.reads, length-drop at s, length-drop e s)
