-- The spelling of the variables of a set, word by word, and how long it is at most. Assumes nothing.
use mathlib.Core.Path.{◌≡◌, refl, sym, ap, ◌∙◌}
use mathlib.Core.List.{List, [], ◌∷◌, ◌++◌, append_assoc}
use Prim.Native.Nat.{ℕ, zero, suc, ◌+◌, ◌-◌, ◌*◌, ◌/◌, ◌%◌, ◌^◌, ◌≤◌, ◌<◌}
use native.Mathlib.Omega.{arith}
use lib.Dec.{eqb}
use lib.ListN.{length, drop, get_or, length-append}
use Rattle.ground.specs.Lists.{gather}
use Rattle.ground.proofs.Tests.{by_cond}
use Rattle.limits.specs.Limits.{variables, set_words}
use Rattle.algebra.specs.Polynomial.{members}
use Rattle.words.specs.Words.{number_of, Lowest}
use Rattle.words.proofs.Laws.{Words, members_lowest, members_none, members_drop}
use Rattle.paper.specs.Grammar.{Bytes}
use Rattle.paper.specs.Spelling.{spell_number}
use Rattle.paper.proofs.Numbers.{number_most}
use Rattle.writer.specs.Writing.{dotted}

gather_append : {A B : Type 0} (f : A → List B) (xs ys : List A) → gather f (xs ++ ys) ≡ gather f xs ++ gather f ys
unfolding gather
gather_append f [] ys = refl
gather_append f (x ∷ xs) ys = ap (λ (zs : List _). f x ++ zs) (gather_append f xs ys) ∙ sym (append_assoc (f x) (gather f xs) (gather f ys))

-- ---- the variables of a word
pub word_more : {w v : ℕ} (first r : ℕ) → Lowest 64 w v → r + 2 ^ v ≡ w
    → gather dotted (members 64 first w) ≡ dotted (first + v) ++ gather dotted (members 64 first r)
unfolding gather
word_more first r l e = ap (gather dotted) (members_lowest first r l e)

pub word_length_more : {w v : ℕ} (first r : ℕ) → Lowest 64 w v → r + 2 ^ v ≡ w
    → length (gather dotted (members 64 first w)) ≡ 1 + length (spell_number (first + v)) + length (gather dotted (members 64 first r))
word_length_more {v = v} first r l e =
    omega (arith, ap length (word_more first r l e), length-append (dotted (first + v)) (gather dotted (members 64 first r)))

pub word_end : (first w : ℕ) → w ≤ 0 → gather dotted (members 64 first w) ≡ []
unfolding gather
word_end first w h = let z : w ≡ 0 = omega arith in rw (z, members_none 64 first)

-- ---- how long they are
pub members_few : (n v m : ℕ) → length (members n v m) ≤ n
unfolding members
members_few zero v m = omega arith
members_few (suc n) v m =
    by_cond (λ (l : List ℕ). length l ≤ suc n) (eqb (m % 2) 1)
    (λ e. omega (arith, members_few n (suc v) (m / 2))) (λ e. omega (arith, members_few n (suc v) (m / 2)))

-- 4 bytes for each
pub variables_most : (n v m : ℕ) → v + n ≤ 1000 → length (gather dotted (members n v m)) ≤ 4 * length (members n v m)
unfolding gather members
variables_most zero v m h = omega arith
variables_most (suc n) v m h =
    let ih : length (gather dotted (members n (suc v) (m / 2))) ≤ 4 * length (members n (suc v) (m / 2)) = variables_most n (suc v) (m / 2) (omega arith) in
    by_cond (λ (l : List ℕ). length (gather dotted l) ≤ 4 * length l) (eqb (m % 2) 1)
    (λ e. omega (arith, length-append (spell_number v) (gather dotted (members n (suc v) (m / 2))), number_most 2 v (omega arith))) (λ e. ih)

pub word_most : (first w : ℕ) → first + 64 ≤ variables → length (gather dotted (members 64 first w)) ≤ 4 * 64
word_most first w h = omega (arith, variables_most 64 first w (omega arith), members_few 64 first w)

-- ---- the variables of the words from i on
abbrev pub set_rest : List ℕ → ℕ → Bytes
set_rest a i = gather dotted (members (64 * (length a - i)) (64 * i) (number_of (drop i a)))

pub set_start : (a : List ℕ) → length a ≡ set_words → gather dotted (members variables 0 (number_of a)) ≡ set_rest a 0
set_start a h = let e : variables ≡ 64 * (length a - 0) = omega arith in ap (λ (n : ℕ). gather dotted (members n 0 (number_of a))) e

pub set_more : (a : List ℕ) (i : ℕ) → Words a → i < length a → set_rest a i ≡ gather dotted (members 64 (64 * i) (get_or a i 0)) ++ set_rest a (i + 1)
set_more a i f h =
    ap (gather dotted) (members_drop a i f h)
    ∙ gather_append dotted (members 64 (64 * i) (get_or a i 0)) (members (64 * (length a - (i + 1))) (64 * (i + 1)) (number_of (drop (i + 1) a)))

pub set_length_more : (a : List ℕ) (i : ℕ) → Words a → i < length a
    → length (set_rest a i) ≡ length (gather dotted (members 64 (64 * i) (get_or a i 0))) + length (set_rest a (i + 1))
set_length_more a i f h = ap length (set_more a i f h) ∙ length-append (gather dotted (members 64 (64 * i) (get_or a i 0))) (set_rest a (i + 1))

pub set_end : (a : List ℕ) (i : ℕ) → length a ≤ i → set_rest a i ≡ []
unfolding gather members
set_end a i h = let e : 64 * (length a - i) ≡ 0 = omega arith in rw e

pub set_most : (m : ℕ) → length (gather dotted (members variables 0 m)) ≤ 4 * variables
set_most m = omega (arith, variables_most variables 0 m (omega arith), members_few variables 0 m)
