-- A field as words hold it means what the paper says, at every k up to 64. Assumes nothing.
use mathlib.Core.Path.{◌≡◌}
use mathlib.Core.Bool.{Bool, true, false, cond}
use mathlib.Core.List.{List, [], ◌∷◌, map}
use Prim.Native.Nat.{ℕ, ◌-◌, ◌*◌, ◌^◌, ◌≤◌}
use native.Mathlib.Omega.{arith}
use lib.ListN.{length}
use borrow.Author.Tests.{ltb-false}
use Rattle.ground.proofs.Congruence.{Same, same_refl, same_add, same_mod, ◌⊳◌}
use Rattle.ground.specs.Lists.{every}
use Rattle.ground.proofs.Tests.{and_left, and_right}
use Rattle.limits.specs.Limits.{greatest_magnitude, field_terms}
use Rattle.algebra.specs.Polynomial.{sum_if, reduce}
use Rattle.algebra.proofs.Values.{keep_same}
use Rattle.algebra.proofs.Sums.{reduce_sums}
use Rattle.words.proofs.Wrap.{same_cut, same_negative}
use Rattle.paper.specs.Statement.{Written, is_term, in_range, too_many_terms, set_of, as_term, reduced}
use Rattle.paper.proofs.Ranges.{term_in_range}
use Rattle.written.specs.Worded.{signed_word, worded_term, worded, Holds}

module _ (k : ℕ) (h : k ≤ 64) where
  signed_same : (negative : Bool) (m : ℕ) → m ≤ greatest_magnitude → Same (2 ^ k) (signed_word negative m) (cond negative ((2 ^ k - 1) * m) m)
  unfolding signed_word
  signed_same true m l = same_cut k h (same_mod (2 ^ 64 - m)) ⊳ same_negative k h m (omega arith)
  signed_same false m l = same_refl

  sums : (p : Written) → in_range p ≡ true → (f : ℕ → Bool) → Same (2 ^ k) (sum_if f (worded p)) (sum_if f (map (as_term k) p))
  unfolding worded worded_term as_term in_range every
  sums [] e f = same_refl
  sums (t ∷ p) e f =
      same_add
      (keep_same (f (set_of t.variables)) (signed_same t.negative t.magnitude (term_in_range t (and_left (is_term t) (every is_term p) e)).most))
      (sums p (and_right (is_term t) (every is_term p) e) f)

  pub worded_reduced : (p : Written) → in_range p ≡ true → reduce k (worded p) ≡ reduced k p
  unfolding reduced
  worded_reduced p e = reduce_sums k (worded p) (map (as_term k) p) (sums p e)

-- a field in words has few enough terms
pub holds_few : {p : Written} {n at : ℕ} {words : List ℕ} → Holds p n at words → n ≤ field_terms
unfolding too_many_terms
holds_few {p = p} h = omega (arith, h.terms, ltb-false field_terms (length p) h.short)
