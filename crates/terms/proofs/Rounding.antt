-- Coefficients modulo 2 ^ 64 have the sums of the whole ones modulo 2 ^ k, for k up to 64, and so the same reduced form. Assumes nothing.
use mathlib.Core.Path.{◌≡◌, refl, ap}
use mathlib.Core.Bool.{Bool, true, false}
use mathlib.Core.List.{[], ◌∷◌, ◌++◌}
use Prim.Native.Nat.{ℕ, ◌%◌, ◌^◌, ◌≤◌}
use Rattle.ground.proofs.Congruence.{Same, same_refl, same_add}
use Rattle.algebra.specs.Polynomial.{Poly, sum_if, reduce}
use Rattle.algebra.proofs.Values.{keep}
use Rattle.algebra.proofs.Sums.{reduce_sums}
use Rattle.words.proofs.Wrap.{cut_cut}
use Rattle.terms.specs.Terms.{rounded}

pub rounded_append : (p q : Poly) → rounded (p ++ q) ≡ rounded p ++ rounded q
unfolding rounded
rounded_append [] q = refl
rounded_append (t ∷ p) q = ap (λ (r : Poly). record { set = t.set; coef = t.coef % 2 ^ 64 } ∷ r) (rounded_append p q)

module _ (k : ℕ) (h : k ≤ 64) where
  -- a coefficient that counts, or not
  pub keep_rounded : (b : Bool) (c : ℕ) → Same (2 ^ k) (keep b (c % 2 ^ 64)) (keep b c)
  keep_rounded true c = record { same = cut_cut k h c }
  keep_rounded false c = same_refl

  sum_rounded : (f : ℕ → Bool) (p : Poly) → Same (2 ^ k) (sum_if f (rounded p)) (sum_if f p)
  unfolding rounded
  sum_rounded f [] = same_refl
  sum_rounded f (t ∷ p) = same_add (keep_rounded (f t.set) t.coef) (sum_rounded f p)

  -- reducing does not see the rounding
  pub reduce_rounded : (p : Poly) → reduce k (rounded p) ≡ reduce k p
  reduce_rounded p = reduce_sums k (rounded p) p (λ f. sum_rounded f p)
