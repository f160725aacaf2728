-- Polynomials with the same sums of coefficients modulo 2 ^ k have one reduced form, whatever the order of their terms. Assumes nothing.
use mathlib.Core.Path.{◌≡◌}
use mathlib.Core.Bool.{Bool}
use mathlib.Core.List.{[], ◌∷◌}
use Prim.Native.Nat.{ℕ, suc, ◌+◌, ◌^◌, ◌≤◌}
use native.Mathlib.Omega.{arith}
use lib.Dec.{eqb}
use Rattle.ground.proofs.Congruence.{Same, ◌⊳◌}
use Rattle.algebra.specs.Polynomial.{Poly, sum_if, coef_of, reduce, Below}
use Rattle.algebra.proofs.Values.{sum_reduce}
use Rattle.algebra.proofs.Reduced.{is_reduce, reduced_reduce}

-- a number above every set of p
pub bound : Poly → ℕ
bound [] = 0
bound (t ∷ p) = suc t.set + bound p

pub below_bound : (b : ℕ) (p : Poly) → bound p ≤ b → Below b p
unfolding bound
below_bound b [] h = tt
below_bound b (t ∷ p) h = (omega arith, below_bound b p (omega arith))

pub reduce_sums : (k : ℕ) (p q : Poly) → ((f : ℕ → Bool) → Same (2 ^ k) (sum_if f p) (sum_if f q)) → reduce k p ≡ reduce k q
unfolding coef_of
reduce_sums k p q h =
    let b : ℕ = bound p + bound q in
    is_reduce k b q (reduce k p) (below_bound b q (omega arith)) (reduced_reduce k b p (below_bound b p (omega arith)))
    (λ n l. sum_reduce k (λ m. eqb m n) p ⊳ h (λ m. eqb m n))
