-- The union of sets in any grouping, and the variables of two polynomials together. Assumes nothing.
use mathlib.Core.Path.{◌≡◌, sym, ap, ◌∙◌}
use mathlib.Core.List.{[], ◌∷◌, ◌++◌}
use Prim.Native.Nat.{ℕ, max}
use native.Mathlib.Omega.{arith}
use lib.Bits.{bit_or, or_zero_l}
use Rattle.algebra.specs.Polynomial.{bit, Poly, vars}
use Rattle.algebra.proofs.Sets.{bit_or_law, bit_ext}

pub or_assoc : (a b c : ℕ) → bit_or (bit_or a b) c ≡ bit_or a (bit_or b c)
or_assoc a b c = bit_ext (bit_or (bit_or a b) c) (bit_or a (bit_or b c)) (λ v.
    bit_or_law (bit_or a b) c v ∙ ap (λ (x : ℕ). max x (bit c v)) (bit_or_law a b v) ∙ regroup (bit a v) (bit b v) (bit c v)
    ∙ sym (bit_or_law a (bit_or b c) v ∙ ap (max (bit a v)) (bit_or_law b c v)))
  where
    regroup : (x y z : ℕ) → max (max x y) z ≡ max x (max y z)
    regroup x y z = omega arith

pub vars_append : (p q : Poly) → vars (p ++ q) ≡ bit_or (vars p) (vars q)
unfolding vars
vars_append [] q = sym (or_zero_l (vars q))
vars_append (t ∷ p) q = ap (bit_or t.set) (vars_append p q) ∙ sym (or_assoc t.set (vars p) (vars q))
