-- The test of equality, values that hang on the variables only, and polynomials that are 0 or 1 everywhere. Assumes nothing.
use mathlib.Core.Path.{◌≡◌, refl, sym, ap, ap₂, ◌∙◌}
use mathlib.Core.Bool.{Bool, true, ◌&&◌}
use mathlib.Core.Logic.{◌⊎◌, ⊎_elim}
use mathlib.Core.List.{[], ◌∷◌}
use Prim.Native.Nat.{ℕ, zero, suc, ◌+◌, ◌-◌, ◌%◌, ◌^◌, ◌<◌}
use native.Mathlib.Nat.{mod-lt, mod-mod, zero-mod, mod_self}
use native.Mathlib.Omega.{arith}
use lib.Pow.{pow_pos}
use lib.Dec.{eqb}
use borrow.Author.Tests.{eqb-true}
use Rattle.ground.proofs.Congruence.{Same, same_mod, same_add, same_refl, same_eq, same_sym, ◌⊳◌}
use Rattle.ground.proofs.Tests.{and_left, and_right}
use Rattle.ground.proofs.Square.{bit_square}
use Rattle.algebra.specs.Polynomial.{bit, Poly, value, vars, equal, product, extension}
use Rattle.algebra.proofs.Values.{keep, sum_at, value_reduce, value_mul}
use Rattle.algebra.proofs.Sets.{AgreeOn, bit_lt, holds_pow, holds_agree, agree_left, agree_right}

pub equal_true : (p q : Poly) → equal p q ≡ true → p ≡ q
unfolding equal
equal_true [] [] e = refl
equal_true [] (t ∷ q) e = cc
equal_true (s ∷ p) [] e = cc
equal_true (s ∷ p) (t ∷ q) e =
    ap₂ ◌∷◌ (λ i. record { set = es i; coef = ec i }) (equal_true p q (and_right (eqb s.set t.set && eqb s.coef t.coef) (equal p q) e))
  where
    both : (eqb s.set t.set && eqb s.coef t.coef) ≡ true
    both = and_left (eqb s.set t.set && eqb s.coef t.coef) (equal p q) e

    es : s.set ≡ t.set
    es = eqb-true s.set t.set (and_left (eqb s.set t.set) (eqb s.coef t.coef) both)

    ec : s.coef ≡ t.coef
    ec = eqb-true s.coef t.coef (and_right (eqb s.set t.set) (eqb s.coef t.coef) both)

sum_at_agree : (a b : ℕ) (p : Poly) → AgreeOn (vars p) a b → sum_at a p ≡ sum_at b p
unfolding vars
sum_at_agree a b [] h = refl
sum_at_agree a b (t ∷ p) h =
    ap₂ (λ (x : Bool) (y : ℕ). keep x t.coef + y) (holds_agree t.set a b (agree_left t.set (vars p) h)) (sum_at_agree a b p (agree_right t.set (vars p) h))

module _ (k : ℕ) where
  pub value_none : (a : ℕ) → value k a [] ≡ 0
  unfolding value
  value_none a = zero-mod (2 ^ k)

  pub value_agree : (a b : ℕ) (p : Poly) → AgreeOn (vars p) a b → value k a p ≡ value k b p
  unfolding value
  value_agree a b p h = ap (λ (x : ℕ). x % 2 ^ k) (sum_at_agree a b p h)

  value_mod : (a : ℕ) (p : Poly) → value k a p % 2 ^ k ≡ value k a p
  unfolding value
  value_mod a p = mod-mod (sum_at a p) (2 ^ k)

  pub value_lt : (a : ℕ) (p : Poly) → value k a p < 2 ^ k
  unfolding value
  value_lt a p = mod-lt (sum_at a p) (pow_pos k)

  -- a polynomial whose square is itself is 0 or 1 at each assignment
  pub bit_cases : (a : ℕ) (p : Poly) → product k p p ≡ p → Same (2 ^ k) (value k a p) 0 ⊎ Same (2 ^ k) (value k a p) 1
  bit_cases a p e = bit_square k (value k a p) (record { same = sym (value_mul k a p p) ∙ ap (value k a) e ∙ sym (value_mod a p) })

  pub bit_valued : (a : ℕ) (p : Poly) → product k p p ≡ p → (d : ℕ) × (d < 2) × Same (2 ^ k) (value k a p) d
  bit_valued a p e = ⊎_elim (λ h. (0, omega arith, h)) (λ h. (1, omega arith, h)) (bit_cases a p e)

  minus : (d : ℕ) → d < 2 → Same (2 ^ k) (keep (eqb d 1) (2 ^ k - 1) + d) 0
  minus zero l = same_refl
  minus (suc zero) l = same_eq (omega (arith, pow_pos k)) ⊳ record { same = mod_self (2 ^ k) ∙ sym (zero-mod (2 ^ k)) }
  minus (suc (suc d)) l = absurd (omega arith)

  -- -v + p is zero where v is p
  pub extension_zero : (a v : ℕ) (p : Poly) → Same (2 ^ k) (value k a p) (bit a v) → value k a (extension k v p) ≡ 0
  unfolding extension value
  extension_zero a v p h =
      value_reduce k a _
      ∙ (same_add (same_eq (ap (λ (x : Bool). keep x (2 ^ k - 1)) (holds_pow v a))) (same_sym (same_mod (sum_at a p)) ⊳ h) ⊳ minus (bit a v) (bit_lt a v)).same
      ∙ zero-mod (2 ^ k)
