-- A reduced sum or product has the sum or product of the values. Assumes nothing.
use mathlib.Core.Path.{◌≡◌, refl, sym, ap, ap₂, ◌∙◌}
use mathlib.Core.Bool.{Bool, true, false, ◌&&◌, cond}
use mathlib.Core.List.{[], ◌∷◌, ◌++◌}
use Prim.Native.Nat.{ℕ, ◌+◌, ◌*◌, ◌%◌, ◌^◌}
use native.Mathlib.Nat.{mul-add, add-mul, mul-zero, zero-mul, zero-mod, zero-add}
use native.Mathlib.Omega.{arith}
use lib.Dec.{eqb, ltb}
use borrow.Author.Tests.{eqb-true}
use Rattle.ground.proofs.Congruence.{Same, same_mod, same_add, same_mul, same_refl, same_eq, same_sym, ◌⊳◌}
use Rattle.ground.proofs.Tests.{by_cond}
use Rattle.algebra.specs.Polynomial.{holds, Term, Poly, sum_if, value, times, products, put, insert, reduce, product}
use Rattle.algebra.proofs.Sets.{holds_or}

-- c where the test passes, else 0
abbrev pub keep : Bool → ℕ → ℕ
keep b c = cond b c 0

-- the terms that are 1 at an assignment
abbrev pub sum_at : ℕ → Poly → ℕ
sum_at a p = sum_if (λ m. holds m a) p

pub keep_add : (b : Bool) (c d : ℕ) → keep b (c + d) ≡ keep b c + keep b d
keep_add true c d = refl
keep_add false c d = refl

keep_mul : (a b : Bool) (c d : ℕ) → keep (a && b) (c * d) ≡ keep a c * keep b d
keep_mul true true c d = refl
keep_mul true false c d = sym (mul-zero c)
keep_mul false b c d = sym (zero-mul (keep b d))

pub sum_if_append : (f : ℕ → Bool) (p q : Poly) → sum_if f (p ++ q) ≡ sum_if f p + sum_if f q
sum_if_append f [] q = omega arith
sum_if_append f (t ∷ p) q = omega (arith, sum_if_append f p q)

pub sum_at_append : (a : ℕ) (p q : Poly) → sum_at a (p ++ q) ≡ sum_at a p + sum_at a q
sum_at_append a p q = sum_if_append (λ m. holds m a) p q

sum_at_times : (a : ℕ) (t : Term) (q : Poly) → sum_at a (times t q) ≡ keep (holds t.set a) t.coef * sum_at a q
unfolding times
sum_at_times a t [] = sym (mul-zero _)
sum_at_times a t (u ∷ q) =
    ap₂ (λ (x y : ℕ). x + y)
    (ap (λ (b : Bool). keep b (t.coef * u.coef)) (holds_or t.set u.set a) ∙ keep_mul (holds t.set a) (holds u.set a) t.coef u.coef)
    (sum_at_times a t q)
    ∙ sym (mul-add (keep (holds t.set a) t.coef) (keep (holds u.set a) u.coef) (sum_at a q))

pub sum_at_mul : (a : ℕ) (p q : Poly) → sum_at a (products p q) ≡ sum_at a p * sum_at a q
unfolding products
sum_at_mul a [] q = sym (zero-mul (sum_at a q))
sum_at_mul a (t ∷ p) q =
    sum_at_append a (times t q) (products p q) ∙ ap₂ (λ (x y : ℕ). x + y) (sum_at_times a t q) (sum_at_mul a p q)
    ∙ sym (add-mul (keep (holds t.set a) t.coef) (sum_at a p) (sum_at a q))

pub keep_same : {M c d : ℕ} (b : Bool) → Same M c d → Same M (keep b c) (keep b d)
keep_same true h = h
keep_same false h = same_refl

keep_zero : {M : ℕ} (b : Bool) (c : ℕ) → c % M ≡ 0 → Same M 0 (keep b c)
keep_zero {M} true c e = record { same = zero-mod M ∙ sym e }
keep_zero false c e = same_refl

module _ (k : ℕ) (f : ℕ → Bool) where
  sum_put : (m c : ℕ) (p : Poly) → Same (2 ^ k) (sum_if f (put k m c p)) (keep (f m) c + sum_if f p)
  unfolding put
  sum_put m c p =
      by_cond (λ (q : Poly). Same (2 ^ k) (sum_if f q) (keep (f m) c + sum_if f p)) (eqb (c % 2 ^ k) 0)
      (λ e. same_eq (sym (zero-add (sum_if f p))) ⊳ same_add (keep_zero (f m) c (eqb-true (c % 2 ^ k) 0 e)) same_refl)
      (λ e. same_add (keep_same (f m) (same_mod c)) same_refl)

  sum_insert : (m c : ℕ) (p : Poly) → Same (2 ^ k) (sum_if f (insert k m c p)) (keep (f m) c + sum_if f p)
  unfolding insert
  sum_insert m c [] = sum_put m c []
  sum_insert m c (t ∷ p) =
      by_cond (λ (q : Poly). Same (2 ^ k) (sum_if f q) (keep (f m) c + sum_if f (t ∷ p))) (eqb m t.set)
      (λ e. sum_put m (c + t.coef) p ⊳ same_eq (omega (arith, keep_add (f m) c t.coef, ap (λ (x : ℕ). keep (f x) t.coef) (eqb-true m t.set e))))
      (λ e. by_cond (λ (q : Poly). Same (2 ^ k) (sum_if f q) (keep (f m) c + sum_if f (t ∷ p))) (ltb t.set m)
      (λ l. sum_put m c (t ∷ p))
      (λ l. same_add same_refl (sum_insert m c p) ⊳ same_eq (omega arith)))

  pub sum_reduce : (p : Poly) → Same (2 ^ k) (sum_if f (reduce k p)) (sum_if f p)
  unfolding reduce
  sum_reduce [] = same_refl
  sum_reduce (t ∷ p) = sum_insert t.set t.coef (reduce k p) ⊳ same_add same_refl (sum_reduce p)

module _ (k a : ℕ) where
  pub value_reduce : (p : Poly) → value k a (reduce k p) ≡ value k a p
  unfolding value
  value_reduce p = (sum_reduce k (λ m. holds m a) p).same

  pub value_add : (p q : Poly) → value k a (reduce k (p ++ q)) ≡ (value k a p + value k a q) % 2 ^ k
  unfolding value
  value_add p q = value_reduce (p ++ q) ∙ ap (λ (x : ℕ). x % 2 ^ k) (sum_at_append a p q) ∙ (same_add (same_sym (same_mod (sum_at a p))) (same_sym (same_mod (sum_at a q)))).same

  pub value_mul : (p q : Poly) → value k a (product k p q) ≡ (value k a p * value k a q) % 2 ^ k
  unfolding product value
  value_mul p q = value_reduce (products p q) ∙ ap (λ (x : ℕ). x % 2 ^ k) (sum_at_mul a p q) ∙ (same_mul (same_sym (same_mod (sum_at a p))) (same_sym (same_mod (sum_at a q)))).same
