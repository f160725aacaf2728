-- The reduced form is reduced, is the only such list with its coefficients, and so is what any way of sorting gives. Assumes nothing.
use mathlib.Core.Path.{◌≡◌, refl, sym, ap, ap₂, ◌∙◌, subst}
use mathlib.Core.Bool.{Bool}
use mathlib.Core.Logic.{⊎_elim}
use mathlib.Core.List.{[], ◌∷◌}
use Prim.Native.Nat.{ℕ, ◌+◌, ◌%◌, ◌^◌, ◌≤◌, ◌<◌}
use native.Mathlib.Nat.{mod-lt}
use native.Mathlib.Omega.{arith}
use lib.Pow.{pow_pos}
use lib.Dec.{eqb, ltb}
use borrow.Author.Tests.{eqb-true, eqb-false, eq-eqb, ne_eqb, ltb-true, ltb-false}
use Rattle.ground.proofs.Congruence.{Same, same_sym, same_lt, ◌⊳◌}
use Rattle.ground.proofs.Tests.{by_cond, split}
use Rattle.algebra.specs.Polynomial.{Term, Poly, coef_of, put, insert, reduce, Below, Reduced}
use Rattle.algebra.proofs.Values.{keep, sum_reduce}

-- a term that is not of the set n leaves its coefficient
coef_skip : (n : ℕ) (t : Term) (p : Poly) → n < t.set → coef_of n (t ∷ p) ≡ coef_of n p
unfolding coef_of
coef_skip n t p h = omega (arith, ap (λ (x : Bool). keep x t.coef) (ne_eqb t.set n (λ e. omega arith)))

module _ (k : ℕ) where
  reduced_weaken : {a b : ℕ} (p : Poly) → a ≤ b → Reduced k a p → Reduced k b p
  reduced_weaken [] h c = tt
  reduced_weaken (t ∷ p) h c = (omega arith, c.1, c.2, c.3)

  reduced_put : {b : ℕ} (m c : ℕ) (p : Poly) → m < b → Reduced k m p → Reduced k b (put k m c p)
  unfolding put
  reduced_put {b} m c p h q =
      by_cond (Reduced k b) (eqb (c % 2 ^ k) 0)
      (λ e. reduced_weaken p (omega arith) q)
      (λ e. (h, omega (arith, eqb-false (c % 2 ^ k) 0 e), mod-lt c (pow_pos k), q))

  reduced_insert : {b : ℕ} (m c : ℕ) (p : Poly) → m < b → Reduced k b p → Reduced k b (insert k m c p)
  unfolding insert
  reduced_insert m c [] h q = reduced_put m c [] h tt
  reduced_insert {b} m c (t ∷ p) h q =
      by_cond (Reduced k b) (eqb m t.set)
      (λ e. reduced_put m (c + t.coef) p h (subst (λ (x : ℕ). Reduced k x p) (sym (eqb-true m t.set e)) q.3))
      (λ e. by_cond (Reduced k b) (ltb t.set m)
      (λ l. reduced_put m c (t ∷ p) h (ltb-true t.set m l, q.1, q.2, q.3))
      (λ l. (q.0, q.1, q.2, reduced_insert m c p (omega (arith, ltb-false t.set m l, eqb-false m t.set e)) q.3)))

  pub reduced_reduce : (b : ℕ) (p : Poly) → Below b p → Reduced k b (reduce k p)
  unfolding reduce
  reduced_reduce b [] h = tt
  reduced_reduce b (t ∷ p) h = reduced_insert t.set t.coef (reduce k p) h.0 (reduced_reduce b p h.1)

  -- ---- the coefficient of a set
  coef_none : (b n : ℕ) (p : Poly) → Reduced k b p → b ≤ n → coef_of n p ≡ 0
  unfolding coef_of
  coef_none b n [] c h = refl
  coef_none b n (t ∷ p) c h =
      ap₂ (λ (x : Bool) (y : ℕ). keep x t.coef + y) (ne_eqb t.set n (λ e. omega arith)) (coef_none t.set n p c.3 (omega arith))

  coef_head : (b : ℕ) (t : Term) (p : Poly) → Reduced k b (t ∷ p) → coef_of t.set (t ∷ p) ≡ t.coef
  unfolding coef_of
  coef_head b t p c =
      ap₂ (λ (x : Bool) (y : ℕ). keep x t.coef + y) (eq-eqb t.set t.set refl) (coef_none t.set t.set p c.3 (omega arith)) ∙ omega arith

  coef_lt : (b n : ℕ) (p : Poly) → Reduced k b p → coef_of n p < 2 ^ k
  unfolding coef_of
  coef_lt b n [] c = pow_pos k
  coef_lt b n (t ∷ p) c =
      ⊎_elim
      (λ e. omega (arith, ap (λ (x : Bool). keep x t.coef) e, coef_none t.set n p c.3 (omega (arith, eqb-true t.set n e))))
      (λ e. omega (arith, ap (λ (x : Bool). keep x t.coef) e, coef_lt t.set n p c.3))
      (split (eqb t.set n))

  -- two reduced forms with the same coefficients are one
  unique : (b : ℕ) (p q : Poly) → Reduced k b p → Reduced k b q → ((n : ℕ) → n < b → coef_of n p ≡ coef_of n q) → p ≡ q
  unique b [] [] c d h = refl
  unique b [] (t ∷ q) c d h = absurd (omega (arith, h t.set d.0, coef_head b t q d, coef_none 0 t.set [] tt (omega arith)))
  unique b (s ∷ p) [] c d h = absurd (omega (arith, h s.set c.0, coef_head b s p c, coef_none 0 s.set [] tt (omega arith)))
  unique b (s ∷ p) (t ∷ q) c d h =
      ap₂ ◌∷◌ (λ i. record { set = es i; coef = ec i })
      (unique s.set p q c.3 dq (λ n l. sym (coef_skip n s p l) ∙ h n (omega arith) ∙ coef_skip n t q (omega (arith, es))))
    where
      low : s.set < t.set → ⊥
      low l = omega (arith, h t.set d.0, coef_head b t q d, coef_none t.set t.set (s ∷ p) (l, c.1, c.2, c.3) (omega arith))

      high : t.set < s.set → ⊥
      high l = omega (arith, h s.set c.0, coef_head b s p c, coef_none s.set s.set (t ∷ q) (l, d.1, d.2, d.3) (omega arith))

      es : s.set ≡ t.set
      es = ⊎_elim (λ e. eqb-true s.set t.set e)
          (λ e. ⊎_elim (λ l. absurd (low (ltb-true s.set t.set l)))
          (λ l. absurd (high (omega (arith, ltb-false s.set t.set l, eqb-false s.set t.set e)))) (split (ltb s.set t.set)))
          (split (eqb s.set t.set))

      ec : s.coef ≡ t.coef
      ec = sym (coef_head b s p c) ∙ h s.set c.0 ∙ ap (λ (n : ℕ). coef_of n (t ∷ q)) es ∙ coef_head b t q d

      dq : Reduced k s.set q
      dq = subst (λ (n : ℕ). Reduced k n q) (sym es) d.3

  -- any list in reduced form with the coefficients of p is p's reduced form
  pub is_reduce : (b : ℕ) (p q : Poly) → Below b p → Reduced k b q → ((n : ℕ) → n < b → Same (2 ^ k) (coef_of n q) (coef_of n p)) → q ≡ reduce k p
  unfolding coef_of
  is_reduce b p q hp c h =
      unique b q (reduce k p) c (reduced_reduce b p hp)
      (λ n l. same_lt (coef_lt b n q c) (coef_lt b n (reduce k p) (reduced_reduce b p hp)) (h n l ⊳ same_sym (sum_reduce k (λ m. eqb m n) p)))
