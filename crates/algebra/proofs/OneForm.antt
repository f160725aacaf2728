-- The values at all assignments decide the coefficients, and so the reduced form. Assumes nothing.
use mathlib.Core.Path.{◌≡◌, refl, sym, ap, ◌∙◌, subst, fun_ext}
use mathlib.Core.Bool.{Bool, true, false, ◌&&◌, and-false}
use mathlib.Core.Logic.{⊎_elim, ◌↔◌}
use mathlib.Core.List.{[], ◌∷◌}
use Prim.Native.Nat.{ℕ, zero, suc, ◌+◌, ◌^◌, ◌≤◌, ◌<◌}
use native.Mathlib.Omega.{arith}
use lib.Pow.{pow_pos}
use lib.Dec.{eqb, ltb}
use borrow.Author.Tests.{eqb-true, eqb-false, ltb-true, ltb-false, lt-ltb, le-ltb}
use Rattle.ground.proofs.Congruence.{Same, same_add, same_cancel, same_eq, ◌⊳◌}
use Rattle.ground.proofs.Tests.{split, bool_ext, and_both, and_left}
use Rattle.algebra.specs.Polynomial.{holds, Poly, sum_if, coef_of, value, reduce, Below}
use Rattle.algebra.proofs.Values.{keep, sum_at, keep_add, keep_same, sum_reduce, value_reduce}
use Rattle.algebra.proofs.Sets.{holds_refl, holds_le}
use Rattle.algebra.proofs.Reduced.{is_reduce, reduced_reduce}

keep_both : (x : Bool) (c : ℕ) → keep (x && true) c ≡ keep (x && false) c + keep x c
keep_both true c = omega arith
keep_both false c = refl

keep_none : (x : Bool) → keep x 0 ≡ 0
keep_none true = refl
keep_none false = refl

module _ (f : ℕ → Bool) (b : ℕ) where
  keep_step : (n c : ℕ) → keep (f n && ltb n (suc b)) c ≡ keep (f n && ltb n b) c + keep (f b) (keep (eqb n b) c)
  keep_step n c = ⊎_elim same other (split (eqb n b))
    where
      same : eqb n b ≡ true → keep (f n && ltb n (suc b)) c ≡ keep (f n && ltb n b) c + keep (f b) (keep (eqb n b) c)
      same e =
          let en : n ≡ b = eqb-true n b e in
          rw (e, lt-ltb n (suc b) (omega arith), le-ltb n b (omega arith), en) (keep_both (f b) c)

      other : eqb n b ≡ false → keep (f n && ltb n (suc b)) c ≡ keep (f n && ltb n b) c + keep (f b) (keep (eqb n b) c)
      other e =
          let ne : n ≡ b → ⊥ = eqb-false n b e in
          let el : ltb n (suc b) ≡ ltb n b = bool_ext (ltb n (suc b)) (ltb n b)
          (λ l. lt-ltb n b (omega (arith, ltb-true n (suc b) l))) (λ l. lt-ltb n (suc b) (omega (arith, ltb-true n b l))) in
          rw (e, el, keep_none) (omega arith)

  sum_step : (p : Poly) → sum_if (λ n. f n && ltb n (suc b)) p ≡ sum_if (λ n. f n && ltb n b) p + keep (f b) (coef_of b p)
  unfolding coef_of
  sum_step [] = rw keep_none
  sum_step (t ∷ p) = omega (arith, keep_step t.set t.coef, sum_step p, keep_add (f b) (keep (eqb t.set b) t.coef) (coef_of b p))

sum_below_none : (f : ℕ → Bool) (p : Poly) → sum_if (λ n. f n && ltb n 0) p ≡ 0
sum_below_none f [] = refl
sum_below_none f (t ∷ p) = rw (le-ltb t.set 0 (omega arith), and-false) (omega (arith, sum_below_none f p))

sum_at_split : (m : ℕ) (p : Poly) → sum_at m p ≡ sum_if (λ n. holds n m && ltb n m) p + coef_of m p
sum_at_split m p =
    ap (λ (g : ℕ → Bool). sum_if g p) (fun_ext (λ n. bool_ext (holds n m) (holds n m && ltb n (suc m))
    (λ e. and_both (holds n m) (ltb n (suc m)) e (lt-ltb n (suc m) (omega (arith, holds_le n m e)))) (λ e. and_left (holds n m) (ltb n (suc m)) e)))
    ∙ sum_step (λ n. holds n m) m p
    ∙ ap (λ (x : Bool). sum_if (λ n. holds n m && ltb n m) p + keep x (coef_of m p)) (holds_refl m)

module _ (k : ℕ) (p q : Poly) where
  upto : (b : ℕ) → ((n : ℕ) → n < b → Same (2 ^ k) (coef_of n p) (coef_of n q)) → (f : ℕ → Bool)
      → Same (2 ^ k) (sum_if (λ n. f n && ltb n b) p) (sum_if (λ n. f n && ltb n b) q)
  upto zero h f = same_eq (sum_below_none f p ∙ sym (sum_below_none f q))
  upto (suc b) h f =
      same_eq (sum_step f b p) ⊳ same_add (upto b (λ n l. h n (omega arith)) f) (keep_same (f b) (h b (omega arith))) ⊳ same_eq (sym (sum_step f b q))

  coefs_agree : (B : ℕ) → ((a : ℕ) → a < B → Same (2 ^ k) (sum_at a p) (sum_at a q)) → (b : ℕ) → b ≤ B
      → (n : ℕ) → n < b → Same (2 ^ k) (coef_of n p) (coef_of n q)
  coefs_agree B h zero l n ln = absurd (omega arith)
  coefs_agree B h (suc b) l n ln =
      ⊎_elim (λ e. coefs_agree B h b (omega arith) n (ltb-true n b e))
      (λ e. subst (λ (x : ℕ). Same (2 ^ k) (coef_of x p) (coef_of x q)) (omega (arith, ltb-false n b e))
      (same_cancel (pow_pos k) (upto b (coefs_agree B h b (omega arith)) (λ m. holds m b))
      (same_eq (sym (sum_at_split b p)) ⊳ h b (omega arith) ⊳ same_eq (sum_at_split b q))))
      (split (ltb n b))

  -- two polynomials reduce to one form exactly when they agree at every assignment
  pub one_form : (B : ℕ) → Below B p → Below B q → (reduce k p ≡ reduce k q) ↔ ((a : ℕ) → a < B → value k a p ≡ value k a q)
  unfolding coef_of value
  one_form B hp hq = (to, from)
    where
      to : reduce k p ≡ reduce k q → (a : ℕ) → a < B → value k a p ≡ value k a q
      to e a l = sym (value_reduce k a p) ∙ ap (value k a) e ∙ value_reduce k a q

      coefs : ((a : ℕ) → a < B → Same (2 ^ k) (sum_at a p) (sum_at a q)) → reduce k p ≡ reduce k q
      coefs h = is_reduce k B q (reduce k p) hq (reduced_reduce k B p hp) (λ n l. sum_reduce k (λ m. eqb m n) p ⊳ coefs_agree B h B (omega arith) n l)

      from : ((a : ℕ) → a < B → value k a p ≡ value k a q) → reduce k p ≡ reduce k q
      from h = coefs (λ a l. record { same = h a l })
