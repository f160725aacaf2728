-- A store whose polynomials are zero at an assignment: so are what it names, its combinations, and a goal that it holds. Assumes nothing.
use mathlib.Core.Path.{◌≡◌, sym, ap, ◌∙◌}
use mathlib.Core.Bool.{true}
use mathlib.Core.Logic.{⊎_elim}
use mathlib.Core.List.{List, [], ◌∷◌, ◌++◌}
use Prim.Native.Nat.{ℕ, ◌+◌, ◌^◌}
use native.Mathlib.Nat.{zero-mod, mul-zero}
use native.Mathlib.Omega.{arith}
use lib.Dec.{eqb}
use Rattle.ground.proofs.Congruence.{Same, same_add, same_mul, same_refl, same_eq, ◌⊳◌}
use Rattle.ground.specs.Lists.{any}
use Rattle.ground.proofs.Tests.{by_cond, or_cases}
use Rattle.algebra.specs.Polynomial.{Poly, value, equal, products, reduce}
use Rattle.algebra.proofs.Values.{sum_at, value_reduce, sum_at_append, sum_at_mul}
use Rattle.algebra.proofs.Bit.{equal_true, value_none}
use Rattle.paper.specs.Statement.{Pair, reduced}
use Rattle.paper.specs.Rules.{Store, find, remove, combination, holds_goal}

module _ (k : ℕ) where
  -- ---- a store whose polynomials are zero
  abbrev pub StoreZero : ℕ → Store → Type 0
  StoreZero a [] = Unit {0}
  StoreZero a (e ∷ s) = (value k a e.poly ≡ 0) × StoreZero a s

  pub zero_append : (a : ℕ) (s t : Store) → StoreZero a s → StoreZero a t → StoreZero a (s ++ t)
  zero_append a [] t h g = g
  zero_append a (e ∷ s) t h g = (h.0, zero_append a s t h.1 g)

  zero_find : (a i : ℕ) (s : Store) → StoreZero a s → value k a (find s i) ≡ 0
  unfolding find
  zero_find a i [] h = value_none k a
  zero_find a i (e ∷ s) h = by_cond (λ (p : Poly). value k a p ≡ 0) (eqb i e.index) (λ t. h.0) (λ t. zero_find a i s h.1)

  pub zero_remove : (a i : ℕ) (s : Store) → StoreZero a s → StoreZero a (remove s i)
  unfolding remove
  zero_remove a i [] h = tt
  zero_remove a i (e ∷ s) h = by_cond (StoreZero a) (eqb i e.index) (λ t. h.1) (λ t. (h.0, zero_remove a i s h.1))

  pub zero_goal : (a : ℕ) (g : Poly) (s : Store) → StoreZero a s → holds_goal g s ≡ true → value k a g ≡ 0
  unfolding holds_goal any
  zero_goal a g [] h e = absurd (let z : ◌≡◌ {A = ℕ} 0 1 = cc in omega arith)
  zero_goal a g (x ∷ s) h e =
      ⊎_elim (λ t. ap (value k a) (sym (equal_true x.poly g t)) ∙ h.0) (λ t. zero_goal a g s h.1 t)
      (or_cases (equal x.poly g) (any (λ e. equal e.poly g) s) e)

  -- a combination of stored polynomials is zero where they are
  zero_combination : (a : ℕ) (qs : List Pair) (s : Store) → StoreZero a s → Same (2 ^ k) (sum_at a (combination k (find s) qs)) 0
  unfolding combination value
  zero_combination a [] s h = same_refl
  zero_combination a (q ∷ qs) s h =
      same_eq (sum_at_append a (products (reduced k q.factor) (find s q.index)) (combination k (find s) qs)
      ∙ ap (λ (x : ℕ). x + sum_at a (combination k (find s) qs)) (sum_at_mul a (reduced k q.factor) (find s q.index)))
      ⊳ same_add (same_mul same_refl (record { same = zero_find a q.index s h ∙ sym (zero-mod (2 ^ k)) })
      ⊳ same_eq (mul-zero (sum_at a (reduced k q.factor)))) (zero_combination a qs s h)

  pub zero_stated : (a : ℕ) (p : Poly) (qs : List Pair) (s : Store) → StoreZero a s → p ≡ reduce k (combination k (find s) qs) → value k a p ≡ 0
  unfolding value
  zero_stated a p qs s h e =
      ap (value k a) e ∙ value_reduce k a (combination k (find s) qs)
      ∙ (zero_combination a qs s h).same ∙ zero-mod (2 ^ k)
