-- The store as a table: look-ups after adding and removing an entry. Assumes nothing.
use mathlib.Core.Path.{◌≡◌, refl, sym, ap, ◌∙◌, subst}
use mathlib.Core.Bool.{Bool, true, false, ◌||◌, cond, or_assoc}
use mathlib.Core.List.{[], ◌∷◌, ◌++◌}
use Prim.Native.Nat.{ℕ, suc, ◌+◌}
use native.Mathlib.Nat.{zero-add}
use native.Mathlib.Omega.{arith}
use lib.Dec.{eqb}
use lib.ListN.{length}
use borrow.Author.Tests.{eqb-true, eqb-false}
use Rattle.ground.specs.Lists.{any, total}
use Rattle.ground.proofs.Tests.{by_cond, or_none_left, or_none_right}
use Rattle.algebra.specs.Polynomial.{Poly}
use Rattle.paper.specs.Rules.{Entry, Store, stored, Distinct, find, remove, stored_terms}

find_none : (s : Store) (i : ℕ) → stored s i ≡ false → find s i ≡ []
unfolding stored find any
find_none [] i h = refl
find_none (e ∷ s) i h =
    rw (or_none_left (eqb i e.index) (stored s i) h) (find_none s i (or_none_right (eqb i e.index) (stored s i) h))

pub stored_append : (s t : Store) (i : ℕ) → stored (s ++ t) i ≡ (stored s i || stored t i)
unfolding stored any
stored_append [] t i = refl
stored_append (e ∷ s) t i = ap (λ (b : Bool). eqb i e.index || b) (stored_append s t i) ∙ sym (or_assoc (eqb i e.index) (stored s i) (stored t i))

pub find_append : (s t : Store) (i : ℕ) → find (s ++ t) i ≡ cond (stored s i) (find s i) (find t i)
unfolding stored find any
find_append [] t i = refl
find_append (e ∷ s) t i = go (eqb i e.index) (find_append s t i)
  where
    go : (b : Bool) → find (s ++ t) i ≡ cond (stored s i) (find s i) (find t i)
        → cond b e.poly (find (s ++ t) i) ≡ cond (b || stored s i) (cond b e.poly (find s i)) (find t i)
    go true h = refl
    go false h = h

find_or_none : (s : Store) (i : ℕ) → cond (stored s i) (find s i) [] ≡ find s i
find_or_none s i = go (stored s i) refl
  where
    go : (b : Bool) → stored s i ≡ b → cond b (find s i) [] ≡ find s i
    go true q = refl
    go false q = sym (find_none s i q)

-- an entry under a free index
pub find_new : (s : Store) (i : ℕ) (p : Poly) (j : ℕ) → stored s i ≡ false → find (s ++ (record { index = i; poly = p } ∷ [])) j ≡ cond (eqb j i) p (find s j)
unfolding find
find_new s i p j free = find_append s (record { index = i; poly = p } ∷ []) j ∙ go (eqb j i) refl
  where
    go : (b : Bool) → eqb j i ≡ b → cond (stored s j) (find s j) (cond b p []) ≡ cond b p (find s j)
    go true q = rw (subst (λ (x : ℕ). stored s x ≡ false) (sym (eqb-true j i q)) free) refl
    go false q = find_or_none s j

pub terms_append : (s t : Store) → stored_terms (s ++ t) ≡ stored_terms s + stored_terms t
unfolding stored_terms total
terms_append [] t = sym (zero-add _)
terms_append (e ∷ s) t = omega (arith, terms_append s t)

pub distinct_append : (s : Store) (e : Entry) → Distinct s → stored s e.index ≡ false → Distinct (s ++ (e ∷ []))
unfolding stored any
distinct_append [] e d h = (refl, tt)
distinct_append (x ∷ s) e d h = (
  stored_append s (e ∷ []) x.index ∙ rw d.0 (other (eqb x.index e.index) refl),
  distinct_append s e d.1 (or_none_right (eqb e.index x.index) (stored s e.index) h),
)
  where
    other : (b : Bool) → eqb x.index e.index ≡ b → (b || false) ≡ false
    other false q = refl
    other true q =
        absurd (eqb-false e.index x.index (or_none_left (eqb e.index x.index) (stored s e.index) h) (sym (eqb-true x.index e.index q)))

-- ---- removing
stored_remove : (s : Store) (i j : ℕ) → stored s j ≡ false → stored (remove s i) j ≡ false
unfolding stored remove any
stored_remove [] i j h = refl
stored_remove (e ∷ s) i j h =
    by_cond (λ (t : Store). stored t j ≡ false) (eqb i e.index) (λ q. or_none_right (eqb j e.index) (stored s j) h)
    (λ q. rw (or_none_left (eqb j e.index) (stored s j) h) (stored_remove s i j (or_none_right (eqb j e.index) (stored s j) h)))

pub distinct_remove : (s : Store) (i : ℕ) → Distinct s → Distinct (remove s i)
unfolding remove
distinct_remove [] i d = tt
distinct_remove (e ∷ s) i d = by_cond Distinct (eqb i e.index) (λ q. d.1) (λ q. (stored_remove s i e.index d.0, distinct_remove s i d.1))

pub find_remove : (s : Store) (i j : ℕ) → Distinct s → find (remove s i) j ≡ cond (eqb j i) [] (find s j)
unfolding find remove
find_remove [] i j d = by_cond (λ (p : Poly). ◌≡◌ {A = Poly} [] p) (eqb j i) (λ q. refl) (λ q. refl)
find_remove (e ∷ s) i j d =
    by_cond (λ (t : Store). find t j ≡ cond (eqb j i) [] (cond (eqb j e.index) e.poly (find s j))) (eqb i e.index) here (there (find_remove s i j d.1))
  where
    here : eqb i e.index ≡ true → find s j ≡ cond (eqb j i) [] (cond (eqb j e.index) e.poly (find s j))
    here q = rw (eqb-true i e.index q) (go (eqb j e.index) refl)
      where
        go : (b : Bool) → eqb j e.index ≡ b → find s j ≡ cond b [] (cond b e.poly (find s j))
        go true t = find_none s j (subst (λ (x : ℕ). stored s x ≡ false) (sym (eqb-true j e.index t)) d.0)
        go false t = refl

    there : find (remove s i) j ≡ cond (eqb j i) [] (find s j) → eqb i e.index ≡ false → find (e ∷ remove s i) j ≡ cond (eqb j i) [] (cond (eqb j e.index) e.poly (find s j))
    there ih q = go (eqb j e.index) (eqb j i) refl refl ih
      where
        go : (b c : Bool) → eqb j e.index ≡ b → eqb j i ≡ c → find (remove s i) j ≡ cond (eqb j i) [] (find s j)
            → cond b e.poly (find (remove s i) j) ≡ cond c [] (cond b e.poly (find s j))
        go true true t u h = absurd (eqb-false i e.index q (sym (eqb-true j i u) ∙ eqb-true j e.index t))
        go true false t u h = refl
        go false true t u h = rw u at h
        go false false t u h = rw u at h

pub terms_remove : (s : Store) (i : ℕ) → stored s i ≡ true
    → (stored_terms (remove s i) + length (find s i) ≡ stored_terms s) × (length (remove s i) + 1 ≡ length s)
unfolding stored find remove stored_terms any total
terms_remove [] i h = absurd (let z : ◌≡◌ {A = ℕ} 0 1 = cc in omega arith)
terms_remove (e ∷ s) i h = go (eqb i e.index) h (λ f. terms_remove s i f)
  where
    go : (b : Bool) → (b || stored s i) ≡ true
        → (stored s i ≡ true → (stored_terms (remove s i) + length (find s i) ≡ stored_terms s) × (length (remove s i) + 1 ≡ length s))
        → (stored_terms (cond b s (e ∷ remove s i)) + length (cond b e.poly (find s i)) ≡ length e.poly + stored_terms s)
        × (length (cond b s (e ∷ remove s i)) + 1 ≡ suc (length s))
    go true q f = (omega arith, omega arith)
    go false q f = let r = f q in (omega (arith, r.0), omega (arith, r.1))
