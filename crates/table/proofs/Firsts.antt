-- Lists f 0, f 1, ..: lengths, beginnings and rests, when two are equal, and look-ups in a store that is one. Assumes nothing.
use mathlib.Core.Path.{◌≡◌, refl, sym, ap, ap₂, ◌∙◌}
use mathlib.Core.Bool.{true, false, or-true}
use mathlib.Core.List.{List, [], ◌∷◌, ◌++◌, append-nil, append_assoc}
use Prim.Native.Nat.{ℕ, zero, suc, ◌+◌, ◌-◌, ◌≤◌, ◌<◌}
use native.Mathlib.Numerals.{add-one}
use native.Mathlib.Omega.{arith}
use lib.Dec.{eqb}
use lib.ListN.{length, length-append}
use borrow.Author.Tests.{eq-eqb, ne_eqb}
use Rattle.ground.specs.Lists.{any}
use Rattle.ground.proofs.Tests.{or_none_left, or_none_right}
use Rattle.paper.specs.Rules.{Entry, Store, stored, find, remove}
use Rattle.paper.proofs.Store.{stored_append, find_append}
use Rattle.table.specs.Table.{firsts}

module _ {A : Type 0} where
  pub firsts_length : (f : ℕ → A) (n : ℕ) → length (firsts f n) ≡ n
  unfolding firsts
  firsts_length f zero = refl
  firsts_length f (suc n) = omega (arith, length-append (firsts f n) (f n ∷ []), firsts_length f n)

  pub firsts_same : (f g : ℕ → A) (n : ℕ) → ((k : ℕ) → k < n → f k ≡ g k) → firsts f n ≡ firsts g n
  unfolding firsts
  firsts_same f g zero h = refl
  firsts_same f g (suc n) h = ap₂ (λ (xs : List A) (x : A). xs ++ (x ∷ [])) (firsts_same f g n (λ k l. h k (omega arith))) (h n (omega arith))

  pub firsts_more : (f : ℕ → A) (n : ℕ) → firsts f (n + 1) ≡ firsts f n ++ (f n ∷ [])
  unfolding firsts
  firsts_more f n = rw (add-one n)

  firsts_add : (f : ℕ → A) (n m : ℕ) → firsts f (n + m) ≡ firsts f n ++ firsts (λ k. f (n + k)) m
  unfolding firsts
  firsts_add f n zero = let e : n + 0 ≡ n = omega arith in rw e (sym (append-nil (firsts f n)))
  firsts_add f n (suc m) =
      let e : n + suc m ≡ suc (n + m) = omega arith in
      ap (firsts f) e ∙ ap (λ (xs : List A). xs ++ (f (n + m) ∷ [])) (firsts_add f n m) ∙ append_assoc (firsts f n) (firsts (λ k. f (n + k)) m) (f (n + m) ∷ [])

  -- those behind the j-th
  abbrev pub behind : (ℕ → A) → ℕ → ℕ → List A
  behind f j n = firsts (λ k. f (j + 1 + k)) (n - (j + 1))

  pub firsts_split : (f : ℕ → A) (j n : ℕ) → j < n → firsts f n ≡ firsts f j ++ (f j ∷ behind f j n)
  firsts_split f j n h =
      let e : n ≡ j + 1 + (n - (j + 1)) = omega arith in
      ap (firsts f) e ∙ firsts_add f (j + 1) (n - (j + 1)) ∙ ap (λ (xs : List A). xs ++ behind f j n) (firsts_more f j)
      ∙ append_assoc (firsts f j) (f j ∷ []) (behind f j n)

  -- g is f without the j-th
  pub firsts_cut : (f g : ℕ → A) (j n : ℕ) → j < n → ((k : ℕ) → k < j → g k ≡ f k) → ((k : ℕ) → j ≤ k → k + 1 < n → g k ≡ f (k + 1))
      → firsts g (n - 1) ≡ firsts f j ++ behind f j n
  firsts_cut f g j n h before after =
      let m : ℕ = n - (j + 1) in
      let e : n - 1 ≡ j + (n - (j + 1)) = omega arith in
      let shift : (k : ℕ) → k < m → g (j + k) ≡ f (j + 1 + k)
      = λ k l. let i : j + k + 1 ≡ j + 1 + k = omega arith in after (j + k) (omega arith) (omega arith) ∙ ap f i in
      ap (firsts g) e ∙ firsts_add g j m ∙ ap₂ ◌++◌ (firsts_same g f j before) (firsts_same (λ k. g (j + k)) (λ k. f (j + 1 + k)) m shift)

-- ---- look-ups
pub stored_none : (f : ℕ → Entry) (n x : ℕ) → ((k : ℕ) → k < n → (f k).index ≡ x → ⊥) → stored (firsts f n) x ≡ false
unfolding firsts stored any
stored_none f zero x h = refl
stored_none f (suc n) x h =
    stored_append (firsts f n) (f n ∷ []) x
    ∙ rw (stored_none f n x (λ k l. h k (omega arith)), ne_eqb x (f n).index (λ e. h n (omega arith) (sym e)))

module _ (a b : Store) (e : Entry) (x : ℕ) (here : e.index ≡ x) where
  pub stored_split : stored (a ++ (e ∷ b)) x ≡ true
  unfolding stored any
  stored_split = stored_append a (e ∷ b) x ∙ rw (eq-eqb x e.index (sym here)) (or-true (stored a x))

  pub find_split : stored a x ≡ false → find (a ++ (e ∷ b)) x ≡ e.poly
  unfolding find
  find_split h = find_append a (e ∷ b) x ∙ rw (h, eq-eqb x e.index (sym here))

pub remove_split : (a b : Store) (e : Entry) (x : ℕ) → e.index ≡ x → stored a x ≡ false → remove (a ++ (e ∷ b)) x ≡ a ++ b
unfolding remove stored any
remove_split [] b e x here h = rw (eq-eqb x e.index (sym here))
remove_split (y ∷ a) b e x here h =
    rw (or_none_left (eqb x y.index) (stored a x) h) (ap (λ (s : Store). y ∷ s) (remove_split a b e x here (or_none_right (eqb x y.index) (stored a x) h)))
