-- Whether a goal is one of the stored polynomials, its copy, and comparing runs that begin inside a slice. Assumes nothing.
use mathlib.Core.Path.{◌≡◌, refl, sym, ap, ap₂, subst, ◌∙◌}
use mathlib.Core.Bool.{Bool, true, false, ◌||◌, or_assoc}
use mathlib.Core.List.{List, [], ◌∷◌, ◌++◌}
use Prim.Native.Nat.{ℕ, ◌+◌, ◌-◌, ◌<◌}
use lib.ListN.{length, drop}
use Rattle.ground.specs.Lists.{any}
use Rattle.words.specs.Parts.{part}
use Rattle.words.proofs.Parts.{part_rest}
use Rattle.algebra.specs.Polynomial.{Poly, equal}
use Rattle.terms.specs.Terms.{decode}
use Rattle.paper.specs.Rules.{Entry, Store, holds_goal}
use Rattle.table.specs.Table.{firsts, poly_at, entry_at, store_of_columns}
use Rattle.table.proofs.Firsts.{behind, firsts_more, firsts_split}

-- ---- runs in the rest of a slice
pub rests_equal : (m n a b : ℕ) (s : List ℕ)
    → equal (decode m (part a (length s - a) s)) (decode n (part b (length s - b) s)) ≡ equal (decode m (drop a s)) (decode n (drop b s))
rests_equal m n a b s = ap₂ (λ (x y : List ℕ). equal (decode m x) (decode n y)) (part_rest a s) (part_rest b s)

-- ---- the stored polynomials
holds_append : (g : Poly) (s t : Store) → holds_goal g (s ++ t) ≡ (holds_goal g s || holds_goal g t)
unfolding holds_goal any
holds_append g [] t = refl
holds_append g (e ∷ s) t = ap (λ (b : Bool). equal e.poly g || b) (holds_append g s t) ∙ sym (or_assoc (equal e.poly g) (holds_goal g s) (holds_goal g t))

-- none of the first j is g, whatever their indices
pub record NoneIs (starts counts pool : List ℕ) (g : Poly) (j : ℕ) : Type 0 where
  pub under : (indices : List ℕ) → holds_goal g (store_of_columns indices starts counts pool j) ≡ false

module _ {starts counts pool : List ℕ} {g : Poly} where
  pub none_start : NoneIs starts counts pool g 0
  unfolding holds_goal firsts any
  none_start = record { under = λ indices. refl }

  -- t tells whether the j-th is g
  module _ {j : ℕ} {t : Bool} (e : t ≡ equal (poly_at starts counts pool j) g) (none : NoneIs starts counts pool g j) where
    pub none_more : t ≡ false → NoneIs starts counts pool g (j + 1)
    unfolding holds_goal any
    none_more f = record { under = more }
      where
        more : (indices : List ℕ) → holds_goal g (store_of_columns indices starts counts pool (j + 1)) ≡ false
        more indices =
            let at : ℕ → Entry = entry_at indices starts counts pool in
            ap (holds_goal g) (firsts_more at j) ∙ holds_append g (firsts at j) (at j ∷ []) ∙ rw (none.under indices, ← e, f)

    pub one_is : (stored : ℕ) → j < stored → t ≡ true → (indices : List ℕ) → true ≡ holds_goal g (store_of_columns indices starts counts pool stored)
    unfolding holds_goal any
    one_is stored h f indices =
        let at : ℕ → Entry = entry_at indices starts counts pool in
        sym (ap (holds_goal g) (firsts_split at j stored h) ∙ holds_append g (firsts at j) (at j ∷ behind at j stored) ∙ rw (none.under indices, ← e, f))

  pub none_end : {j stored : ℕ} → j ≡ stored → NoneIs starts counts pool g j → (indices : List ℕ) → false ≡ holds_goal g (store_of_columns indices starts counts pool stored)
  none_end e none indices = sym (subst (λ (n : ℕ). holds_goal g (store_of_columns indices starts counts pool n) ≡ false) e (none.under indices))
