-- The two tests of a statement of a published text from those of its parts. Assumes nothing.
use mathlib.Core.Path.{◌≡◌, refl, ap, ◌∙◌}
use mathlib.Core.Bool.{Bool, true, false, ◌&&◌, ◌||◌, not, and-true, and_comm}
use mathlib.Core.List.{List, [], ◌∷◌, map}
use Prim.Native.Nat.{ℕ}
use Rattle.ground.specs.Lists.{every, any}
use Rattle.paper.specs.Statement.{WrittenOf, PairOf, input, goal, lin, del, ext, renamed_field, renamed_pair, renamed, new_index, named_indices, fields, is_index, is_variable, in_range, numbers_in_range, too_many_terms}
use Rattle.paper.specs.Published.{Name}
use Rattle.reader.proofs.Verdicts.{crossed}
use Rattle.published.specs.Pairs.{field_ranged, field_few, summand_ranged, summand_few}
use Rattle.published.specs.Statements.{unnumbered, statement_ranged, statement_few}

-- ---- numbers
module _ (i : ℕ) where
  pub del_ranged : is_index i ≡ statement_ranged (del i)
  unfolding statement_ranged renamed numbers_in_range new_index named_indices fields every
  del_ranged = simp and-true

  module _ (p : WrittenOf Name) where
    pub input_ranged : (is_index i && field_ranged p) ≡ statement_ranged (input i p)
    unfolding statement_ranged renamed numbers_in_range new_index named_indices fields every field_ranged
    input_ranged = simp and-true

    pub ext_ranged : (v : Name) → (is_index i && field_ranged p) ≡ statement_ranged (ext i v p)
    unfolding statement_ranged renamed numbers_in_range new_index named_indices fields every field_ranged is_variable
    ext_ranged v = simp and-true

pub goal_ranged : (p : WrittenOf Name) → field_ranged p ≡ statement_ranged (goal p)
unfolding statement_ranged renamed numbers_in_range new_index named_indices fields every field_ranged
goal_ranged p = simp and-true

-- the indices of pairs, and their factors
abbrev numbered : List (PairOf Name) → List (PairOf ℕ)
numbered qs = map (renamed_pair unnumbered) qs

pairs_ranged : (qs : List (PairOf Name)) → every summand_ranged qs ≡ (every is_index (map (λ q. q.index) (numbered qs)) && every in_range (map (λ q. q.factor) (numbered qs)))
unfolding every summand_ranged renamed_pair field_ranged
pairs_ranged [] = refl
pairs_ranged (q ∷ qs) =
    ap (λ (b : Bool). (is_index q.index && field_ranged q.factor) && b) (pairs_ranged qs)
    ∙ crossed (is_index q.index) (field_ranged q.factor) (every is_index (map (λ q. q.index) (numbered qs))) (every in_range (map (λ q. q.factor) (numbered qs)))

pub lin_ranged : (i : ℕ) (p : WrittenOf Name) (qs : List (PairOf Name)) → ((is_index i && every summand_ranged qs) && field_ranged p) ≡ statement_ranged (lin i p qs)
unfolding statement_ranged renamed numbers_in_range new_index named_indices fields every field_ranged
lin_ranged i p qs =
    ap (λ (b : Bool). (is_index i && b) && field_ranged p) (pairs_ranged qs)
    ∙ turned (is_index i) (every is_index (map (λ q. q.index) (numbered qs))) (every in_range (map (λ q. q.factor) (numbered qs))) (field_ranged p)
  where
    turned : (i a b p : Bool) → ((i && (a && b)) && p) ≡ ((i && a) && (p && b))
    turned true true b p = and_comm b p
    turned true false b p = refl
    turned false a b p = refl

-- ---- terms
neither : (a b : Bool) → (not b && not a) ≡ not (a || b)
neither true b = and_comm (not b) false
neither false b = and-true (not b)

pub del_few : (i : ℕ) → true ≡ statement_few (del i)
unfolding statement_few renamed fields any
del_few i = refl

pub goal_few : (p : WrittenOf Name) → field_few p ≡ statement_few (goal p)
unfolding field_few statement_few renamed fields any
goal_few p = go (too_many_terms _)
  where
    go : (b : Bool) → not b ≡ not (b || false)
    go true = refl
    go false = refl

pub input_few : (i : ℕ) (p : WrittenOf Name) → field_few p ≡ statement_few (input i p)
unfolding statement_few renamed fields
input_few i p = goal_few p

pub ext_few : (i : ℕ) (v : Name) (p : WrittenOf Name) → field_few p ≡ statement_few (ext i v p)
unfolding statement_few renamed fields
ext_few i v p = goal_few p

pairs_few : (qs : List (PairOf Name)) → every summand_few qs ≡ not (any too_many_terms (map (λ q. q.factor) (numbered qs)))
unfolding every any summand_few renamed_pair field_few
pairs_few [] = refl
pairs_few (q ∷ qs) =
    ap (λ (b : Bool). field_few q.factor && b) (pairs_few qs) ∙ and_comm (field_few q.factor) (not (any too_many_terms (map (λ q. q.factor) (numbered qs)))) ∙ neither (too_many_terms (renamed_field unnumbered q.factor)) (any too_many_terms (map (λ q. q.factor) (numbered qs)))

pub lin_few : (i : ℕ) (p : WrittenOf Name) (qs : List (PairOf Name)) → (every summand_few qs && field_few p) ≡ statement_few (lin i p qs)
unfolding statement_few renamed fields any field_few
lin_few i p qs = ap (λ (b : Bool). b && field_few p) (pairs_few qs) ∙ neither (too_many_terms (renamed_field unnumbered p)) (any too_many_terms (map (λ q. q.factor) (numbered qs)))
