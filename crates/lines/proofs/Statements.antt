-- The tests of a statement from those of its parts. Assumes nothing.
use mathlib.Core.Path.{◌≡◌, refl, sym, ap, ◌∙◌}
use mathlib.Core.Bool.{Bool, true, false, ◌&&◌, ◌||◌, not, and-true, and_comm}
use mathlib.Core.List.{List, [], ◌∷◌, map}
use Prim.Native.Nat.{ℕ}
use Rattle.ground.specs.Lists.{every, any}
use Rattle.limits.specs.Limits.{greatest_ring}
use Rattle.limits.specs.Verdicts.{NUMBER, TERMS}
use Rattle.paper.specs.Statement.{Written, Pair, modulo, Statement, ring, input, goal, lin, del, ext, new_index, named_indices, fields, within, is_ring, is_index, is_variable, in_range, numbers_in_range, too_many_terms}
use Rattle.paper.specs.Rules.{first, written_rules}
use Rattle.reader.specs.Verdicts.{verdict_of}
use Rattle.lines.specs.Parts.{few_terms, pair_ranged, pair_few}
use Rattle.reader.proofs.Verdicts.{not_not, crossed}

not_or : (a b : Bool) → (not a && not b) ≡ not (a || b)
not_or true b = refl
not_or false b = refl

-- ---- numbers
pub ranged_ring : (k : ℕ) → within 1 greatest_ring k ≡ numbers_in_range (ring (modulo k))
unfolding numbers_in_range is_ring new_index named_indices fields every
ranged_ring k = simp and-true

pub ranged_input : (i : ℕ) (p : Written) → (is_index i && in_range p) ≡ numbers_in_range (input i p)
unfolding numbers_in_range new_index named_indices fields every
ranged_input i p = simp and-true

pub ranged_goal : (p : Written) → in_range p ≡ numbers_in_range (goal p)
unfolding numbers_in_range new_index named_indices fields every
ranged_goal p = simp and-true

ranged_pairs : (qs : List Pair) → every pair_ranged qs ≡ (every is_index (map (λ q. q.index) qs) && every in_range (map (λ q. q.factor) qs))
unfolding every pair_ranged
ranged_pairs [] = refl
ranged_pairs (q ∷ qs) =
    ap (λ (b : Bool). (is_index q.index && in_range q.factor) && b) (ranged_pairs qs)
    ∙ crossed (is_index q.index) (in_range q.factor) (every is_index (map (λ q. q.index) qs)) (every in_range (map (λ q. q.factor) qs))

pub ranged_lin : (i : ℕ) (p : Written) (qs : List Pair) → ((is_index i && in_range p) && every pair_ranged qs) ≡ numbers_in_range (lin i p qs)
unfolding numbers_in_range new_index named_indices fields every
ranged_lin i p qs =
    ap (λ (b : Bool). (is_index i && in_range p) && b) (ranged_pairs qs)
    ∙ crossed (is_index i) (in_range p) (every is_index (map (λ q. q.index) qs)) (every in_range (map (λ q. q.factor) qs))

pub ranged_del : (i : ℕ) → is_index i ≡ numbers_in_range (del i)
unfolding numbers_in_range new_index named_indices fields every
ranged_del i = simp and-true

pub ranged_ext : (i v : ℕ) (p : Written) → ((is_index i && is_variable v) && in_range p) ≡ numbers_in_range (ext i v p)
unfolding numbers_in_range new_index named_indices fields every
ranged_ext i v p = simp and-true (ap (λ (b : Bool). b && in_range p) (and_comm (is_index i) (is_variable v)))

-- ---- terms: one polynomial, and one with pairs
unfoldable pub few_in_fields : Statement → Bool
few_in_fields st = not (any too_many_terms (fields st))

pub few_one : (p : Written) → few_terms p ≡ not (any too_many_terms (p ∷ []))
unfolding few_terms any
few_one p = sym (and-true (few_terms p)) ∙ not_or (too_many_terms p) false

few_pairs : (qs : List Pair) → every pair_few qs ≡ not (any too_many_terms (map (λ q. q.factor) qs))
unfolding every any pair_few few_terms
few_pairs [] = refl
few_pairs (q ∷ qs) = ap (λ (b : Bool). few_terms q.factor && b) (few_pairs qs) ∙ not_or (too_many_terms q.factor) (any too_many_terms (map (λ q. q.factor) qs))

pub few_lin : (i : ℕ) (p : Written) (qs : List Pair) → (few_terms p && every pair_few qs) ≡ few_in_fields (lin i p qs)
unfolding few_in_fields fields any few_terms
few_lin i p qs = ap (λ (b : Bool). few_terms p && b) (few_pairs qs) ∙ not_or (too_many_terms p) (any too_many_terms (map (λ q. q.factor) qs))

-- ---- both
pub verdict_written : (st : Statement) → first (written_rules st) ≡ verdict_of (numbers_in_range st) (few_in_fields st)
unfolding written_rules few_in_fields
verdict_written st = ap (λ (b : Bool). first ((NUMBER, not (numbers_in_range st)) ∷ (TERMS, b) ∷ [])) (not_not (any too_many_terms (fields st)))
