-- Statements as written, which of their numbers are in range, and what a written polynomial means.
use mathlib.Core.{Bool.Bool, Bool.true, Bool.◌&&◌, Bool.cond, List.List, List.[], List.◌∷◌, List.map, List.◌++◌}
use Rattle.std.specs.Prelude.{ℕ, ◌-◌, ◌*◌, ◌^◌}
use lib.{Bits.bit_or, Dec.leb, Dec.ltb, ListN.length}
use Rattle.limits.specs.Limits.{variables, greatest_ring, greatest_index, greatest_magnitude, field_terms}
use Rattle.ground.specs.Lists.{every}
use Rattle.algebra.specs.Polynomial.{Term, Poly, reduce}

-- ---- over the kind of its variables: numbers, or names
pub record TermOf (A : Type 0) : Type 0 where
  pub negative : Bool
  pub magnitude : ℕ
  pub variables : List A

-- the zero polynomial has no terms
abbrev pub WrittenOf : Type 0 → Type 0
WrittenOf A = List (TermOf A)

pub record PairOf (A : Type 0) : Type 0 where
  pub index : ℕ
  pub factor : WrittenOf A

-- the integers modulo 2 ^ k
pub data Ring : Type 0 where
  modulo : ℕ → Ring

abbrev pub bits : Ring → ℕ
bits (modulo k) = k

pub data StatementOf (A : Type 0) : Type 0 where
  ring : Ring → StatementOf A
  input : ℕ → WrittenOf A → StatementOf A
  goal : WrittenOf A → StatementOf A
  lin : ℕ → WrittenOf A → List (PairOf A) → StatementOf A
  del : ℕ → StatementOf A
  ext : ℕ → A → WrittenOf A → StatementOf A

-- with other variables
module _ {A B : Type 0} (f : A → B) where
  unfoldable pub renamed_term : TermOf A → TermOf B
  renamed_term t = record { negative = t.negative; magnitude = t.magnitude; variables = map f t.variables }

  unfoldable pub renamed_field : WrittenOf A → WrittenOf B
  renamed_field p = map renamed_term p

  unfoldable pub renamed_pair : PairOf A → PairOf B
  renamed_pair q = record { index = q.index; factor = renamed_field q.factor }

  unfoldable pub renamed : StatementOf A → StatementOf B
  renamed st = elim st [ ring r ↦ ring r | input i p ↦ input i (renamed_field p) | goal p ↦ goal (renamed_field p) | lin i p qs ↦ lin i (renamed_field p) (map renamed_pair qs) | del i ↦ del i | ext i v p ↦ ext i (f v) (renamed_field p) ]

-- ---- over numbers
abbrev pub WrittenTerm : Type 0
WrittenTerm = TermOf ℕ

abbrev pub Written : Type 0
Written = WrittenOf ℕ

abbrev pub Pair : Type 0
Pair = PairOf ℕ

abbrev pub Statement : Type 0
Statement = StatementOf ℕ

-- f says it of a statement of one kind, and it is x of every other
module _ {A : Type 0} (x : A) where
  abbrev pub on_ring : (Ring → A) → Statement → A
  on_ring f st = elim st [ ring r ↦ f r | input i p ↦ x | goal p ↦ x | lin i p qs ↦ x | del i ↦ x | ext i v p ↦ x ]

  abbrev pub on_input : (ℕ → Written → A) → Statement → A
  on_input f st = elim st [ ring r ↦ x | input i p ↦ f i p | goal p ↦ x | lin i p qs ↦ x | del i ↦ x | ext i v p ↦ x ]

  abbrev pub on_goal : (Written → A) → Statement → A
  on_goal f st = elim st [ ring r ↦ x | input i p ↦ x | goal p ↦ f p | lin i p qs ↦ x | del i ↦ x | ext i v p ↦ x ]

  abbrev pub on_lin : (ℕ → Written → List Pair → A) → Statement → A
  on_lin f st = elim st [ ring r ↦ x | input i p ↦ x | goal p ↦ x | lin i p qs ↦ f i p qs | del i ↦ x | ext i v p ↦ x ]

  abbrev pub on_ext : (ℕ → ℕ → Written → A) → Statement → A
  on_ext f st = elim st [ ring r ↦ x | input i p ↦ x | goal p ↦ x | lin i p qs ↦ x | del i ↦ x | ext i v p ↦ f i v p ]

-- the index that a statement takes, those that it names, and the polynomials that it writes
unfoldable pub new_index : Statement → List ℕ
new_index st = elim st [ ring r ↦ [] | input i p ↦ i ∷ [] | goal p ↦ [] | lin i p qs ↦ i ∷ [] | del i ↦ [] | ext i v p ↦ i ∷ [] ]

unfoldable pub named_indices : Statement → List ℕ
named_indices st = elim st [ ring r ↦ [] | input i p ↦ [] | goal p ↦ [] | lin i p qs ↦ map (λ q. q.index) qs | del i ↦ i ∷ [] | ext i v p ↦ [] ]

-- the indices that it forgets
unfoldable pub forgets : Statement → List ℕ
forgets st = elim st [ ring r ↦ [] | input i p ↦ [] | goal p ↦ [] | lin i p qs ↦ [] | del i ↦ i ∷ [] | ext i v p ↦ [] ]

unfoldable pub fields : Statement → List Written
fields st = elim st [ ring r ↦ [] | input i p ↦ p ∷ [] | goal p ↦ p ∷ [] | lin i p qs ↦ p ∷ map (λ q. q.factor) qs | del i ↦ [] | ext i v p ↦ p ∷ [] ]

-- ---- ranges
abbrev pub within : ℕ → ℕ → ℕ → Bool
within low high n = leb low n && leb n high

unfoldable pub is_ring : Ring → Bool
is_ring (modulo k) = within 1 greatest_ring k

unfoldable pub is_index : ℕ → Bool
is_index i = within 1 greatest_index i

unfoldable pub is_variable : ℕ → Bool
is_variable v = ltb v variables

unfoldable pub is_term : WrittenTerm → Bool
is_term t = within 1 greatest_magnitude t.magnitude && every is_variable t.variables

unfoldable pub in_range : Written → Bool
in_range p = every is_term p

unfoldable pub numbers_in_range : Statement → Bool
numbers_in_range st =
    on_ring true is_ring st && on_ext true (λ i v p. is_variable v) st && every is_index (new_index st ++ named_indices st) && every in_range (fields st)

unfoldable pub too_many_terms : Written → Bool
too_many_terms p = ltb field_terms (length p)

-- ---- meaning; the coefficient -1 is 2 ^ k - 1
unfoldable pub set_of : List ℕ → ℕ
set_of [] = 0
set_of (v ∷ vs) = bit_or (2 ^ v) (set_of vs)

module _ (k : ℕ) where
  unfoldable pub as_term : WrittenTerm → Term
  as_term t = record { set = set_of t.variables; coef = cond t.negative ((2 ^ k - 1) * t.magnitude) t.magnitude }

  unfoldable pub reduced : Written → Poly
  reduced p = reduce k (map as_term p)
