-- What is read at a place of a line, said of the readers of a field and of its parts.
use Rattle.std.specs.Prelude.{◌≡◌, Bool, ◌&&◌, cond, not, List, [], ◌∷◌, ◌++◌, ℕ, suc, ◌+◌, ◌-◌, ◌*◌, ◌≤◌, eqb, leb, ltb, length, take, get_or, Option, None, Some, Result}
use Rattle.limits.specs.Limits.{field_terms, term_words}
use Rattle.limits.specs.Verdicts.{ACCEPTED, NUMBER, TERMS}
use Rattle.words.specs.Parts.{Within}
use Rattle.words.specs.Words.{number_of}
use Rattle.terms.specs.Terms.{term_of, decode}
use Rattle.paper.specs.Grammar.{Bytes, Reader, decimal, sign, term, polynomial, more_variables, more_terms}
use Rattle.paper.specs.Statement.{WrittenTerm, Written, within, too_many_terms, set_of}
use Rattle.paper.specs.Rules.{first}
use Rattle.written.specs.Worded.{signed_word, worded_term, worded}
use Rattle.reader.specs.Places.{Got, StopsOr}
use Rattle.reader.specs.declared.stop.Stop.{Stop}
use Rattle.reader.specs.Marks.{Mark, all_fine, span, first_outside, first_out, mark, variable_marks, term_marks, more_marks, field_marks, first_too_many}
use Rattle.reader.specs.declared.term.Variables.{Variables}
use Rattle.reader.specs.declared.term.Magnitude.{Magnitude}
use Rattle.reader.specs.declared.term.TermRead.{TermRead}
use Rattle.reader.specs.declared.field.Rest.{Rest}
use Rattle.reader.specs.declared.field.FieldRead.{FieldRead}

-- whether b is the byte at at
unfoldable pub stands_at : Bytes → ℕ → ℕ → Bool
stands_at s at b = ltb at (length s) && eqb (get_or s at 0) b

-- a, or b where a is 0: of two verdicts or two bytes, that of the first refusal
unfoldable pub first_of : ℕ → ℕ → ℕ
first_of a b = cond (eqb a 0) b a

-- the marks stand from at up to e: whether and where the first of them is out of its range
pub record Told (ms : List Mark) (at e : ℕ) (outside : Option ℕ) : Type 0 where
  pub ends : e ≡ at + span ms
  pub first : outside ≡ first_out at ms

-- x is read from at up to e, and P holds of it
pub record Took {A : Type 0} (read : Reader A) (marks : A → List Mark) (P : A → Type 0) (s : Bytes) (at e : ℕ) (outside : Option ℕ) : Type 0 where
  pub value : A
  pub taken : Got read s at value e
  pub told : Told (marks value) at e outside
  pub holds : P value

-- ---- parts of a field
abbrev pub VariablesAt : Bytes → ℕ → Variables → Type 0
VariablesAt s at r = Took more_variables variable_marks (λ vs. r.outside ≡ None → number_of r.set ≡ set_of vs) s at r.end r.outside

abbrev pub VariablesIs : Bytes → ℕ → Result Variables Stop → Type 0
VariablesIs s at r = StopsOr more_variables s at (VariablesAt s at) r

-- a magnitude behind a sign or none
abbrev pub SizeAt : ℕ → Bool → Bytes → ℕ → Magnitude → Type 0
SizeAt greatest negative s at r =
    Took decimal (λ m. mark (within 1 greatest) 0 m ∷ []) (λ m. r.outside ≡ None → r.coefficient ≡ signed_word negative m) s at r.end r.outside

pub record MagnitudeIs (greatest : ℕ) (s : Bytes) (at : ℕ) (r : Result Magnitude Stop) : Type 0 where
  pub negative : Bool
  pub signed : Got sign s at negative (at + cond negative 1 0)
  pub size : StopsOr decimal s (at + cond negative 1 0) (SizeAt greatest negative s (at + cond negative 1 0)) r

abbrev pub TermAt : ℕ → Bytes → ℕ → TermRead → Type 0
TermAt greatest s at r = Took term (term_marks greatest 0) (λ t. r.outside ≡ None → term_of r.term ≡ worded_term t) s at r.end r.outside

abbrev pub TermIs : ℕ → Bytes → ℕ → Result TermRead Stop → Type 0
TermIs greatest s at r = StopsOr term s at (TermAt greatest s at) r

-- the term t was written behind n others, if there was room for it and its numbers were in their ranges
pub record PutBehind (n why : ℕ) (t out out' : List ℕ) : Type 0 where
  pub run : why ≡ ACCEPTED → n + 1 ≤ field_terms → decode (n + 1) out' ≡ decode n out ++ (term_of t ∷ [])
  pub kept : n + 1 ≤ field_terms → Within (n * term_words) ((n + 1) * term_words) out out'
  pub full : field_terms ≤ n → out' ≡ out
  pub refused : (why ≡ ACCEPTED → ⊥) → out' ≡ out

-- of the terms behind a first, the byte where the first too many begins
unfoldable pub more_too_many : ℕ → ℕ → List WrittenTerm → Option ℕ
more_too_many greatest at ts = cond (leb field_terms (length ts)) (Some (at + span (more_marks greatest (take (field_terms - 1) ts)) + 2)) None

-- the run of a first term and of ts behind it
pub record RestOf (greatest at : ℕ) (out out' : List ℕ) (r : Rest) (ts : List WrittenTerm) : Type 0 where
  pub count : r.terms ≡ suc (length ts)
  pub run : r.outside ≡ None → r.terms ≤ field_terms → decode r.terms out' ≡ decode 1 out ++ worded ts
  pub kept : r.terms ≤ field_terms → Within term_words (r.terms * term_words) out out'
  pub excess : r.extra ≡ more_too_many greatest at ts

abbrev pub RestAt : ℕ → Bytes → ℕ → List ℕ → List ℕ → Rest → Type 0
RestAt greatest s at out out' r = Took more_terms (more_marks greatest) (RestOf greatest at out out' r) s at r.end r.outside

pub record RestIs (greatest : ℕ) (s : Bytes) (at : ℕ) (out out' : List ℕ) (r : Result Rest Stop) : Type 0 where
  pub within : Within term_words (field_terms * term_words) out out'
  pub said : StopsOr more_terms s at (RestAt greatest s at out out') r

-- ---- fields
pub record FieldAt (greatest : ℕ) (s : Bytes) (at : ℕ) (out out' : List ℕ) (r : FieldRead) : Type 0 where
  pub value : Written
  pub taken : Got polynomial s at value r.end
  pub ends : r.end ≡ at + span (field_marks greatest value)
  pub verdict : r.why ≡ first ((NUMBER, not (all_fine (field_marks greatest value))) ∷ (TERMS, too_many_terms value) ∷ [])
  pub outside : r.outside ≡ first_outside at (field_marks greatest value)
  pub excess : r.extra ≡ first_too_many greatest at value
  pub terms : r.terms ≡ length value
  pub run : r.why ≡ ACCEPTED → decode r.terms out' ≡ worded value
  -- words past the terms stay
  pub kept : r.terms ≤ field_terms → Within 0 (r.terms * term_words) out out'

pub record FieldIs (greatest : ℕ) (s : Bytes) (at : ℕ) (out out' : List ℕ) (r : Result FieldRead Stop) : Type 0 where
  -- words past the most terms of a field stay, whatever was read
  pub within : Within 0 (field_terms * term_words) out out'
  pub said : StopsOr polynomial s at (FieldAt greatest s at out out') r
