-- What is read of published texts, with the numbers of names: by place among those that are held, or plain.
use Rattle.std.specs.Prelude.{◌≡◌, Bool, false, ◌&&◌, not, cond, List, [], ◌∷◌, ◌++◌, map, ℕ, suc, ◌-◌, ◌*◌, ◌≤◌, ◌<◌, eqb, ltb, length, get_or, Some, is_none, Result}
use Rattle.std.specs.Int.Bits.{bit_or}
use Rattle.limits.specs.Limits.{variables, greatest_magnitude, field_terms, term_words}
use Rattle.limits.specs.Verdicts.{ACCEPTED, NUMBER, TERMS}
use Rattle.ground.specs.Lists.{any}
use Rattle.words.specs.Parts.{Within}
use Rattle.words.specs.Words.{number_of}
use Rattle.terms.specs.Terms.{term_of, decode}
use Rattle.paper.specs.Grammar.{Bytes, Reader, stuck, is_digit, digits}
use Rattle.paper.specs.Statement.{TermOf, WrittenOf, renamed_term, renamed_field, within, in_range, too_many_terms, set_of}
use Rattle.paper.specs.Rules.{first}
use Rattle.paper.specs.Published.{Name, constant, name, more_names, monomial, more_monomials, poly}
use Rattle.paper.specs.Named.{names_of}
use Rattle.written.specs.Worded.{worded_term, worded}
use Rattle.reader.specs.Places.{Got, StopsOr}
use Rattle.reader.specs.declared.stop.Stop.{Stop}
use Rattle.names.specs.Names.{number_by, bad_by, names_with}
use Rattle.names.specs.Numbered.{held_by}
use Rattle.names.specs.declared.numbering.Numbering.{Numbering}
use Rattle.named.specs.declared.name.NameRead.{NameRead}
use Rattle.named.specs.declared.monomial.NamesRead.{NamesRead}
use Rattle.named.specs.declared.monomial.ConstantRead.{ConstantRead}
use Rattle.named.specs.declared.monomial.MonomialRead.{MonomialRead}
use Rattle.named.specs.declared.poly.PolyRead.{PolyRead}

-- ---- digits without the white space behind them
abbrev pub plain_digits : Reader ℕ
plain_digits [] = stuck []
plain_digits (b ∷ s) = cond (is_digit b) (digits (b - 48) s) (stuck (b ∷ s))

-- whether the byte at at is an f
unfoldable pub is_at : (ℕ → Bool) → Bytes → ℕ → Bool
is_at f s at = ltb at (length s) && f (get_or s at 0)

-- ---- names read one after the other: whether one of them is bad, and those that are held then
pub record NamesAre (old new : Numbering) (ns : List Name) (bad : Bool) : Type 0 where
  pub plain : new.plain ≡ old.plain
  pub some : bad ≡ any (bad_by old.plain (names_with old.plain (held_by old) ns)) ns
  pub holds : bad ≡ false → held_by new ≡ names_with old.plain (held_by old) ns

-- the numbers of names, once they are held
abbrev pub number_in : Numbering → Name → ℕ
number_in m = number_by m.plain (held_by m)

-- ---- one name
pub record NameAt (old new : Numbering) (s : Bytes) (at : ℕ) (r : NameRead) : Type 0 where
  pub value : Name
  pub taken : Got name s at value r.end
  pub number : (v : ℕ) → r.number ≡ Some v → v ≡ number_in new value
  pub fits : (v : ℕ) → r.number ≡ Some v → v < variables
  pub names : NamesAre old new (value ∷ []) (is_none r.number)

abbrev pub NameIs : Numbering → Numbering → Bytes → ℕ → Result NameRead Stop → Type 0
NameIs old new s at = StopsOr name s at (NameAt old new s at)

-- ---- names behind a first set of variables
pub record NamesAt (old new : Numbering) (s : Bytes) (at begin : ℕ) (r : NamesRead) : Type 0 where
  pub value : List Name
  pub taken : Got more_names s at value r.end
  pub set : r.bad ≡ false → number_of r.set ≡ bit_or begin (set_of (map (number_in new) value))
  pub names : NamesAre old new value r.bad

abbrev pub NamesIs : Numbering → Numbering → Bytes → ℕ → ℕ → Result NamesRead Stop → Type 0
NamesIs old new s at begin = StopsOr more_names s at (NamesAt old new s at begin)

-- ---- a constant, as a coefficient
pub record ConstantAt (s : Bytes) (at : ℕ) (r : ConstantRead) : Type 0 where
  pub value : ℕ
  pub taken : Got constant s at value r.end
  pub verdict : r.why ≡ cond (within 1 greatest_magnitude value) ACCEPTED NUMBER
  pub zero : r.zero ≡ eqb value 0
  pub word : r.why ≡ ACCEPTED → r.value ≡ value

abbrev pub ConstantIs : Bytes → ℕ → Result ConstantRead Stop → Type 0
ConstantIs s at = StopsOr constant s at (ConstantAt s at)

-- ---- a monomial
pub record MonomialAt (old new : Numbering) (negative : Bool) (s : Bytes) (at : ℕ) (r : MonomialRead) : Type 0 where
  pub value : TermOf Name
  pub taken : Got (monomial negative) s at value r.end
  pub sign : value.negative ≡ negative
  pub verdict : r.why ≡ cond (within 1 greatest_magnitude value.magnitude) ACCEPTED NUMBER
  pub zero : r.zero ≡ (eqb value.magnitude 0 && eqb (length value.variables) 0)
  pub term : r.why ≡ ACCEPTED → r.bad ≡ false → term_of r.term ≡ worded_term (renamed_term (number_in new) value)
  pub names : NamesAre old new value.variables r.bad

abbrev pub MonomialIs : Numbering → Numbering → Bool → Bytes → ℕ → Result MonomialRead Stop → Type 0
MonomialIs old new negative s at = StopsOr (monomial negative) s at (MonomialAt old new negative s at)

-- ---- monomials behind a first, put behind its term in out; their numbers are their coefficients here
pub record MonomialsOf (old new : Numbering) (out out' : List ℕ) (terms why : ℕ) (bad : Bool) (ms : WrittenOf Name) : Type 0 where
  pub verdict : why ≡ cond (in_range (renamed_field (λ n. 0) ms)) ACCEPTED NUMBER
  pub count : terms ≡ suc (length ms)
  pub run : why ≡ ACCEPTED → bad ≡ false → terms ≤ field_terms → decode terms out' ≡ decode 1 out ++ worded (renamed_field (number_in new) ms)
  pub named : NamesAre old new (names_of ms) bad

pub record MonomialsAt (old new : Numbering) (s : Bytes) (at : ℕ) (out out' : List ℕ) (r : PolyRead) : Type 0 where
  pub value : WrittenOf Name
  pub taken : Got more_monomials s at value r.end
  pub holds : MonomialsOf old new out out' r.terms r.why r.bad value

pub record MonomialsIs (old new : Numbering) (s : Bytes) (at : ℕ) (out out' : List ℕ) (r : Result PolyRead Stop) : Type 0 where
  pub said : StopsOr more_monomials s at (MonomialsAt old new s at out out') r
  pub within : Within term_words (field_terms * term_words) out out'

-- ---- a polynomial, as a run at the front of out
pub record PolyAt (old new : Numbering) (s : Bytes) (at : ℕ) (out' : List ℕ) (r : PolyRead) : Type 0 where
  pub value : WrittenOf Name
  pub taken : Got poly s at value r.end
  pub verdict : r.why ≡ first ((NUMBER, not (in_range (renamed_field (λ n. 0) value))) ∷ (TERMS, too_many_terms (renamed_field (λ n. 0) value)) ∷ [])
  pub terms : r.terms ≡ length value
  pub run : r.why ≡ ACCEPTED → r.bad ≡ false → decode r.terms out' ≡ worded (renamed_field (number_in new) value)
  pub names : NamesAre old new (names_of value) r.bad

pub record PolyIs (old new : Numbering) (s : Bytes) (at : ℕ) (out out' : List ℕ) (r : Result PolyRead Stop) : Type 0 where
  pub said : StopsOr poly s at (PolyAt old new s at out') r
  pub within : Within 0 (field_terms * term_words) out out'
