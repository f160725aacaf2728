-- What a statement of a published text says, as the code gives it.
use Rattle.std.specs.Prelude.{◌≡◌, Bool, true, false, not, cond, List, [], ◌∷◌, ℕ, ◌≤◌, ◌<◌, eqb, drop, Result, Ok, Err}
use Rattle.limits.specs.Verdicts.{ACCEPTED, NUMBER, TERMS, NAMES}
use Rattle.limits.specs.Refusals.{number_of}
use Rattle.limits.specs.declared.refusal.Refusal.{Refusal}
use Rattle.limits.specs.declared.refusal.Refusal.TheVariants.{LongLine, Form, Names}
use Rattle.ground.specs.Lists.{any}
use Rattle.words.specs.Parts.{Within}
use Rattle.paper.specs.Grammar.{Bytes, Line, Reader, got, stuck, ◌>>=◌, ◌>>◌, give, end}
use Rattle.paper.specs.Statement.{renamed, fields, numbers_in_range, too_many_terms}
use Rattle.paper.specs.Rules.{first, Store}
use Rattle.paper.specs.Answer.{index_of}
use Rattle.paper.specs.Published.{Name, Named, constraint, target, proof_step, NamedItem, read_by}
use Rattle.paper.specs.Named.{names_in}
use Rattle.reader.specs.Places.{StopsOr}
use Rattle.reader.specs.declared.stop.Stop.{Stop}
use Rattle.names.specs.declared.numbering.Numbering.{Numbering}
use Rattle.named.specs.Reads.{NamesAre, number_in}
use Rattle.scratch.specs.Scratch.{goal_at}
use Rattle.steps.specs.declared.said.Said.{Said}
use Rattle.steps.specs.Items.{Means}
use Rattle.published.specs.declared.statement.StatementRead.{StatementRead}

-- ---- which statements a text has: behind the target there is none
abbrev pub reader_of : ℕ → Reader Named
reader_of kind = cond (eqb kind 0) constraint (cond (eqb kind 1) target (cond (eqb kind 2) (λ s. stuck s) proof_step))

abbrev pub kind_behind : ℕ → ℕ
kind_behind kind = cond (eqb kind 1) 2 kind

unfoldable pub items_of : ℕ → List Line → List NamedItem
items_of kind [] = []
items_of kind (l ∷ ls) = read_by (reader_of kind) l ∷ items_of (kind_behind kind) ls

-- ---- a statement that was read: the verdict on what is written, where its names are bad or not; its names have no numbers here
abbrev pub unnumbered : Name → ℕ
unnumbered n = 0

unfoldable pub statement_ranged : Named → Bool
statement_ranged st = numbers_in_range (renamed unnumbered st)

unfoldable pub statement_few : Named → Bool
statement_few st = not (any too_many_terms (fields (renamed unnumbered st)))

unfoldable pub written_by : Bool → Named → ℕ
written_by bad st =
    first ((NUMBER, not (numbers_in_range (renamed unnumbered st))) ∷ (TERMS, any too_many_terms (fields (renamed unnumbered st))) ∷ (NAMES, bad) ∷ [])

-- one that is too long, one that cannot be read, one that is refused for what is written, and one that is not
pub data NamedTells (k : ℕ) (store : Store) (old new : Numbering) (i : NamedItem) (words : List ℕ) (r : StatementRead) : Type 0 where
  long : i.long ≡ true → r.said ≡ Err LongLine → r.bad ≡ false → NamedTells k store old new i words r
  stops : i.long ≡ false → (t : Bytes) → i.reads ≡ stuck t → r.said ≡ Err Form → r.bad ≡ false → NamedTells k store old new i words r
  turns : i.long ≡ false → (st : Named) (t : Bytes) → i.reads ≡ got st t → NamesAre old new (names_in st) r.bad
      → (why : Refusal) → r.said ≡ Err why → number_of why ≡ written_by r.bad st
      → (numbers_in_range (renamed unnumbered st) ≡ true → r.index ≡ index_of (renamed unnumbered st)) → NamedTells k store old new i words r
  passes : i.long ≡ false → (st : Named) (t : Bytes) → i.reads ≡ got st t → NamesAre old new (names_in st) r.bad
      → written_by r.bad st ≡ ACCEPTED → (said : Said) → r.said ≡ Ok said → Means k store words (renamed (number_in new) st) said
      → r.index ≡ index_of (renamed unnumbered st) → NamedTells k store old new i words r

-- reading it leaves the goal's region and all behind it
pub record NamedItemIs (k : ℕ) (store : Store) (old new : Numbering) (i : NamedItem) (words words' : List ℕ) (r : StatementRead) : Type 0 where
  pub tells : NamedTells k store old new i words' r
  pub kept : Within 0 goal_at words words'

-- ---- what read reads from at up to the end, as an item that is not too long
abbrev pub whole : Reader Named → Reader Named
whole read = do st ← read; end; give st

abbrev pub item_at : Reader Named → Bytes → ℕ → NamedItem
item_at read s at = record { long = false; reads = whole read (drop at s) }

pub record WholeIs (k : ℕ) (store : Store) (read : Reader Named) (old new : Numbering) (s : Bytes) (at : ℕ) (words words' : List ℕ) (r : Result StatementRead Stop) : Type 0 where
  pub said : StopsOr (whole read) s at (NamedTells k store old new (item_at read s at) words') r
  pub kept : Within 0 goal_at words words'

-- what was read up to e, where the n bytes end there: refused by why, else where a name is bad
pub data ClosedIs (n e why : ℕ) (x : StatementRead) (r : Result StatementRead Stop) : Type 0 where
  left : e < n → r ≡ Err (record { at = e }) → ClosedIs n e why x r
  turned : n ≤ e → (w : Refusal) → number_of w ≡ why → r ≡ Ok (record { said = Err w; index = x.index; bad = x.bad }) → ClosedIs n e why x r
  misnamed : n ≤ e → why ≡ ACCEPTED → x.bad ≡ true → r ≡ Ok (record { said = Err Names; index = x.index; bad = x.bad }) → ClosedIs n e why x r
  stands : n ≤ e → why ≡ ACCEPTED → x.bad ≡ false → r ≡ Ok x → ClosedIs n e why x r
