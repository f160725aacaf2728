-- What is read of the parts of a line.
use Rattle.std.specs.Prelude.{◌≡◌, Bool, true, ◌&&◌, not, List, ℕ, ◌+◌, ◌*◌, Result}
use Rattle.ground.specs.Lists.{every}
use Rattle.limits.specs.Limits.{field_terms, term_words}
use Rattle.limits.specs.Verdicts.{ACCEPTED}
use Rattle.words.specs.Parts.{Within}
use Rattle.paper.specs.Grammar.{Bytes, Reader, next, literal, field, pair, pairs}
use Rattle.paper.specs.Statement.{Written, Pair, is_index, in_range, too_many_terms}
use Rattle.paper.specs.Rules.{Store}
use Rattle.written.specs.Worded.{Holds}
use Rattle.reader.specs.Places.{Got, StopsOr}
use Rattle.reader.specs.Verdicts.{verdict_of}
use Rattle.reader.specs.declared.field.FieldRead.{FieldRead}
use Rattle.reader.specs.declared.stop.Stop.{Stop}
use Rattle.scratch.specs.Scratch.{factor_at, goal_at, Kept}
use Rattle.sums.specs.Sums.{Summed}
use Rattle.lines.specs.declared.part.NumberRead.{NumberRead}
use Rattle.lines.specs.declared.part.PairRead.{PairRead}
use Rattle.lines.specs.declared.pairs.PairsRead.{PairsRead}

-- a part that has no field
abbrev pub always : {A : Type 0} → A → Bool
always x = true

unfoldable pub few_terms : Written → Bool
few_terms p = not (too_many_terms p)

unfoldable pub pair_ranged : Pair → Bool
pair_ranged q = is_index q.index && in_range q.factor

unfoldable pub pair_few : Pair → Bool
pair_few q = few_terms q.factor

-- ---- x is read from at up to e, with its verdict, and P holds of it where nothing refuses it
pub record Taken {A : Type 0} (read : Reader A) (ranged few : A → Bool) (P : A → Type 0) (s : Bytes) (at e why : ℕ) : Type 0 where
  pub value : A
  pub taken : Got read s at value e
  pub verdict : why ≡ verdict_of (ranged value) (few value)
  pub holds : why ≡ ACCEPTED → P value

-- ---- the parts, each with what the code gives of it; or its reader stops
abbrev pub NumberPart : Reader ℕ → (ℕ → Bool) → Bytes → ℕ → Result NumberRead Stop → Type 0
NumberPart read ranged s at r = StopsOr read s at (λ i. Taken read ranged always (λ n. i.value ≡ n) s at i.end i.why) r

pub record FieldPart (s : Bytes) (at base : ℕ) (words words' : List ℕ) (r : Result FieldRead Stop) : Type 0 where
  pub part : StopsOr field s at (λ f. Taken field in_range few_terms (λ p. Holds p f.terms base words') s at f.end f.why) r
  pub kept : Within base (base + field_terms * term_words) words words'

pub record PairPart (s : Bytes) (at : ℕ) (words words' : List ℕ) (r : Result PairRead Stop) : Type 0 where
  pub part : StopsOr pair s at (λ q. Taken pair pair_ranged pair_few (λ p. (q.index ≡ p.index) × Holds p.factor q.terms factor_at words') s at q.end q.why) r
  pub kept : Within factor_at goal_at words words'

-- the pairs with their sum over a store at k
pub record PairsPart (k : ℕ) (store : Store) (s : Bytes) (at : ℕ) (words words' : List ℕ) (r : Result PairsRead Stop) : Type 0 where
  pub part : StopsOr pairs s at (λ p. Taken pairs (every pair_ranged) (every pair_few) (λ qs. Summed k store qs words' p.sum) s at p.end p.why) r
  pub kept : Kept words words'

-- ---- a keyword before a part
abbrev pub keyed : {A : Type 0} → Bytes → Reader A → Reader A
keyed w read = λ s. next (literal w s) (λ _. read)
