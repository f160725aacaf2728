-- What a line of each kind says, as the code gives it.
use Rattle.std.specs.Prelude.{◌≡◌, false, List, ℕ, ◌≤◌, length, drop, Result, Ok, Err}
use Rattle.limits.specs.Verdicts.{ACCEPTED}
use Rattle.words.specs.Parts.{Within}
use Rattle.paper.specs.Grammar.{Bytes, Read, stuck, next, give, end, LineKind, whole_line}
use Rattle.paper.specs.Statement.{Statement}
use Rattle.paper.specs.Rules.{first, Store, written_rules}
use Rattle.paper.specs.Answer.{Item, written_in}
use Rattle.scratch.specs.Scratch.{goal_at}
use Rattle.reader.specs.declared.stop.Stop.{Stop}
use Rattle.steps.specs.Items.{Means}
use Rattle.lines.specs.declared.read.LineRead.{LineRead}

-- the line s reads so: as a statement that ends at r.end, if nothing stands behind it, with its verdict, and what is said of it where nothing refuses it
pub record LineTaken (k : ℕ) (store : Store) (reads : Read Statement) (s : Bytes) (words : List ℕ) (r : LineRead) : Type 0 where
  pub value : Statement
  pub taken : reads ≡ next (end (drop r.end s)) (λ _. give value)
  pub inside : r.end ≤ length s
  pub verdict : r.why ≡ first (written_rules value)
  pub holds : r.why ≡ ACCEPTED → Means k store words value r.said

-- or as none, which stops
abbrev pub LineOr : ℕ → Store → Read Statement → Bytes → List ℕ → Result LineRead Stop → Type 0
LineOr k store reads s words (Ok r) = LineTaken k store reads s words r
LineOr k store reads s words (Err e) = reads ≡ stuck (drop e.at s)

pub record LineIs (k : ℕ) (store : Store) (reads : Read Statement) (s : Bytes) (words words' : List ℕ) (r : Result LineRead Stop) : Type 0 where
  pub said : LineOr k store reads s words' r
  pub kept : Within 0 goal_at words words'

-- a line of this kind
abbrev pub KindIs : ℕ → Store → LineKind → Bytes → List ℕ → List ℕ → Result LineRead Stop → Type 0
KindIs k store kind s words words' r = LineIs k store (whole_line kind s) s words words' r

-- a line that is not too long and reads so, as an item
abbrev pub short_item : Read Statement → Item
short_item read = record { long = false; reads = read; written = written_in read }
