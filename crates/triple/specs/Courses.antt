-- What holds where statements of published texts are judged one by one.
use Rattle.std.specs.Prelude.{◌≡◌, Bool, true, false, ◌||◌, cond, List, [], ◌++◌, map, Option, Some, None, Result, Ok, Err, ℕ, suc, ◌≤◌, ◌<◌, eqb, leb, length, drop, get_or}
use Rattle.limits.specs.Refusals.{number_of, outcome}
use Rattle.limits.specs.Verdicts.{LONGLINE, FORM, TERMS}
use Rattle.limits.specs.declared.refusal.Refusal.{Refusal}
use Rattle.ground.specs.Lists.{every, gather}
use Rattle.paper.specs.Grammar.{Bytes}
use Rattle.paper.specs.Answer.{Answer, run, report}
use Rattle.paper.specs.Published.{Name, is_space, pieces, NamedItem}
use Rattle.paper.specs.Named.{names_in, readable, is_plain, with_names, numbered}
use Rattle.names.specs.declared.numbering.Numbering.{Numbering}
use Rattle.names.specs.Names.{number_by}
use Rattle.names.specs.Numbered.{held_by}
use Rattle.table.specs.Table.{Packed}
use Rattle.steps.specs.declared.said.Said.{Said}
use Rattle.steps.specs.declared.state.State.{State}
use Rattle.steps.specs.State.{state_of, Ready}
use Rattle.triple.specs.declared.course.Refused.{Refused}

-- ---- the statements from `from` on begin at r: there is no white space, or the text ends
pub record BeginsAt (text : Bytes) (from r : ℕ) : Type 0 where
  pub same : pieces (drop from text) ≡ pieces (drop r text)
  pub onward : (at : ℕ) → at < from → at < length text → at < r
  pub inside : r ≤ length text
  pub clear : r < length text → is_space (get_or text r 0) ≡ false

-- ---- the names of what can be read, and whether each is plain
abbrev pub names_from : List NamedItem → List Name
names_from is = gather names_in (readable is)

abbrev pub all_plain : List NamedItem → Bool
all_plain is = every is_plain (names_from is)

-- whether it was said of a statement that can't be read
abbrev pub unreadable : Result Said Refusal → Bool
unreadable r = eqb (outcome r) LONGLINE || eqb (outcome r) FORM

-- what is known, or else b
abbrev pub known_or : Bool → Option Bool → Bool
known_or b (Some known) = known
known_or b None = b

-- ---- the index that a verdict reports: it counts from TERMS on
abbrev pub counted_index : ℕ → ℕ → ℕ
counted_index v i = cond (leb TERMS v) i 0

-- ---- the answer a is that of the items still to come, in the numbers that ms gives their names
pub record Underway (capacity : ℕ) (ms : List Name) (a : Answer) (is : List NamedItem) (m : Numbering) (s : State) (pool scratch : List ℕ) : Type 0 where
  pub same : a ≡ run capacity (state_of s pool scratch) s.lines (map (numbered (number_by m.plain ms)) is)
  pub plainly : m.plain ≡ true → all_plain is ≡ true
  pub places : m.plain ≡ false → ms ≡ with_names (held_by m) (names_from is)

-- from the items `before` on to the items `behind`, whatever follows them, with so many lines at the most
pub record Onward (capacity : ℕ) (before : List NamedItem) (m : Numbering) (s : State) (pool scratch : List ℕ) (behind : List NamedItem) (m' : Numbering) (s' : State) (pool' scratch' : List ℕ) (most : ℕ) : Type 0 where
  pub ready : Ready capacity s' pool' scratch'
  pub few : s'.lines ≤ most
  pub same : m'.plain ≡ m.plain
  pub plainly : m.plain ≡ true → (rest : List NamedItem) → all_plain (before ++ rest) ≡ all_plain (behind ++ rest)
  pub onward : (ms : List Name) (a : Answer) (rest : List NamedItem) → Underway capacity ms a (before ++ rest) m s pool scratch
      → Underway capacity ms a (behind ++ rest) m' s' pool' scratch'

-- or up to a statement among them that is refused, which gives the answer
pub record Turned (capacity : ℕ) (before : List NamedItem) (m : Numbering) (s : State) (pool scratch : List ℕ) (r : Refused) (m' : Numbering) (s' : State) (most : ℕ) : Type 0 where
  pub packed : Packed s'.table
  pub few : s'.lines ≤ most
  pub same : m'.plain ≡ m.plain
  pub gives : (ms : List Name) (a : Answer) (rest : List NamedItem) → Underway capacity ms a (before ++ rest) m s pool scratch → (pool scratch : List ℕ)
      → a ≡ report (state_of s' pool scratch) (number_of r.why) (suc s'.lines) (counted_index (number_of r.why) r.index)

-- all items before are judged, or one of them is refused
pub record Judging (capacity : ℕ) (before : List NamedItem) (m : Numbering) (s : State) (pool scratch : List ℕ) (r : Result Unit Refused) (m' : Numbering) (s' : State) (pool' scratch' : List ℕ) (most : ℕ) : Type 0 where
  pub on : (x : Unit) → r ≡ Ok x → Onward capacity before m s pool scratch [] m' s' pool' scratch' most
  pub off : (why : Refused) → r ≡ Err why → Turned capacity before m s pool scratch why m' s' most
