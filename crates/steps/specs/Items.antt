-- What an item of a text says, as the code gives it, and what judging it leaves, whatever its syntax.
use Rattle.std.specs.Prelude.{◌≡◌, true, false, cond, List, Result, Ok, Err, ℕ, ◌+◌, leb, length}
use Rattle.limits.specs.Verdicts.{ACCEPTED, TERMS}
use Rattle.limits.specs.Refusals.{number_of, outcome}
use Rattle.limits.specs.declared.refusal.Refusal.{Refusal}
use Rattle.limits.specs.declared.refusal.Refusal.TheVariants.{LongLine, Form}
use Rattle.words.specs.Parts.{Within}
use Rattle.paper.specs.Grammar.{Bytes, Read, got, stuck}
use Rattle.paper.specs.Statement.{Written, Pair, modulo, Statement, ring, input, goal, lin, del, ext, numbers_in_range}
use Rattle.paper.specs.Rules.{Store}
use Rattle.paper.specs.Answer.{stands, refused, index_of, Item, judge_item}
use Rattle.written.specs.Worded.{Holds}
use Rattle.scratch.specs.Scratch.{stated_at, goal_at}
use Rattle.sums.specs.Sums.{Summed}
use Rattle.steps.specs.declared.said.Said.{Said}
use Rattle.steps.specs.declared.said.Said.TheVariants.{Ring, Input, Goal, Lin, Del, Ext}
use Rattle.steps.specs.declared.state.State.{State}
use Rattle.steps.specs.State.{state_of, Ready}

-- ---- what was said is the statement st; its polynomial, if it has one, stands in the stated region, and its pairs are summed over the store at k
abbrev pub Stated : (Written → Statement) → ℕ → List ℕ → Statement → Type 0
Stated make n words st = (p : Written) × (st ≡ make p) × Holds p n stated_at words

abbrev pub Means : ℕ → Store → List ℕ → Statement → Said → Type 0
Means k store words st (Ring j) = st ≡ ring (modulo j)
Means k store words st (Input i n) = Stated (input i) n words st
Means k store words st (Goal n) = Stated goal n words st
Means k store words st (Lin i n sum) = (qs : List Pair) × Summed k store qs words sum × Stated (λ p. lin i p qs) n words st
Means k store words st (Del i) = st ≡ del i
Means k store words st (Ext i v n) = Stated (ext i v) n words st

-- what is said, if nothing is refused, is a statement whose numbers are in range: what judging asks for
pub record Sayable (k : ℕ) (store : Store) (words : List ℕ) (r : Result Said Refusal) : Type 0 where
  pub means : (said : Said) → r ≡ Ok said → (st : Statement) × (numbers_in_range st ≡ true) × Means k store words st said

-- ---- an item that is too long, one that cannot be read, one that is refused for what is written, and one that is not
pub data Tells (k : ℕ) (store : Store) (i : Item) (words : List ℕ) (r : Result Said Refusal) : Type 0 where
  long : i.long ≡ true → r ≡ Err LongLine → Tells k store i words r
  stops : i.long ≡ false → (t : Bytes) → i.reads ≡ stuck t → r ≡ Err Form → Tells k store i words r
  turns : i.long ≡ false → (st : Statement) (t : Bytes) → i.reads ≡ got st t → (why : Refusal) → r ≡ Err why → number_of why ≡ i.written → Tells k store i words r
  passes : i.long ≡ false → (st : Statement) (t : Bytes) → i.reads ≡ got st t → i.written ≡ ACCEPTED → numbers_in_range st ≡ true
      → (said : Said) → r ≡ Ok said → Means k store words st said → Tells k store i words r

-- reading it leaves the goal's region and all behind it
pub record ItemIs (k : ℕ) (store : Store) (i : Item) (words words' : List ℕ) (r : Result Said Refusal) : Type 0 where
  pub tells : Tells k store i words' r
  pub kept : Within 0 goal_at words words'

-- ---- the index that a refusal v of an item reports
abbrev pub index_of_read : ℕ → Read Statement → ℕ
index_of_read v (got st r) = cond (leb TERMS v) (index_of st) 0
index_of_read v (stuck r) = 0

-- the item stands, or it is refused and all but the scratch is as it was
pub record ItemJudged (capacity : ℕ) (i : Item) (s : State) (pool scratch : List ℕ) (r : Result Unit Refusal) (s' : State) (pool' scratch' : List ℕ) : Type 0 where
  pub stands : outcome r ≡ ACCEPTED → judge_item capacity (state_of s pool scratch) i ≡ stands (state_of s' pool' scratch')
  pub ready : outcome r ≡ ACCEPTED → Ready capacity s' pool' scratch'
  pub lines : outcome r ≡ ACCEPTED → s'.lines ≡ s.lines + 1
  pub refused : (outcome r ≡ ACCEPTED → ⊥) → judge_item capacity (state_of s pool scratch) i ≡ refused (outcome r) (index_of_read (outcome r) i.reads)
  pub back : (outcome r ≡ ACCEPTED → ⊥) → s' ≡ s
  pub untouched : (outcome r ≡ ACCEPTED → ⊥) → pool' ≡ pool
  pub pool_length : length pool' ≡ length pool
  pub scratch_length : length scratch' ≡ length scratch

-- a refusal of what was read, which changes nothing
pub record Unread (why : Refusal) (s : State) (pool scratch : List ℕ) (r : Result Unit Refusal) (s' : State) (pool' scratch' : List ℕ) : Type 0 where
  pub refused : r ≡ Err why
  pub back : s' ≡ s
  pub untouched : pool' ≡ pool
  pub kept : scratch' ≡ scratch
