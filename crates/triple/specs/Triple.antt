-- What a run over three published texts and their check leave.
use Rattle.std.specs.Prelude.{◌≡◌, Bool, true, List, Result, Ok, Err, ℕ, length}
use Rattle.paper.specs.Statement.{modulo, ring}
use Rattle.paper.specs.Rules.{start, after}
use Rattle.paper.specs.Answer.{run, room_after}
use Rattle.paper.specs.Answer as paper
use Rattle.paper.specs.Named.{Texts, named_items, published_items, published_answer}
use Rattle.checker.specs.declared.answer.Answer.{Answer}
use Rattle.checker.specs.Checked.{answer_of}
use Rattle.triple.specs.Courses.{all_plain}
use Rattle.triple.specs.declared.texts.Texts as lent

-- the bytes of three texts
abbrev pub texts_of : lent.Texts → Texts
texts_of t = record { constraints = t.constraints.now; target = t.target.now; proof = t.proof.now }

-- ---- the answer of three texts in a pool for so many terms
abbrev pub answer_in : ℕ → ℕ → Texts → paper.Answer
answer_in capacity k t = run capacity (after start (ring (modulo k))) 0 (published_items t)

-- an answer, whether a statement was refused or not
abbrev pub given : Result Answer Answer → Answer
given (Ok a) = a
given (Err a) = a

-- a pass gives it where its numbers are those of the names; where names are taken as plain and nothing is refused, they are
pub record PassIs (plain : Bool) (capacity k : ℕ) (t : Texts) (r : Result Answer Answer) : Type 0 where
  pub answer : plain ≡ all_plain (named_items t) → answer_of (given r) ≡ answer_in capacity k t
  pub stood : plain ≡ true → (a : Answer) → r ≡ Ok a → all_plain (named_items t) ≡ true

-- a is the answer where every name is plain
abbrev pub AnsweredIfPlain : ℕ → ℕ → Texts → Answer → Type 0
AnsweredIfPlain capacity k t a = all_plain (named_items t) ≡ true → answer_of a ≡ answer_in capacity k t

-- the answer of the paper, and the rooms afterwards
pub record CheckedTexts (k : ℕ) (t : Texts) (pool scratch : List ℕ) (r : Answer) (pool' scratch' : List ℕ) : Type 0 where
  pub answer : answer_of r ≡ published_answer k t (length pool) (length scratch)
  pub pool_after : pool' ≡ room_after r.verdict pool
  pub scratch_after : scratch' ≡ room_after r.verdict scratch
