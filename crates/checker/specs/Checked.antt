-- What a run over a text and a checked text leave.
use Rattle.std.specs.Prelude.{◌≡◌, List, [], ◌∷◌, ℕ, ◌*◌, ◌≤◌, length}
use Rattle.limits.specs.Limits.{most_pool_terms, term_words, least_scratch}
use Rattle.paper.specs.Grammar.{Bytes}
use Rattle.paper.specs.Answer as paper
use Rattle.paper.specs.Answer.{room_after}
use Rattle.checker.specs.declared.answer.Answer.{Answer}

-- the six numbers
abbrev pub answer_of : Answer → paper.Answer
answer_of a = record { verdict = a.verdict; line = a.line; index = a.index; products = a.products; polynomials = a.polynomials; terms = a.terms }

-- in the order in which they are written
abbrev pub numbers_of : Answer → List ℕ
numbers_of a = a.verdict ∷ a.line ∷ a.index ∷ a.products ∷ a.polynomials ∷ a.terms ∷ []

-- ---- rooms for so many terms
pub record Rooms (capacity : ℕ) (pool scratch : List ℕ) : Type 0 where
  pub words : capacity * term_words ≤ length pool
  pub most : capacity ≤ most_pool_terms
  pub least : least_scratch ≤ length scratch

-- the answer of the paper, and the rooms afterwards
pub record Checked (text : Bytes) (pool scratch : List ℕ) (r : Answer) (pool' scratch' : List ℕ) : Type 0 where
  pub answer : answer_of r ≡ paper.answer text (length pool) (length scratch)
  pub pool_after : pool' ≡ room_after r.verdict pool
  pub scratch_after : scratch' ≡ room_after r.verdict scratch
