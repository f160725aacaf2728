-- What a check leaves in rooms that are lent from outside.
use Rattle.std.specs.Prelude.{◌≡◌, List, [], ◌∷◌, ℕ, length}
use Rattle.paper.specs.Grammar.{Bytes}
use Rattle.paper.specs.Answer.{Answer, answer, room_after}

-- the numbers of an answer in their order
abbrev pub in_turn : Answer → List ℕ
in_turn a = a.verdict ∷ a.line ∷ a.index ∷ a.products ∷ a.polynomials ∷ a.terms ∷ []

pub record Answered (text : Bytes) (pool scratch pool' scratch' numbers : List ℕ) : Type 0 where
  pub answers : numbers ≡ in_turn (answer text (length pool) (length scratch))
  pub pool_after : pool' ≡ room_after (answer text (length pool) (length scratch)).verdict pool
  pub scratch_after : scratch' ≡ room_after (answer text (length pool) (length scratch)).verdict scratch
