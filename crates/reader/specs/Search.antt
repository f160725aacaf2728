-- Where a byte first stands, and where a line of a text ends.
use Rattle.std.specs.Prelude.{◌≡◌, true, false, [], ◌∷◌, ℕ, ◌+◌, ◌-◌, ◌≤◌, ◌<◌, length, drop, get_or}
use Rattle.words.specs.Parts.{part}
use Rattle.paper.specs.Grammar.{Bytes, lines}

-- b does not stand from at up to r
pub record Without (b : ℕ) (s : Bytes) (at r : ℕ) : Type 0 where
  pub onward : at ≤ r
  pub inside : r ≤ length s
  pub none : (k : ℕ) → k < r → at ≤ k → get_or s k 0 ≡ b → ⊥

-- r is the place of the first b from at on, or the length
pub record FirstOrEnd (b : ℕ) (s : Bytes) (at r : ℕ) : Type 0 where
  pub without : Without b s at r
  pub found : r < length s → get_or s r 0 ≡ b

-- the line that begins at at ends at r: before its byte 10, or without one
pub record LineEnd (text : Bytes) (at r : ℕ) : Type 0 where
  pub onward : at ≤ r
  pub inside : r ≤ length text
  pub ended : r < length text → lines (drop at text) ≡ record { content = part at (r - at) text; ended = true } ∷ lines (drop (r + 1) text)
  pub last : at < length text → length text ≤ r → lines (drop at text) ≡ record { content = part at (r - at) text; ended = false } ∷ []
