-- The argument K: a decimal and nothing behind it.
use Rattle.std.specs.Prelude.{◌≡◌, ℕ, length, Option, None, Some}
use Rattle.paper.specs.Grammar.{Bytes, decimal}
use Rattle.paper.specs.Named.{Texts}
use Rattle.reader.specs.Places.{Got}
use Rattle.lpac_host.specs.Hosted.{published_host_answer}

-- k stands for the word's value, which may be larger than a word of the machine holds: all texts have the same answer at both
pub record StandsFor (word : Bytes) (k : ℕ) : Type 0 where
  pub value : ℕ
  pub whole : Got decimal word 0 value (length word)
  pub answers : (t : Texts) → published_host_answer k t ≡ published_host_answer value t

abbrev pub RingArgumentIs : Bytes → Option ℕ → Type 0
RingArgumentIs word (Some k) = StandsFor word k
RingArgumentIs word None = (n : ℕ) → Got decimal word 0 n (length word) → ⊥
