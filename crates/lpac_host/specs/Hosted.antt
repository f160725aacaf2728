-- What the host calls answer: verdict and line of the paper's answer, as one number.
use Rattle.std.specs.Prelude.{◌≡◌, cond, ℕ, ◌+◌, ◌*◌, ◌≤◌, ◌<◌, ltb, length}
use Rattle.limits.specs.Limits.{host_pool, host_scratch, host_text_bytes}
use Rattle.limits.specs.Verdicts.{LONGTEXT}
use Rattle.paper.specs.Grammar.{Bytes}
use Rattle.paper.specs.Answer.{Answer, unread, answer}
use Rattle.paper.specs.Named.{Texts, published_answer}

-- ---- the number of an answer: a line weighs more than any verdict
abbrev pub line_weight : ℕ
line_weight = 32

abbrev pub host_number : Answer → ℕ
host_number a = a.verdict + line_weight * a.line

-- what the number asks to fit a word, with the lines of n bytes
pub record Bounded (n : ℕ) (a : Answer) : Type 0 where
  pub verdict : a.verdict < line_weight
  pub line : a.line ≤ n

-- ---- the answer in the room that a call has of its own, for texts up to its own limit
unfoldable pub host_answer : Bytes → Answer
host_answer text = cond (ltb host_text_bytes (length text)) (unread LONGTEXT) (answer text host_pool host_scratch)

-- the contract of the call
abbrev pub Hosted : Bytes → ℕ → Type 0
Hosted text r = r ≡ host_number (host_answer text)

-- ---- three published texts, up to that limit together
abbrev pub bytes_of : Texts → ℕ
bytes_of t = length t.constraints + length t.target + length t.proof

unfoldable pub published_host_answer : ℕ → Texts → Answer
published_host_answer k t = cond (ltb host_text_bytes (bytes_of t)) (unread LONGTEXT) (published_answer k t host_pool host_scratch)

abbrev pub PublishedHosted : ℕ → Texts → ℕ → Type 0
PublishedHosted k t r = r ≡ host_number (published_host_answer k t)
