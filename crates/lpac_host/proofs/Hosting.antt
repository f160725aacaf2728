-- The host calls' numbers: what they are for texts that are too long and for texts that were checked, and how to read them. Assumes nothing.
use mathlib.Core.Path.{◌≡◌, sym, ap₂, subst, ◌∙◌}
use mathlib.Core.Bool.{true, false, cond}
use mathlib.Core.List.{List}
use Prim.Native.Nat.{ℕ, ◌/◌, ◌%◌, ◌≤◌, ◌<◌}
use native.Mathlib.Omega.{arith}
use lib.Dec.{ltb}
use lib.ListN.{length}
use borrow.Author.Tests.{lt-ltb, le-ltb, ltb-false}
use Rattle.ground.proofs.Tests.{by_cond}
use Rattle.limits.specs.Limits.{host_pool, host_scratch, host_text_bytes}
use Rattle.limits.specs.Verdicts.{ACCEPTED, LONGTEXT}
use Rattle.paper.specs.Grammar.{Bytes}
use Rattle.paper.specs.Answer as paper
use Rattle.paper.specs.Answer.{answer, unread}
use Rattle.paper.specs.Named.{Texts, published_answer}
use Rattle.checker.specs.declared.answer.Answer.{Answer}
use Rattle.checker.specs.Checked.{answer_of, Checked}
use Rattle.triple.specs.Triple.{CheckedTexts}
use Rattle.lpac_host.specs.Hosted.{line_weight, host_number, Bounded, host_answer, Hosted, bytes_of, published_host_answer, PublishedHosted}
use Rattle.lpac_host.proofs.Bounds.{unread_bounded, answer_bounded, published_bounded}

-- ---- the answer
module _ (text : Bytes) {a : Answer} where
  pub hosted_long : host_text_bytes < length text → answer_of a ≡ unread LONGTEXT → answer_of a ≡ host_answer text
  unfolding host_answer
  hosted_long l e = rw (lt-ltb host_text_bytes (length text) l) e

  pub hosted_checked : {pool scratch p q : List ℕ} → length text ≤ host_text_bytes → length pool ≡ host_pool → length scratch ≡ host_scratch
      → Checked text pool scratch a p q → answer_of a ≡ host_answer text
  unfolding host_answer
  hosted_checked l e f c = rw (le-ltb host_text_bytes (length text) l) (c.answer ∙ ap₂ (answer text) e f)

module _ (k : ℕ) (t : Texts) {a : Answer} where
  pub published_long : true ≡ ltb host_text_bytes (bytes_of t) → answer_of a ≡ unread LONGTEXT → answer_of a ≡ published_host_answer k t
  unfolding published_host_answer
  published_long l e = rw (← l) e

  pub published_checked : {pool scratch p q : List ℕ} → false ≡ ltb host_text_bytes (bytes_of t) → length pool ≡ host_pool → length scratch ≡ host_scratch
      → CheckedTexts k t pool scratch a p q → answer_of a ≡ published_host_answer k t
  unfolding published_host_answer
  published_checked l e f c = rw (← l) (c.answer ∙ ap₂ (published_answer k t) e f)

-- ---- its number
-- no answer names a line behind the last, so that the number fits a word
limited : (n : ℕ) (a : paper.Answer) → Bounded n a → Bounded host_text_bytes (cond (ltb host_text_bytes n) (unread LONGTEXT) a)
limited n a b =
    by_cond (Bounded host_text_bytes) (ltb host_text_bytes n) (λ _. unread_bounded host_text_bytes LONGTEXT (omega arith))
    (λ e. record { verdict = b.verdict; line = omega (arith, b.line, ltb-false host_text_bytes n e) })

pub host_bounded : (text : Bytes) → Bounded host_text_bytes (host_answer text)
unfolding host_answer
host_bounded text = limited (length text) (answer text host_pool host_scratch) (answer_bounded text host_pool host_scratch)

pub published_host_bounded : (k : ℕ) (t : Texts) → Bounded host_text_bytes (published_host_answer k t)
unfolding published_host_answer
published_host_bounded k t = limited (bytes_of t) (published_answer k t host_pool host_scratch) (published_bounded k t host_pool host_scratch)

module _ {a : Answer} {x : paper.Answer} (e : answer_of a ≡ x) where
  pub same_bounds : Bounded host_text_bytes x → Bounded host_text_bytes (answer_of a)
  same_bounds = subst (Bounded host_text_bytes) (sym e)

-- ---- how to read it: verdict and line are the remainder and the quotient
module _ {n : ℕ} {a : paper.Answer} (b : Bounded n a) {r : ℕ} (e : r ≡ host_number a) where
  number_verdict : r % line_weight ≡ a.verdict
  number_verdict = let l = b.verdict in omega arith

  number_line : r / line_weight ≡ a.line
  number_line = let l = b.verdict in omega arith

  number_accepted : r ≡ ACCEPTED → a.verdict ≡ ACCEPTED
  number_accepted z = omega arith

-- a text that was not read was not accepted
read_accepted : (n : ℕ) (a : paper.Answer) → (cond (ltb host_text_bytes n) (unread LONGTEXT) a).verdict ≡ ACCEPTED → a.verdict ≡ ACCEPTED
unfolding unread
read_accepted n a =
    by_cond (λ (x : paper.Answer). x.verdict ≡ ACCEPTED → a.verdict ≡ ACCEPTED) (ltb host_text_bytes n) (λ _ z. absurd (omega arith)) (λ _ z. z)

module _ (text : Bytes) (r : ℕ) (e : Hosted text r) where
  pub hosted_verdict : r % line_weight ≡ (host_answer text).verdict
  hosted_verdict = number_verdict (host_bounded text) e

  pub hosted_line : r / line_weight ≡ (host_answer text).line
  hosted_line = number_line (host_bounded text) e

  -- 0 is given for accepted texts alone
  pub hosted_accepted : r ≡ ACCEPTED → (answer text host_pool host_scratch).verdict ≡ ACCEPTED
  unfolding host_answer
  hosted_accepted z = read_accepted (length text) (answer text host_pool host_scratch) (number_accepted (host_bounded text) e z)

module _ (k : ℕ) (t : Texts) (r : ℕ) (e : PublishedHosted k t r) where
  pub published_hosted_verdict : r % line_weight ≡ (published_host_answer k t).verdict
  published_hosted_verdict = number_verdict (published_host_bounded k t) e

  pub published_hosted_line : r / line_weight ≡ (published_host_answer k t).line
  published_hosted_line = number_line (published_host_bounded k t) e

  pub published_hosted_accepted : r ≡ ACCEPTED → (published_answer k t host_pool host_scratch).verdict ≡ ACCEPTED
  unfolding published_host_answer
  published_hosted_accepted z = read_accepted (bytes_of t) (published_answer k t host_pool host_scratch) (number_accepted (published_host_bounded k t) e z)
