-- What is promised of published texts, one type a promise. Each is proved in proofs/.
use mathlib.Core.{Path.◌≡◌, Bool.true, List.List, List.◌∷◌}
use Rattle.std.specs.Prelude.{ℕ, ◌/◌, ◌%◌}
use Rattle.limits.specs.Verdicts.{ACCEPTED, SHORT, LONGTEXT}
use Rattle.ground.specs.Lists.{any}
use Rattle.paper.specs.Statement.{modulo, ring, is_ring}
use Rattle.paper.specs.Answer.{answer, statements}
use Rattle.paper.specs.Published.{Name}
use Rattle.paper.specs.Named.{same_name, numbering, Texts, all_names, published_answer, published_statements, published_accepted}
use Rattle.paper.specs.LineText.{line_text, HasLineText, one_less}
use Rattle.checker.specs.declared.answer.Answer as code
use Rattle.triple.specs.Triple.{CheckedTexts}
use Rattle.lpac_host.specs.Hosted.{line_weight, published_host_answer, PublishedHosted}
use Rattle.promises.specs.Promises.{Sound, Counted}

-- ---- names: two of the texts that have one number are one name
abbrev pub OneNumberAName : Type 0
OneNumberAName = (t : Texts) (m n : Name) → any (λ l. same_name l m) (all_names t) ≡ true → any (λ l. same_name l n) (all_names t) ≡ true
    → numbering (all_names t) m ≡ numbering (all_names t) n → m ≡ n

-- ---- the line text that three texts stand for says the ring and their statements; its answer is theirs, where it has one
abbrev pub LineTextSays : Type 0
LineTextSays = (k : ℕ) (t : Texts) → statements (line_text k t) ≡ ring (modulo k) ∷ published_statements t

abbrev pub PublishedAsLines : Type 0
PublishedAsLines = (k : ℕ) (t : Texts) → HasLineText k t → (pool scratch : ℕ) → published_answer k t pool scratch ≡ one_less (answer (line_text k t) pool scratch)

-- ---- accepted texts: their constraints force their target, and extension variables alone can be changed so that all they introduced is zero
abbrev pub PublishedIsSound : Type 0
PublishedIsSound = (k : ℕ) (t : Texts) (pool scratch : ℕ) → (published_answer k t pool scratch).verdict ≡ ACCEPTED → Sound (published_statements t) k

-- ---- the counts of an answer are the sums over the accepted statements
abbrev pub PublishedCountsAreSums : Type 0
PublishedCountsAreSums = (k : ℕ) (t : Texts) (pool scratch : ℕ) → is_ring (modulo k) ≡ true → ((published_answer k t pool scratch).verdict ≡ SHORT → ⊥)
    → ((published_answer k t pool scratch).verdict ≡ LONGTEXT → ⊥) → Counted (published_answer k t pool scratch) (published_accepted k t pool) k

-- ---- the code: the contract `CheckedTexts` decides the six numbers and both rooms afterwards, and what it accepts is sound
abbrev pub PublishedDecided : Type 0
PublishedDecided = (k : ℕ) (t : Texts) (pool scratch : List ℕ) (a b : code.Answer) (p q r s : List ℕ) → CheckedTexts k t pool scratch a p q → CheckedTexts k t pool scratch b r s
    → (a ≡ b) × (p ≡ r) × (q ≡ s)

abbrev pub PublishedCheckedIsSound : Type 0
PublishedCheckedIsSound = (k : ℕ) (t : Texts) (pool scratch : List ℕ) (a : code.Answer) (p q : List ℕ) → CheckedTexts k t pool scratch a p q → a.verdict ≡ ACCEPTED
    → Sound (published_statements t) k

-- ---- the host call: its number for every three texts, verdict and line read off it, and what it accepts is sound
abbrev pub PublishedHostDecided : Type 0
PublishedHostDecided = (k : ℕ) (t : Texts) (r s : ℕ) → PublishedHosted k t r → PublishedHosted k t s → r ≡ s

abbrev pub PublishedHostTells : Type 0
PublishedHostTells = (k : ℕ) (t : Texts) (r : ℕ) → PublishedHosted k t r → (r % line_weight ≡ (published_host_answer k t).verdict) × (r / line_weight ≡ (published_host_answer k t).line)

abbrev pub PublishedHostedIsSound : Type 0
PublishedHostedIsSound = (k : ℕ) (t : Texts) (r : ℕ) → PublishedHosted k t r → r ≡ ACCEPTED → Sound (published_statements t) k
