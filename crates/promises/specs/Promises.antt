-- What is promised, one type a promise. Each is proved in proofs/.
use mathlib.Core.{Path.◌≡◌, Bool.true, Logic.◌⊎◌, Logic.◌↔◌, List.List, List.[], List.◌++◌, List.map}
use Rattle.std.specs.Prelude.{ℕ, ◌+◌, ◌*◌, ◌/◌, ◌%◌, ◌^◌, ◌≤◌, ◌<◌, length, take}
use Rattle.limits.specs.Limits.{variables, line_bytes, field_terms, least_spelling_scratch}
use Rattle.limits.specs.Refusals.{outcome}
use Rattle.limits.specs.Verdicts.{ACCEPTED, SHORT, LONGTEXT, FULL}
use Rattle.algebra.specs.Polynomial.{DifferOnlyAt, Apart, Poly, value, vars, coef_of, reduce, product, Below, Reduced, AllZero, Forced, Derived}
use Rattle.paper.specs.Statement.{Written, Statement, modulo, is_ring, in_range, as_term, reduced}
use Rattle.paper.specs.Grammar.{Bytes, got}
use Rattle.paper.specs.Answer.{Answer, answer, statements, ring_in, defined_in, inputs_in, goal_in, introduced_in, accepted, products_in, introduced_polynomials, deleted_polynomials, introduced_terms, deleted_terms}
use Rattle.paper.specs.Spelling.{spell, whole_field}
use Rattle.checker.specs.declared.answer.Answer as code
use Rattle.checker.specs.Checked.{Checked}
use Rattle.lpac_host.specs.Hosted.{host_answer, line_weight, Hosted}
use Rattle.speller.specs.Spells as speller
use Rattle.speller.specs.Spells.{written_of, Spells}

-- ---- algebra: a reduced sum or product has the sum or product of the values
abbrev pub SumOfValues : Type 0
SumOfValues = (k a : ℕ) (p q : Poly) → value k a (reduce k (p ++ q)) ≡ (value k a p + value k a q) % 2 ^ k

abbrev pub ProductOfValues : Type 0
ProductOfValues = (k a : ℕ) (p q : Poly) → value k a (product k p q) ≡ (value k a p * value k a q) % 2 ^ k

-- two polynomials in n variables reduce to one form exactly when they agree at every assignment
abbrev pub OneForm : Type 0
OneForm = (k n : ℕ) (p q : Poly) → Below (2 ^ n) p → Below (2 ^ n) q → (reduce k p ≡ reduce k q) ↔ ((a : ℕ) → a < 2 ^ n → value k a p ≡ value k a q)

-- and that form is the one list in falling order, without zeros, with the same coefficient of each set
abbrev pub OneList : Type 0
OneList = (k n : ℕ) (p q : Poly) → Below (2 ^ n) p → Reduced k (2 ^ n) q → ((m : ℕ) → m < 2 ^ n → coef_of m q % 2 ^ k ≡ coef_of m p % 2 ^ k) → q ≡ reduce k p

-- a polynomial that is its own square is a bit everywhere
abbrev pub BitEverywhere : Type 0
BitEverywhere = (k a : ℕ) (p : Poly) → 0 < k → product k p p ≡ p → (value k a p ≡ 0) ⊎ (value k a p ≡ 1)

-- ---- derived polynomials, whatever calculus derived them
abbrev pub DerivedForces : Type 0
DerivedForces = (k : ℕ) (is ps : List Poly) (es : ℕ) (g : Poly) → Derived k is es ps → Apart es (vars g) → Forced k ps g → (a : ℕ) → AllZero k a is → value k a g ≡ 0

abbrev pub DefinitionsCanBeMet : Type 0
DefinitionsCanBeMet = (k : ℕ) (is ps : List Poly) (es : ℕ) → Derived k is es ps → (a : ℕ) → AllZero k a is → (b : ℕ) × DifferOnlyAt es a b × AllZero k b ps

-- ---- an accepted text: its inputs force its goal, and extension variables alone can be changed so that all it introduced is zero
pub record Sound (sts : List Statement) (k : ℕ) : Type 0 where
  pub forced : (a : ℕ) → AllZero k a (inputs_in k sts) → value k a (goal_in k sts) ≡ 0
  pub met : (a : ℕ) → AllZero k a (inputs_in k sts) → (b : ℕ) × DifferOnlyAt (defined_in sts) a b × AllZero k b (introduced_in k sts)

abbrev pub AcceptedIsSound : Type 0
AcceptedIsSound = (text : Bytes) (pool scratch : ℕ) → (answer text pool scratch).verdict ≡ ACCEPTED → Sound (statements text) (ring_in (statements text))

-- ---- the counts of an answer are the sums over the accepted statements h
pub record Counted (a : Answer) (h : List Statement) (k : ℕ) : Type 0 where
  pub products : a.products ≡ products_in k h
  pub polynomials : a.polynomials + deleted_polynomials h ≡ introduced_polynomials k h
  pub terms : a.terms + deleted_terms k h ≡ introduced_terms k h

abbrev pub CountsAreSums : Type 0
CountsAreSums = (text : Bytes) (pool scratch : ℕ) → ((answer text pool scratch).verdict ≡ SHORT → ⊥) → ((answer text pool scratch).verdict ≡ LONGTEXT → ⊥)
    → Counted (answer text pool scratch) (accepted text pool) (ring_in (accepted text pool))

-- ---- the code: the contract `Checked` decides the six numbers and both rooms afterwards, and what it accepts is sound
abbrev pub Decided : Type 0
Decided = (text : Bytes) (pool scratch : List ℕ) (a b : code.Answer) (p q r s : List ℕ) → Checked text pool scratch a p q → Checked text pool scratch b r s → (a ≡ b) × (p ≡ r) × (q ≡ s)

abbrev pub CheckedIsSound : Type 0
CheckedIsSound = (text : Bytes) (pool scratch : List ℕ) (a : code.Answer) (p q : List ℕ) → Checked text pool scratch a p q → a.verdict ≡ ACCEPTED → Sound (statements text) (ring_in (statements text))

-- ---- the host call: its number for every text, verdict and line read off it, and what it accepts is sound
abbrev pub HostDecided : Type 0
HostDecided = (text : Bytes) (r s : ℕ) → Hosted text r → Hosted text s → r ≡ s

abbrev pub HostTells : Type 0
HostTells = (text : Bytes) (r : ℕ) → Hosted text r → (r % line_weight ≡ (host_answer text).verdict) × (r / line_weight ≡ (host_answer text).line)

abbrev pub HostedIsSound : Type 0
HostedIsSound = (text : Bytes) (r : ℕ) → Hosted text r → r ≡ ACCEPTED → Sound (statements text) (ring_in (statements text))

-- ---- spelling: read as a whole field it gives as many terms, with every number in range, and they mean the polynomial that it came from
abbrev pub ReadBack : Type 0
ReadBack = (k : ℕ) (p : Poly) → is_ring (modulo k) ≡ true → Reduced k (2 ^ variables) p
    → (f : Written) × (whole_field (spell k p) ≡ got f []) × (in_range f ≡ true) × (length f ≡ length p) × (reduced k f ≡ p)

-- ---- the code: a call of `spell` that accepted the field at k and wrote s, by the contract `Spells`
pub record Writes (field : Bytes) (k : ℕ) (s : Bytes) : Type 0 where
  pub scratch : List ℕ
  pub out : Bytes
  pub result : speller.Answer
  pub scratch' : List ℕ
  pub out' : Bytes
  pub call : Spells field k scratch out result scratch' out'
  pub accepts : outcome result ≡ ACCEPTED
  pub bytes : s ≡ take (written_of result) out'

-- s is a whole field that neither NUMBER nor TERMS refuses, and f is what it says
pub record Says (s : Bytes) (f : Written) : Type 0 where
  pub reads : whole_field s ≡ got f []
  pub range : in_range f ≡ true
  pub few : length f ≤ field_terms

-- what it wrote reads as a field of the same meaning
abbrev pub SpelledReadsBack : Type 0
SpelledReadsBack = (field : Bytes) (k : ℕ) (s : Bytes) → Writes field k s → (f : Written) × (g : Written) × Says field f × Says s g × (reduced k g ≡ reduced k f)

-- a spelling that is no longer than a line, given back to it at the same k with room for it, is accepted and written as it is
abbrev pub SpelledAgain : Type 0
SpelledAgain = (field : Bytes) (k : ℕ) (s : Bytes) → Writes field k s → length s ≤ line_bytes
    → (scratch : List ℕ) (out : Bytes) (r : speller.Answer) (scratch' : List ℕ) (out' : Bytes) → least_spelling_scratch ≤ length scratch → length s ≤ length out
    → Spells s k scratch out r scratch' out' → (outcome r ≡ ACCEPTED) × (take (written_of r) out' ≡ s)

-- two fields that say f and g are written alike exactly when they agree at every 0/1 assignment
abbrev pub SpelledAlike : Type 0
SpelledAlike = (k : ℕ) (a b s t : Bytes) (f g : Written) → Writes a k s → Writes b k t → whole_field a ≡ got f [] → whole_field b ≡ got g []
    → (s ≡ t) ↔ ((m : ℕ) → m < 2 ^ variables → value k m (map (as_term k) f) ≡ value k m (map (as_term k) g))

-- a spelling is longer than its field by one byte for each written term at the most, and so has at most 8,288 bytes
abbrev pub SpelledLength : Type 0
SpelledLength = (field : Bytes) (k : ℕ) (s : Bytes) (f : Written) → Writes field k s → whole_field field ≡ got f []
    → (length s ≤ length field + length f) × (length s ≤ line_bytes + field_terms)

-- with an output of as many bytes it never answers FULL
abbrev pub NeverFull : Type 0
NeverFull = (field : Bytes) (k : ℕ) (scratch : List ℕ) (out : Bytes) (r : speller.Answer) (scratch' : List ℕ) (out' : Bytes) → Spells field k scratch out r scratch' out'
    → line_bytes + field_terms ≤ length out → outcome r ≡ FULL → ⊥
