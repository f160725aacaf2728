-- What the spelling writer leaves, by the paper's definitions.
use Rattle.std.specs.Prelude.{◌≡◌, true, false, cond, List, [], ℕ, ltb, length, Result, Ok, Err}
use Rattle.limits.specs.Verdicts.{ACCEPTED, FULL}
use Rattle.limits.specs.Refusals.{outcome}
use Rattle.limits.specs.declared.refusal.Refusal.{Refusal}
use Rattle.paper.specs.Grammar.{Bytes, got, polynomial}
use Rattle.paper.specs.Statement.{Written, modulo, is_ring, in_range, too_many_terms}
use Rattle.paper.specs.Spelling.{Spelled, refuse, spell_read, whole_field, spell_field, output_after, scratch_after}
use Rattle.written.specs.Worded.{Holds}

-- how many bytes were written, or the refusal
abbrev pub Answer : Type 0
Answer = Result ℕ Refusal

-- nothing is where refused
abbrev pub written_of : Answer → ℕ
written_of (Ok n) = n
written_of (Err why) = 0

-- the answer r with the output afterwards is what x says
pub record Gives (x : Spelled) (out out' : Bytes) (r : Answer) : Type 0 where
  pub verdict : outcome r ≡ x.verdict
  pub written : written_of r ≡ length x.spelling
  pub output : out' ≡ output_after x out

-- the whole contract
pub record Spells (field : Bytes) (k : ℕ) (scratch : List ℕ) (out : Bytes) (r : Answer) (scratch' : List ℕ) (out' : Bytes) : Type 0 where
  pub gives : Gives (spell_field field k (length scratch) (length out)) out out' r
  pub cleared : scratch' ≡ scratch_after (spell_field field k (length scratch) (length out)).verdict scratch

-- two results that it allows are one
abbrev pub SpellDecided : Type 0
SpellDecided = (field : Bytes) (k : ℕ) (scratch : List ℕ) (out : Bytes) (r q : Answer) (scratch' scratch'' : List ℕ) (out' out'' : Bytes)
    → Spells field k scratch out r scratch' out' → Spells field k scratch out q scratch'' out'' → (r ≡ q) × (scratch' ≡ scratch'') × (out' ≡ out'')

-- ---- its steps
-- a spelling that takes no more than the room, or FULL
unfoldable pub fitted : Bytes → ℕ → Spelled
fitted w room = cond (ltb room (length w)) (refuse FULL) (record { verdict = ACCEPTED; spelling = w })

-- a whole field in range and of few enough terms, and a k in range
pub record Accepts (field : Bytes) (k : ℕ) : Type 0 where
  pub value : Written
  pub reads : polynomial field ≡ got value []
  pub ranged : in_range value ≡ true
  pub short : too_many_terms value ≡ false
  pub ring : is_ring (modulo k) ≡ true

-- v is the verdict before any room is looked at; an accepted field stands in the n terms at the front of the words
pub record FieldJudged (field : Bytes) (k : ℕ) (words : List ℕ) (n v : ℕ) : Type 0 where
  pub refused : (v ≡ ACCEPTED → ⊥) → (room : ℕ) → spell_read k room (whole_field field) ≡ refuse v
  pub accepted : v ≡ ACCEPTED → (a : Accepts field k) × Holds a.value n 0 words
