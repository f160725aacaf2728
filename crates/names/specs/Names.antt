-- Names held in a lent room, and their numbers.
use Rattle.std.specs.Prelude.{◌≡◌, Bool, true, false, ◌||◌, not, cond, List, [], ◌∷◌, ◌++◌, ℕ, zero, suc, ◌+◌, ◌*◌, ◌≤◌, ◌<◌, max, eqb, ltb, length, get_or, Option, Some, None}
use Prim.Native.Char.{code}
use Rattle.limits.specs.Limits.{name_bytes, variables}
use Rattle.words.specs.Parts.{part, Within}
use Rattle.paper.specs.Grammar.{Bytes}
use Rattle.paper.specs.Statement.{is_variable}
use Rattle.paper.specs.Published.{Name}
use Rattle.paper.specs.Named.{plain_number, is_plain, place_in, with_names}

-- ---- the room: as many bytes a name, the first of them its length
abbrev pub slot_bytes : ℕ
slot_bytes = name_bytes + 1

abbrev pub name_in : Bytes → ℕ → Name
name_in room i = part (i * slot_bytes + 1) (get_or room (i * slot_bytes) 0) room

-- the first n
unfoldable pub held : ℕ → Bytes → List Name
held zero room = []
held (suc n) room = held n room ++ (name_in room n ∷ [])

-- they are short, and no two of them are the same
pub record Holding (n : ℕ) (room : Bytes) : Type 0 where
  pub few : n ≤ variables
  pub fits : variables * slot_bytes ≤ length room
  pub short : (i : ℕ) → i < n → get_or room (i * slot_bytes) 0 ≤ name_bytes
  pub apart : (i : ℕ) → i < length (held n room) → place_in (held n room) (get_or (held n room) i []) ≡ i

-- a name behind n others, of which nothing changes
pub record HeldBehind (n : ℕ) (name : Name) (room room' : Bytes) : Type 0 where
  pub within : Within (n * slot_bytes) ((n + 1) * slot_bytes) room room'
  pub size : get_or room' (n * slot_bytes) 0 ≡ length name
  pub bytes : name_in room' n ≡ name

-- ---- numbers: plain ones, or places among the names ms before
module _ (plain : Bool) (ms : List Name) where
  abbrev pub number_by : Name → ℕ
  number_by n = cond plain (plain_number n) (place_in ms n)

  abbrev pub bad_by : Name → Bool
  bad_by n = cond plain (not (is_plain n)) (ltb name_bytes (length n) || not (is_variable (place_in ms n)))

  -- and with it
  abbrev pub names_with : List Name → List Name
  names_with ns = cond plain ms (with_names ms ns)

-- of n names that are held: the name is bad and nothing changes; or it has a place, and is held there
abbrev pub PlaceIs : ℕ → Name → Bytes → Bytes → Option ℕ → Type 0
PlaceIs n name room room' None = (bad_by false (held n room) name ≡ true) × (room' ≡ room)
PlaceIs n name room room' (Some i) =
    (bad_by false (held n room) name ≡ false) × (i ≡ place_in (held n room) name) × (held (max n (i + 1)) room' ≡ names_with false (held n room) (name ∷ [])) × Holding (max n (i + 1)) room'

-- where the decimal of a plain name begins: behind its x; the end of a name without one
abbrev pub behind_x : Name → ℕ
behind_x n = cond (eqb (get_or n 0 0) (code "x")) 1 (length n)

-- the number of a plain name; none of another
abbrev pub PlainIs : Name → Option ℕ → Type 0
PlainIs n None = is_plain n ≡ false
PlainIs n (Some v) = (is_plain n ≡ true) × (v ≡ plain_number n)

-- ---- where a name is looked for first
abbrev pub hint_count : ℕ
hint_count = 4096
