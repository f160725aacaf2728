-- How names are numbered, said of the code's numbering.
use Rattle.std.specs.Prelude.{◌≡◌, true, false, List, [], ◌∷◌, ℕ, Option, Some, None}
use Rattle.paper.specs.Published.{Name}
use Rattle.names.specs.Names.{held, number_by, bad_by, names_with}
use Rattle.names.specs.declared.numbering.Numbering.{Numbering}

-- the names that are held
abbrev pub held_by : Numbering → List Name
held_by m = held m.names m.room.now

-- room and hints are still the caller's that were lent, so what they hold is what the caller finds in them afterwards
abbrev pub StillLent : Numbering → Numbering → Type 0
StillLent old new = (new.room.ghost_name ≡ old.room.ghost_name) × (new.hints.ghost_name ≡ old.hints.ghost_name)

-- the name is bad and nothing changes; or it has its number, and is held
abbrev pub NumberFor : Numbering → Numbering → Name → Option ℕ → Type 0
NumberFor old new name None = (bad_by old.plain (held_by old) name ≡ true) × (new.names ≡ old.names) × (new.room.now ≡ old.room.now)
NumberFor old new name (Some v) =
    (bad_by old.plain (held_by old) name ≡ false) × (v ≡ number_by old.plain (held_by old) name) × (held_by new ≡ names_with old.plain (held_by old) (name ∷ []))

pub record NumberedIs (old new : Numbering) (name : Name) (r : Option ℕ) : Type 0 where
  pub plain : new.plain ≡ old.plain
  pub number : NumberFor old new name r
