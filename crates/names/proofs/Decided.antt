-- The contracts of `names` decide their results, and the names held. Open on purpose: the room behind the names held; of hints nothing is said.
-- Assumes nothing.
use mathlib.Core.Path.{◌≡◌, refl, sym, ap, ap₂, ◌∙◌}
use mathlib.Core.List.{[], ◌∷◌}
use Prim.Native.Nat.{ℕ}
use lib.ListN.{length}
use Rattle.std.specs.Prelude.{Option, Some, None, is_none}
use Rattle.paper.specs.Published.{Name}
use Rattle.paper.proofs.Names.{never}
use Rattle.names.specs.Names.{held, number_by, bad_by, names_with, PlainIs}
use Rattle.names.specs.Numbered.{held_by, NumberFor, NumberedIs}
use Rattle.names.specs.declared.numbering.Numbering.{Numbering}
use Rattle.names.proofs.Rooms.{length_held}

-- ---- `plain_number`
pub one_plain : (s : Name) (p q : Option ℕ) → PlainIs s p → PlainIs s q → p ≡ q
one_plain s None None x y = refl
one_plain s None (Some w) x y = never (sym y.0 ∙ x)
one_plain s (Some v) None x y = never (sym x.0 ∙ y)
one_plain s (Some v) (Some w) x y = ap Some (x.1 ∙ sym y.1)

-- ---- `Numbering::number`
-- the same names are held, and numbered alike, wherever the rooms lie and whatever the hints are
pub record SameNames (m m' : Numbering) : Type 0 where
  pub plain : m.plain ≡ m'.plain
  pub names : m.names ≡ m'.names
  pub room : m.room.now ≡ m'.room.now

pub same_held : {m m' : Numbering} → SameNames m m' → held_by m ≡ held_by m'
same_held old = λ i. held (old.names i) (old.room i)

module _ (m m' a b : Numbering) (old : SameNames m m') (name : Name) where
  same_bad : bad_by m.plain (held_by m) name ≡ bad_by m'.plain (held_by m') name
  same_bad = λ i. bad_by (old.plain i) (same_held old i) name

  number_alike : (r q : Option ℕ) → NumberFor m a name r → NumberFor m' b name q → (r ≡ q) × (held_by a ≡ held_by b)
  number_alike None None x y = (refl, ap₂ held (x.1 ∙ old.names ∙ sym y.1) (x.2 ∙ old.room ∙ sym y.2))
  number_alike None (Some w) x y = never (sym x.0 ∙ same_bad ∙ y.0)
  number_alike (Some v) None x y = never (sym y.0 ∙ sym same_bad ∙ x.0)
  number_alike (Some v) (Some w) x y =
      let n : number_by m.plain (held_by m) name ≡ number_by m'.plain (held_by m') name = λ i. number_by (old.plain i) (same_held old i) name in
      let h : names_with m.plain (held_by m) (name ∷ []) ≡ names_with m'.plain (held_by m') (name ∷ []) = λ i. names_with (old.plain i) (same_held old i) (name ∷ []) in
      (ap Some (x.1 ∙ n ∙ sym y.1), x.2 ∙ h ∙ sym y.2)

  module _ (r q : Option ℕ) (x : NumberedIs m a name r) (y : NumberedIs m' b name q) where
    pub one_number : r ≡ q
    one_number = (number_alike r q x.number y.number).0

    -- whether it is bad
    pub one_bad : is_none r ≡ is_none q
    one_bad = ap is_none one_number

    -- the names that are held
    pub one_held : held_by a ≡ held_by b
    one_held = (number_alike r q x.number y.number).1

    -- and how many
    pub one_count : a.names ≡ b.names
    one_count = sym (length_held a.names a.room.now) ∙ ap length one_held ∙ length_held b.names b.room.now
