-- The exits of `number_by_place`. Assumes nothing.
use mathlib.Core.Path.{◌≡◌, sym, ◌∙◌}
use mathlib.Core.Bool.{true, false}
use mathlib.Core.List.{List}
use Prim.Native.Nat.{ℕ, ◌+◌, ◌≤◌, ◌<◌, max}
use native.Mathlib.Omega.{arith}
use lib.ListN.{length}
use borrow.Author.Tests.{lt-ltb, le-ltb}
use Rattle.std.specs.Prelude.{Some}
use Rattle.limits.specs.Limits.{name_bytes, variables}
use Rattle.paper.specs.Grammar.{Bytes}
use Rattle.paper.specs.Statement.{is_variable}
use Rattle.paper.specs.Published.{Name}
use Rattle.paper.specs.Named.{place_in}
use Rattle.paper.proofs.Names.{is_in, in_by_place, out_by_place, with_old, with_new}
use Rattle.names.specs.Names.{held, Holding, HeldBehind, bad_by, PlaceIs}
use Rattle.names.proofs.Rooms.{length_held, put_held, put_holding}

-- ---- which names are bad
module _ (ms : List Name) (s : Name) where
  module _ (h : length s ≤ name_bytes) where
    pub bad_many : variables ≤ place_in ms s → bad_by false ms s ≡ true
    unfolding is_variable
    bad_many l = rw (le-ltb name_bytes (length s) h, le-ltb (place_in ms s) variables l)

    not_bad : place_in ms s < variables → bad_by false ms s ≡ false
    unfolding is_variable
    not_bad l = rw (le-ltb name_bytes (length s) h, lt-ltb (place_in ms s) variables l)

module _ (n : ℕ) (s : Name) (room : Bytes) (h : Holding n room) (k : length s ≤ name_bytes) where
  -- one that is held
  pub place_held : (i : ℕ) → i ≡ place_in (held n room) s → i < n → PlaceIs n s room room (Some i)
  place_held i e l =
      let q : place_in (held n room) s < length (held n room) = omega (arith, length_held n room) in
      let m : max n (i + 1) ≡ n = omega arith in
      (not_bad (held n room) s k (omega (arith, h.few)), e, rw m (sym (with_old (held n room) s (in_by_place (held n room) s q))), rw m h)

  -- one that is held from now on
  pub place_new : (room' : Bytes) → place_in (held n room) s ≡ n → n < variables → HeldBehind n s room room' → PlaceIs n s room room' (Some n)
  place_new room' e l p =
      let o : is_in (held n room) s ≡ false = out_by_place (held n room) s (omega (arith, length_held n room)) in
      let m : max n (n + 1) ≡ n + 1 = omega arith in
      (not_bad (held n room) s k (omega arith), sym e, rw m (put_held n room room' s h p ∙ sym (with_new (held n room) s o)), rw m (put_holding n room room' s h p l k o))
