-- `names::number_by_place` meets its contract: the hint or the search finds the name, or it is new. No loop. Assumes nothing.
use mathlib.Core.Path.{refl, sym, ◌∙◌}
use native.Mathlib.Omega.{arith}
use lib.ListN.{get_or}
use Rattle.names.specs.Names.{held}
use Rattle.names.proofs.Rooms.{alone_at}
use Rattle.names.proofs.Exits.{bad_many, place_held, place_new}
use Rattle.names.proofs.number_by_place.Goals as goal

pub returns-then-is_name : goal.returns-then-is_name
returns-then-is_name c =
    let a = c.args in
    let i = get_or a.hints.now c.hint_of-h.result 0 in
    let e = alone_at a.n a.room.now a.s.now i c.requires.0 (omega arith) (sym c.is_name.ensures ∙ c.if-is_name.true) in
    place_held a.n a.s.now a.room.now c.requires.0 (omega arith) i e (omega arith)

pub returns-in-Some : goal.returns-in-Some
returns-in-Some c = let a = c.args in let f = c.in-Some.ensures in place_held a.n a.s.now a.room.now c.requires.0 (omega arith) c.in-Some.i f.1 f.0

pub returns-then-n : goal.returns-then-n
returns-then-n c = let a = c.args in let f = c.in_default.ensures in (bad_many (held a.n a.room.now) a.s.now (omega arith) (omega arith), refl)

pub returns : goal.returns
returns c =
    let a = c.args in
    place_new a.n a.s.now a.room.now c.requires.0 (omega arith) c.put_name.new.room c.in_default.ensures (omega (arith, c.requires.0.few)) c.put_name.ensures
