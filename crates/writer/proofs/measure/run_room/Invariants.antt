-- `writer::measure::run_room` meets its contract. The loop's invariant: the sum and the room of the terms from the i-th on make up that of the run.
-- Assumes nothing.
use mathlib.Core.Path.{◌≡◌}
use Prim.Native.Nat.{◌+◌}
use lib.ListN.{drop}
use Rattle.ground.specs.Lists.{total}
use Rattle.terms.specs.Terms.{decode}
use Rattle.writer.specs.Writing.{term_room, room}
use Rattle.writer.proofs.measure.run_room.Given as goal

abbrev pub invariant-loop-i : goal.invariant-loop-i
invariant-loop-i l = l.sum + total term_room (drop l.i (decode l.n l.s)) ≡ room (decode l.n l.s)
