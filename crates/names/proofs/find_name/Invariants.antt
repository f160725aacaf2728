-- `names::find_name` meets its contract. The loop's invariant: the name is none of the first i. Assumes nothing.
use Rattle.names.proofs.Rooms.{NotBefore}
use Rattle.names.proofs.find_name.Given as goal

abbrev pub invariant-loop-i : goal.invariant-loop-i
invariant-loop-i l = NotBefore l.n l.room l.s l.i
