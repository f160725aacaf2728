-- `names::put_name` meets its contract. The loop's invariant: the first i bytes are put. Assumes nothing.
use mathlib.Core.Path.{◌≡◌}
use Prim.Native.Nat.{◌+◌}
use lib.ListN.{length}
use lib.Seq.{paste}
use Rattle.names.proofs.put_name.Given as goal

abbrev pub invariant-loop-i : goal.invariant-loop-i
invariant-loop-i l = (length l.room ≡ length l.initial.room) × (l.room ≡ paste l.initial.room (l.at + 1) l.s l.i)
