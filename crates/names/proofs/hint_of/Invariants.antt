-- `names::hint_of` meets its contract: a hint's place is a rest. Assumes nothing.
use Prim.Native.Nat.{◌<◌}
use Rattle.names.specs.Names.{hint_count}
use Rattle.names.proofs.hint_of.Given as goal

abbrev pub invariant-loop-b : goal.invariant-loop-b
invariant-loop-b l = l.h < hint_count
