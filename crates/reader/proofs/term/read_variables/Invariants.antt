-- `reader::term::read_variables` meets its contract. The loop's invariant: variables stand from at up to i, as set and outside tell.
-- The measure is what is left of the length. Assumes nothing.
use Prim.Native.Nat.{◌-◌}
use lib.ListN.{length}
use Rattle.reader.proofs.Fields.{VariablesTo}
use Rattle.reader.proofs.term.read_variables.Given as goal

abbrev pub invariant-loop-set : goal.invariant-loop-set
invariant-loop-set l = VariablesTo l.s l.at l.set l.outside l.i

abbrev pub decreases-loop-set : goal.decreases-loop-set
decreases-loop-set l = length l.s - l.i
