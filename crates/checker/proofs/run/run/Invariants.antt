-- `checker::run::run` meets its contract. The loop's invariant: the lines from at on give the answer of the text, and there is room for them.
-- The measure is what is left of the text, and one. Assumes nothing.
use Prim.Native.Nat.{◌+◌, ◌-◌}
use lib.ListN.{length}
use Rattle.checker.proofs.Running.{Onward}
use Rattle.checker.proofs.run.run.Given as goal

abbrev pub invariant-loop-at : goal.invariant-loop-at
invariant-loop-at l = Onward l.capacity l.text l.state l.at l.pool l.scratch

abbrev pub decreases-loop-at : goal.decreases-loop-at
decreases-loop-at l = length l.text + 1 - l.at
