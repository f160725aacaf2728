-- `scratch::copy_to_goal` meets its contract. The loop's invariant: i terms are copied. Assumes nothing.
use Rattle.scratch.proofs.Copying.{Copied}
use Rattle.scratch.proofs.copy_to_goal.Given as goal

abbrev pub invariant-loop-i : goal.invariant-loop-i
invariant-loop-i l = Copied l.fn.scratch l.i l.scratch
