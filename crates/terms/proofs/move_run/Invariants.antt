-- `terms::move_run` meets its contract. The loop's invariant: the first i words are copied. Assumes nothing.
use mathlib.Core.Path.{◌≡◌}
use lib.ListN.{length}
use lib.Seq.{paste}
use Rattle.terms.proofs.move_run.Given as goal

abbrev pub invariant-loop-i : goal.invariant-loop-i
invariant-loop-i l = (length l.to ≡ length l.fn.to) × (l.to ≡ paste l.fn.to l.at l.from l.i)
