-- `writer::measure::run_length` meets its contract. The loop's invariant: the sum and the terms from the i-th on make up the run.
-- Assumes nothing.
use mathlib.Core.Path.{◌≡◌}
use Prim.Native.Nat.{◌+◌}
use lib.ListN.{length}
use Rattle.terms.specs.Terms.{decode}
use Rattle.paper.specs.Spelling.{spell}
use Rattle.writer.proofs.Runs.{run_rest}
use Rattle.writer.proofs.measure.run_length.Given as goal

abbrev pub invariant-loop-i : goal.invariant-loop-i
invariant-loop-i l = l.sum + length (run_rest l.ring.k l.n l.s l.i) ≡ length (spell l.ring.k (decode l.n l.s))
