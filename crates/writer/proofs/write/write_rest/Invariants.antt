-- `writer::write::write_rest` meets its contract. The loop's invariant: once the terms from the i-th on are written, all but the first are.
-- Assumes nothing.
use Rattle.writer.proofs.Written.{Left}
use Rattle.writer.proofs.Runs.{run_rest}
use Rattle.writer.proofs.write.write_rest.Given as goal

abbrev pub invariant-loop-i : goal.invariant-loop-i
invariant-loop-i l = Left l.fn.out l.at (run_rest l.ring.k l.n l.s 1) l.out l.end (run_rest l.ring.k l.n l.s l.i)
