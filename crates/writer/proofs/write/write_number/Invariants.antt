-- `writer::write::write_number` meets its contract. The loop's invariant: once left is written from the place at on, n is, and left ends before i. Assumes nothing.
use Rattle.writer.proofs.Digits.{Back}
use Rattle.writer.proofs.write.write_number.Given as goal

abbrev pub invariant-loop-i : goal.invariant-loop-i
invariant-loop-i l = Back l.fn.out l.at l.n l.out l.i l.left
