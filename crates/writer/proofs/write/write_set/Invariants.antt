-- `writer::write::write_set` meets its contract. The loop's invariant: once the variables of the words from i on are written, all of the set's are.
-- Assumes nothing.
use Rattle.limits.specs.Limits.{variables}
use Rattle.ground.specs.Lists.{gather}
use Rattle.algebra.specs.Polynomial.{members}
use Rattle.words.specs.Words.{number_of}
use Rattle.writer.specs.Writing.{dotted}
use Rattle.writer.proofs.Written.{Left}
use Rattle.writer.proofs.Pieces.{set_rest}
use Rattle.writer.proofs.write.write_set.Given as goal

abbrev pub invariant-loop-i : goal.invariant-loop-i
invariant-loop-i l = Left l.fn.out l.at (gather dotted (members variables 0 (number_of l.a))) l.out l.end (set_rest l.a l.i)
