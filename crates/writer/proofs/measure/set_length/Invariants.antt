-- `writer::measure::set_length` meets its contract. The loop's invariant: the sum and the variables of the words from i on make up those of the set.
-- Assumes nothing.
use mathlib.Core.Path.{◌≡◌}
use Prim.Native.Nat.{◌+◌}
use lib.ListN.{length}
use Rattle.limits.specs.Limits.{variables}
use Rattle.ground.specs.Lists.{gather}
use Rattle.algebra.specs.Polynomial.{members}
use Rattle.words.specs.Words.{number_of}
use Rattle.writer.specs.Writing.{dotted}
use Rattle.writer.proofs.Pieces.{set_rest}
use Rattle.writer.proofs.measure.set_length.Given as goal

abbrev pub invariant-loop-i : goal.invariant-loop-i
invariant-loop-i l = l.sum + length (set_rest l.a l.i) ≡ length (gather dotted (members variables 0 (number_of l.a)))
