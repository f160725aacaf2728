-- `writer::measure::number_length` meets its contract: n is at least a power of ten, and below the next. No loop. Assumes nothing.
use Rattle.std.proofs.Common.{sym, ap, arith}
use lib.ListN.{length}
use Rattle.paper.proofs.Numbers.{number_small}
use Rattle.writer.proofs.Digits.{digits_are}
use Rattle.writer.proofs.measure.number_length.Goals as goal

pub returns-in-Some : goal.returns-in-Some
returns-in-Some c = digits_are c.in-Some.tens c.args.n c.in-Some.ensures.power_le c.in-Some.ensures.next_power_gt

pub returns-in-None : goal.returns-in-None
returns-in-None c = sym (ap length (number_small c.args.n (omega (arith, c.in-None.ensures.none))))
