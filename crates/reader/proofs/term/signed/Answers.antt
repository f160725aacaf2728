-- `reader::term::signed` meets its contract, by the sign. No loop. Assumes nothing.
use Rattle.reader.proofs.Fields.{signed_negative, signed_positive}
use Rattle.reader.proofs.term.signed.Goals as goal

pub returns-then-negative : goal.returns-then-negative
returns-then-negative c = let a = c.args in signed_negative a.negative a.c c.negative.result c.if-negative.true c.negative.ensures

pub returns-else-negative : goal.returns-else-negative
returns-else-negative c = let a = c.args in signed_positive a.negative a.c c.if-negative.false
