-- `lines::read::read_line` meets its contract: too long, without byte 10, or read. No loop. Assumes nothing.
use Rattle.lines.proofs.LineKinds.{long_line, ended_line, unended_line}
use Rattle.lines.proofs.read.read_line.Goals as goal

pub returns-then-s-gt-LINE_BYTES : goal.returns-then-s-gt-LINE_BYTES
returns-then-s-gt-LINE_BYTES c = long_line _ _ c.if-s-gt-LINE_BYTES.true

pub returns-then-not-ended : goal.returns-then-not-ended
returns-then-not-ended c = unended_line _ c.if-s-gt-LINE_BYTES.false _ c.if-not-ended.true

pub returns : goal.returns
returns c = ended_line _ c.if-s-gt-LINE_BYTES.false _ c.if-not-ended.false c.read_ended.ensures
