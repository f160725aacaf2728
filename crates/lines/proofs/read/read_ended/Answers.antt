-- `lines::read::read_ended` meets its contract: its kind stops, bytes stand behind it, it is refused, or it stands. No loop. Assumes nothing.
use Rattle.lines.proofs.LineKinds.{line_stops, line_below, line_short, line_turned, line_stands}
use Rattle.lines.proofs.read.read_ended.Goals as goal

pub returns-in_default : goal.returns-in_default
returns-in_default c = line_stops c.read_kind.ensures.kept _ c.in_default.ensures.said

pub returns-then-line-s : goal.returns-then-line-s
returns-then-line-s c = line_short c.read_kind.ensures.kept c.in-Ok.line c.in-Ok.ensures.said c.if-line-s.true

pub verdict-requires : goal.verdict-requires
verdict-requires c = line_below c.read_kind.ensures.kept c.in-Ok.line c.in-Ok.ensures.said

pub returns-in_err-verdict : goal.returns-in_err-verdict
returns-in_err-verdict c =
    line_turned c.read_kind.ensures.kept c.in-Ok.line c.in-Ok.ensures.said c.if-line-s.false _ c.in_err-verdict.ensures c.from_residual.result c.from_residual.ensures.1

pub returns : goal.returns
returns c = line_stands c.read_kind.ensures.kept c.in-Ok.line c.in-Ok.ensures.said c.if-line-s.false c.in_ok-verdict.ensures
