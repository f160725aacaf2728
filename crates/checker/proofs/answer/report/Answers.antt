-- `checker::answer::report` meets its contract: the table counts what is stored. No loop. Assumes nothing.
use Rattle.checker.proofs.Running.{reports}
use Rattle.checker.proofs.answer.report.Goals as goal

pub returns : goal.returns
returns c = λ pool scratch. reports c.args.state.now c.requires c.args.verdict c.args.line c.args.index pool scratch
