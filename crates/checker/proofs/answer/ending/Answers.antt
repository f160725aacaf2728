-- `checker::answer::ending` meets its contract: by the phase, and whether the goal was reached. No loop. Assumes nothing.
use Rattle.steps.specs.State.{state_of}
use Rattle.checker.proofs.Running.{ends_without, ends_short, ends_well}
use Rattle.checker.proofs.answer.ending.Goals as goal

pub returns-then-state-ne-STEPS : goal.returns-then-state-ne-STEPS
returns-then-state-ne-STEPS c =
    λ pool scratch. ends_without (state_of c.args.state.now pool scratch) c.args.state.now.lines c.if-state-ne-STEPS.true (c.report.ensures pool scratch)

pub returns-then-state : goal.returns-then-state
returns-then-state c =
    λ pool scratch. ends_well (state_of c.args.state.now pool scratch) c.args.state.now.lines c.if-state-ne-STEPS.false c.if-state.true (c.report-then-state.ensures pool scratch)

pub returns : goal.returns
returns c =
    λ pool scratch. ends_short (state_of c.args.state.now pool scratch) c.args.state.now.lines c.if-state-ne-STEPS.false c.if-state.false (c.report-2.ensures pool scratch)
