use mathlib.Core.Path.{ap}
use native.Mathlib.Omega.{arith}
use Rattle.limits.specs.Refusals.{outcome}
use Rattle.paper.specs.Answer.{item_of}
use Rattle.steps.specs.Items.{ItemJudged}
use Rattle.steps.proofs.Asking.{ask_judge}
use Rattle.checker.proofs.Running.{line_at, onward_start, onward_room, onward_end, onward_more, turned_packed, turned_few, turned_read, turned_answer}
use Rattle.checker.proofs.run.run.Goals as goal
use Rattle.checker.proofs.run.run.Goals.{After-judge}

pub loop-at-init : goal.loop-at-init
loop-at-init c = onward_start c.new-state.ensures c.requires.1

pub judge-requires : goal.judge-requires
judge-requires c = ask_judge c.read_line-said.ensures (onward_room c.loop-at.invariant c.loop-at-test.true c.requires.0)

-- the line is judged
judged : (d : After-judge)
    → ItemJudged d.args.capacity (item_of (line_at d.args.text.now d.loop-at.at d.line_end-e.result)) d.loop-at.state d.loop-at.pool d.loop-at.scratch d.judge.result d.judge.new.self d.judge.new.pool d.judge.new.scratch
judged d = d.judge.ensures.judged _ _ d.read_line-said.ensures

pub refused_index-i-requires : goal.refused_index-i-requires
refused_index-i-requires c =
    turned_read c.loop-at.invariant c.loop-at-test.true c.line_end-e.ensures (judged (goal.at.refused_index-i-requires c).After-judge) c.in-Err.is c.number-v.ensures

pub overflow_add-state : goal.overflow_add-state
overflow_add-state c =
    let f = turned_few c.loop-at.invariant c.loop-at-test.true c.line_end-e.ensures (judged (goal.at.overflow_add-state c).After-judge) c.in-Err.is in
    omega arith

pub report-requires : goal.report-requires
report-requires c = turned_packed c.loop-at.invariant c.loop-at-test.true c.line_end-e.ensures (judged (goal.at.report-requires c).After-judge) c.in-Err.is

pub returns-in-Err : goal.returns-in-Err
returns-in-Err c =
    turned_answer c.loop-at.invariant c.loop-at-test.true c.line_end-e.ensures (judged (goal.at.returns-in-Err c).After-judge) c.in-Err.is c.number-v.ensures c.refused_index-i.ensures
    (c.report.ensures c.judge.new.pool c.judge.new.scratch)

pub loop-at-preserved : goal.loop-at-preserved
loop-at-preserved c = onward_more c.loop-at.invariant c.loop-at-test.true c.line_end-e.ensures (judged (goal.at.loop-at-preserved c).After-judge) (ap outcome c.in_default.is)

pub returns : goal.returns
returns c = onward_end c.loop-at.invariant c.loop-at-test.false (c.ending.ensures c.loop-at.pool c.loop-at.scratch)
