-- `steps::state::State::judge` meets its contract: the step of what an item says judges the item. Assumes nothing.
use mathlib.Core.Path.{refl, ap, ◌∙◌}
use Rattle.std.specs.Prelude.{Ok}
use Rattle.steps.proofs.Stepping.{passed_on}
use Rattle.steps.proofs.Asking.{ask_ring, ask_input, ask_goal, ask_lin, ask_ext}
use Rattle.steps.proofs.Judging.{judged_unread, judged_ring, judged_input, judged_goal, judged_lin, judged_del, judged_ext}
use Rattle.steps.proofs.state.State.judge.Goals as goal

pub returns-in_err-k-clause-judged : goal.returns-in_err-k-clause-judged
returns-in_err-k-clause-judged c =
    λ i words x. judged_unread x c.in_err-k.was (record { refused = passed_on c.from_residual.ensures.1; back = refl; untouched = refl; kept = refl })

pub step_ring-requires : goal.step_ring-requires
step_ring-requires c = (ask_ring c.requires.1 (c.in_ok-k.was ∙ ap Ok c.in-Ring.is), c.requires.0.early)

pub step_input-requires : goal.step_input-requires
step_input-requires c = (c.requires.0, ask_input c.requires.1 (c.in_ok-k.was ∙ ap Ok c.in-Input.is))

pub step_goal-requires : goal.step_goal-requires
step_goal-requires c = ((_, c.requires.0), ask_goal c.requires.1 (c.in_ok-k.was ∙ ap Ok c.in-Goal.is))

pub step_lin-requires : goal.step_lin-requires
step_lin-requires c = ask_lin c.requires (c.in_ok-k.was ∙ ap Ok c.in-Lin.is)

pub step_ext-requires : goal.step_ext-requires
step_ext-requires c = let a = ask_ext c.requires.1 (c.in_ok-k.was ∙ ap Ok c.in-Ext.is) in (c.requires.0, a.0, a.1)

pub returns-in-Ring-clause-judged : goal.returns-in-Ring-clause-judged
returns-in-Ring-clause-judged c = λ i words x. judged_ring x (c.in_ok-k.was ∙ ap Ok c.in-Ring.is) (c.step_ring.ensures _ _ _ c.requires.0)

pub returns-in-Input-clause-judged : goal.returns-in-Input-clause-judged
returns-in-Input-clause-judged c = λ i words x. judged_input x (c.in_ok-k.was ∙ ap Ok c.in-Input.is) c.step_input.ensures

pub returns-in-Goal-clause-judged : goal.returns-in-Goal-clause-judged
returns-in-Goal-clause-judged c = λ i words x. judged_goal x (c.in_ok-k.was ∙ ap Ok c.in-Goal.is) (c.step_goal.ensures _ c.requires.0)

pub returns-in-Lin-clause-judged : goal.returns-in-Lin-clause-judged
returns-in-Lin-clause-judged c = λ i words x. judged_lin x (c.in_ok-k.was ∙ ap Ok c.in-Lin.is) c.step_lin.ensures

pub returns-in-Del-clause-judged : goal.returns-in-Del-clause-judged
returns-in-Del-clause-judged c = λ i words x. judged_del x (c.in_ok-k.was ∙ ap Ok c.in-Del.is) (c.step_del.ensures _ _ c.requires.0)

pub returns-in-Ext-clause-judged : goal.returns-in-Ext-clause-judged
returns-in-Ext-clause-judged c = λ i words x. judged_ext x (c.in_ok-k.was ∙ ap Ok c.in-Ext.is) c.step_ext.ensures
