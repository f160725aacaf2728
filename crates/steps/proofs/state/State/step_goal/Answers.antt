-- `steps::state::State::step_goal` meets its contract: the reduced polynomial is the goal, and is looked for in the store. Assumes nothing.
use Rattle.steps.proofs.Aiming.{goal_misplaced, goal_stands}
use native.Mathlib.Omega.{arith}
use Rattle.steps.proofs.state.State.step_goal.Goals as goal

pub returns-then-self-ne-INPUTS : goal.returns-then-self-ne-INPUTS
returns-then-self-ne-INPUTS c = λ capacity room p h. goal_misplaced c.if-self-ne-INPUTS.true

pub is_stored-self-requires : goal.is_stored-self-requires
is_stored-self-requires c =
    let r = c.requires.0.1.ready in
    let d = (c.reduce_field-f.ensures c.requires.1.0 c.requires.1.1).at in
    ((c.args.self.now.table.used, r.fitting.packed, omega (arith, r.fitting.room, r.fitting.words)), omega (arith, d.few, d.within.same, r.room, c.copy_to_goal.ensures.within.same))

pub returns : goal.returns
returns c =
    λ capacity room p h. goal_stands room c.if-self-ne-INPUTS.false (c.reduce_field-f.ensures p h) c.copy_to_goal.ensures c.union-seen.ensures (c.is_stored-self.ensures c.args.self.now.table.indices)
