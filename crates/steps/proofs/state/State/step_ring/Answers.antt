-- `steps::state::State::step_ring` meets its contract: the ring is that of the line, in its phase only. Assumes nothing.
use Rattle.steps.proofs.Stepping.{ring_misplaced, ring_stands}
use Rattle.steps.proofs.state.State.step_ring.Goals as goal

pub returns-then-self-ne-OPENING : goal.returns-then-self-ne-OPENING
returns-then-self-ne-OPENING c = λ capacity pool scratch room. ring_misplaced c.if-self-ne-OPENING.true

pub returns : goal.returns
returns c = λ capacity pool scratch room. ring_stands c.requires.0 room c.if-self-ne-OPENING.false
