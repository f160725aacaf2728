-- `steps::state::State::store` meets its contract: where the pool takes the terms, the table takes the polynomial. Assumes nothing.
use mathlib.Core.Path.{ap}
use Rattle.limits.specs.Refusals.{outcome}
use Rattle.steps.proofs.Storing.{ask_push}
use Rattle.steps.proofs.state.State.store.Goals as goal

pub push-requires : goal.push-requires
push-requires c = ask_push c.requires.0 c.requires.1 c.append_to_pool.ensures (ap outcome c.in_ok-append_to_pool.was)
