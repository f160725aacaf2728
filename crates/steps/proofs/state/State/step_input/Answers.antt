-- `steps::state::State::step_input` meets its contract: the reduced polynomial is stored under a free index. Assumes nothing.
use mathlib.Core.Path.{refl, ap}
use native.Mathlib.Omega.{arith}
use Rattle.limits.specs.Refusals.{outcome}
use Rattle.paper.specs.Rules.{inputs}
use Rattle.steps.proofs.Admitting.{admitted_ring}
use Rattle.steps.proofs.Checking.{input_candidate}
use Rattle.steps.proofs.Stepping.{passed_on}
use Rattle.steps.proofs.Stating.{input_stores}
use Rattle.steps.proofs.Storing.{ask_store, unadmitted, enters}
use Rattle.steps.proofs.state.State.step_input.Goals as goal

pub returns-in_err-admit : goal.returns-in_err-admit
returns-in_err-admit c = λ p h. unadmitted input_stores c.admit.ensures (ap outcome c.in_err-admit.was) (passed_on c.from_residual.ensures.1)

pub invariant_of-ring : goal.invariant_of-ring
invariant_of-ring c = record { in_range = admitted_ring inputs c.args.self.now c.args.index c.admit.ensures (ap outcome c.in_ok-admit.was) c.requires.0 (omega arith) }

pub store-requires : goal.store-requires
store-requires c =
    ask_store c.requires.0 (input_candidate c.args.self.now.seen c.union.result (c.reduce_field-f.ensures c.requires.1.0 c.requires.1.1) c.union.ensures) refl

pub returns : goal.returns
returns c =
    λ p h. enters input_stores c.admit.ensures (ap outcome c.in_ok-admit.was)
    (input_candidate c.args.self.now.seen c.union.result (c.reduce_field-f.ensures p h) c.union.ensures) refl c.requires.0 refl c.store.ensures
