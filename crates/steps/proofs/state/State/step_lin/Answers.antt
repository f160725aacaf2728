-- `steps::state::State::step_lin` meets its contract: a polynomial that is the sum of the pairs is stored under a free index. Assumes nothing.
use mathlib.Core.Path.{ap}
use native.Mathlib.Omega.{arith}
use Rattle.limits.specs.Refusals.{outcome}
use Rattle.paper.specs.Rules.{steps}
use Rattle.steps.proofs.Admitting.{admitted_ring}
use Rattle.steps.proofs.Stepping.{passed_on}
use Rattle.steps.proofs.Stating.{lin_stores}
use Rattle.steps.proofs.Storing.{ask_reaches, ask_store, unadmitted, unmade, enters, reached_too}
use Rattle.steps.proofs.state.State.step_lin.Goals as goal

pub returns-in_err-admit : goal.returns-in_err-admit
returns-in_err-admit c = λ p h qs s. unadmitted lin_stores c.admit.ensures (ap outcome c.in_err-admit.was) (passed_on c.from_residual.ensures.1)

pub invariant_of-ring : goal.invariant_of-ring
invariant_of-ring c = record { in_range = admitted_ring steps c.args.self.now c.args.index c.admit.ensures (ap outcome c.in_ok-admit.was) c.requires.0 (omega arith) }

pub check_sum-requires : goal.check_sum-requires
check_sum-requires c = (c.requires.1, (_, c.requires.2.0, c.requires.2.1), c.requires.0.ready.room)

pub returns-in_err-made : goal.returns-in_err-made
returns-in_err-made c =
    λ p h qs s. unmade lin_stores c.admit.ensures (ap outcome c.in_ok-admit.was) (c.check_sum.ensures p h _ qs s) c.in_err-made.was (passed_on c.from_residual-in_err-made.ensures.1)

pub reaches-reached-requires : goal.reaches-reached-requires
reaches-reached-requires c = ask_reaches c.requires.0 (c.check_sum.ensures c.requires.1.0 c.requires.1.1 _ c.requires.2.0 c.requires.2.1) c.in_ok-made.was

pub store-requires : goal.store-requires
store-requires c = ask_store c.requires.0 (c.check_sum.ensures c.requires.1.0 c.requires.1.1 _ c.requires.2.0 c.requires.2.1) c.in_ok-made.was

pub returns : goal.returns
returns c =
    let t = c.args.self.now in
    λ p h qs s. let m = c.check_sum.ensures p h _ qs s in
    enters lin_stores c.admit.ensures (ap outcome c.in_ok-admit.was) m c.in_ok-made.was c.requires.0
    (reached_too t.reached t.goal_terms m c.in_ok-made.was c.reaches-reached.ensures) c.store.ensures
