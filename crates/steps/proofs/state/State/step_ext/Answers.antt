-- `steps::state::State::step_ext` meets its contract: -v + p is stored under a free index where v is not seen and p is a bit. Assumes nothing.
use mathlib.Core.Path.{◌≡◌, ap}
use mathlib.Core.Bool.{true}
use Prim.Native.Nat.{ℕ, ◌<◌}
use borrow.Author.Tests.{ltb-true}
use native.Mathlib.Omega.{arith}
use Rattle.limits.specs.Refusals.{outcome}
use Rattle.limits.specs.Limits.{variables}
use Rattle.paper.specs.Rules.{steps}
use Rattle.paper.specs.Statement.{is_variable}
use Rattle.steps.proofs.Admitting.{admitted_ring}
use Rattle.steps.proofs.Stepping.{passed_on}
use Rattle.steps.proofs.Stating.{ext_stores}
use Rattle.steps.proofs.Storing.{ask_reaches, ask_store, unadmitted, unmade, enters, reached_too}
use Rattle.steps.proofs.state.State.step_ext.Goals as goal

below : (v : ℕ) → is_variable v ≡ true → v < variables
unfolding is_variable
below v e = ltb-true v variables e

pub returns-in_err-admit : goal.returns-in_err-admit
returns-in_err-admit c = λ p h. unadmitted ext_stores c.admit.ensures (ap outcome c.in_err-admit.was) (passed_on c.from_residual.ensures.1)

pub invariant_of-ring : goal.invariant_of-ring
invariant_of-ring c = record { in_range = admitted_ring steps c.args.self.now c.args.index c.admit.ensures (ap outcome c.in_ok-admit.was) c.requires.0 (omega arith) }

pub extend-requires : goal.extend-requires
extend-requires c = (c.requires.2, below c.args.v c.requires.1, c.requires.0.ready.room)

pub returns-in_err-made : goal.returns-in_err-made
returns-in_err-made c =
    λ p h. unmade ext_stores c.admit.ensures (ap outcome c.in_ok-admit.was) (c.extend.ensures p h) c.in_err-made.was (passed_on c.from_residual-in_err-made.ensures.1)

pub reaches-reached-requires : goal.reaches-reached-requires
reaches-reached-requires c = ask_reaches c.requires.0 (c.extend.ensures c.requires.2.0 c.requires.2.1) c.in_ok-made.was

pub store-requires : goal.store-requires
store-requires c = ask_store c.requires.0 (c.extend.ensures c.requires.2.0 c.requires.2.1) c.in_ok-made.was

pub returns : goal.returns
returns c =
    let t = c.args.self.now in
    λ p h. let m = c.extend.ensures p h in
    enters ext_stores c.admit.ensures (ap outcome c.in_ok-admit.was) m c.in_ok-made.was c.requires.0
    (reached_too t.reached t.goal_terms m c.in_ok-made.was c.reaches-reached.ensures) c.store.ensures
