-- `steps::check::check_sum` meets its contract: a sum that is refused, or compared with the stated polynomial. Assumes nothing.
use native.Mathlib.Omega.{arith}
use Rattle.steps.proofs.Stepping.{passed_on}
use Rattle.steps.proofs.Checking.{sum_refused, sum_differs, sum_matches}
use Rattle.steps.proofs.check.check_sum.Goals as goal

pub returns-in_err-sum : goal.returns-in_err-sum
returns-in_err-sum c =
    λ p h store qs s. sum_refused c.args.seen p s c.in_err-sum.was (passed_on c.from_residual.ensures.1)

pub is_reduced-requires : goal.is_reduced-requires
is_reduced-requires c =
    let d = (c.reduce_field-p.ensures c.requires.0.0 c.requires.0.1).at in
    let m = (c.requires.1.2.some _ c.in_ok-sum.was).most in
    (m, omega (arith, m), omega (arith, d.few, d.within.same, c.requires.2))

pub returns-then-not-is_reduced : goal.returns-then-not-is_reduced
returns-then-not-is_reduced c =
    λ p h store qs s. sum_differs c.args.seen p s c.in_ok-sum.was c.args.ring.in_range.1 (c.reduce_field-p.ensures p h) c.is_reduced.ensures.within c.is_reduced.ensures.equals
    c.if-not-is_reduced.true

pub returns : goal.returns
returns c =
    λ p h store qs s. sum_matches c.args.seen p s c.in_ok-sum.was c.args.ring.in_range.1 (c.reduce_field-p.ensures p h) c.is_reduced.ensures.within c.is_reduced.ensures.equals
    c.if-not-is_reduced.false c.union-all.result c.union.result c.union-all.ensures c.union.ensures
