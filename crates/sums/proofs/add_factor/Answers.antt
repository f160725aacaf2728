-- `sums::add_factor` meets its contract: the index looked up, the factor reduced, its products made. No loop.
-- Assumes nothing.
use mathlib.Core.Path.{sym, ◌∙◌}
use native.Mathlib.Omega.{arith}
use Rattle.scratch.proofs.Keeping.{kept_trans, kept_factor}
use Rattle.sums.proofs.Summing.{placed, factor_missing, factor_stopped, factor_added}
use Rattle.sums.proofs.add_factor.Goals as goal

pub returns-in_err-place-clause-summed : goal.returns-in_err-place-clause-summed
returns-in_err-place-clause-summed c =
    let d = c.args.stored.now in
    λ w h qs s. factor_missing d.indices.now d.starts.now d.counts.now d.pool.now d.polynomials c.args.index w s c.find-found.result c.find-found.ensures
    (sym c.ok_or.ensures.value ∙ c.in_err-place.was) c.from_residual.result c.from_residual.ensures.1

pub returns-in_err-sum-clause-summed : goal.returns-in_err-sum-clause-summed
returns-in_err-sum-clause-summed c =
    let d = c.args.stored.now in
    λ w h qs s. factor_stopped d.indices.now d.starts.now d.counts.now d.pool.now d.polynomials c.args.index w s
    (placed c.find-found.result c.find-found.ensures (sym c.ok_or.ensures.value ∙ c.in_ok-place.was)) c.in_err-sum.was
    c.from_residual-in_err-sum.result c.from_residual-in_err-sum.ensures.1

pub add_products-requires : goal.add_products-requires
add_products-requires c =
    let first = placed c.find-found.result c.find-found.ensures (sym c.ok_or.ensures.value ∙ c.in_ok-place.was) in
    let f = (c.reduce_field-factor.ensures c.requires.1.0 c.requires.1.1).at in
    (first.inside, f.few, (c.requires.2.1.some _ c.in_ok-sum.was).most, omega (arith, c.requires.0, f.within.same))

pub returns-clause-summed : goal.returns-clause-summed
returns-clause-summed c =
    let d = c.args.stored.now in
    λ w h qs s. factor_added d.indices.now d.starts.now d.counts.now d.pool.now d.polynomials c.args.index w s
    (placed c.find-found.result c.find-found.ensures (sym c.ok_or.ensures.value ∙ c.in_ok-place.was)) _ c.in_ok-sum.was (c.reduce_field-factor.ensures w h)
    c.add_products.ensures

pub returns-clause-kept : goal.returns-clause-kept
returns-clause-kept c =
    let f = (c.reduce_field-factor.ensures c.requires.1.0 c.requires.1.1).at in
    kept_trans (kept_factor _ _ f.within) c.add_products.ensures.kept
