use Rattle.scratch.proofs.Products.{rows_start, rows_more}
use Rattle.scratch.proofs.append_products.Goals as goal

pub loop-i-init : goal.loop-i-init
loop-i-init c = let a = c.args in rows_start a.n a.m a.a.now a.b.now a.out.now

pub loop-i-preserved : goal.loop-i-preserved
loop-i-preserved c =
    let a = c.args in
    rows_more a.n a.m a.a.now a.b.now a.out.now c.loop-i.i _ _ _ c.loop-i.invariant c.read_term-t.ensures c.append_times.ensures
