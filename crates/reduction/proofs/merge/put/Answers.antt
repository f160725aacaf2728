-- `reduction::merge::put` meets its contract: the term is left away where its coefficient is zero, and else written. Assumes nothing.
use Rattle.std.proofs.Common.{arith, rules}
use Rattle.reduction.proofs.Merging.{put_zero, put_one}
use Rattle.reduction.proofs.merge.put.Goals as goal

pub returns-then-d-eq0 : goal.returns-then-d-eq0
returns-then-d-eq0 c =
    let a = c.args in
    put_zero a.ring.k a.n a.s.now a.t a.c _ c.cut-d.ensures c.if-d-eq0.true

pub returns : goal.returns
returns c =
    let a = c.args in
    put_one a.ring.k a.n a.s.now a.t a.c _ c.cut-d.ensures _ _ _ (λ e. let z : ⊥ = omega arith in z) (omega arith) c.set_of.ensures (search rules) c.term_of-u.ensures c.write_term.ensures
