-- `scratch::define` meets its contract: the term -v is written behind p, then the region is reduced. No loop. Assumes nothing.
use native.Mathlib.Omega.{arith}
use borrow.Author.Rules.{rules}
use Rattle.scratch.proofs.Reducing.{defined}
use Rattle.scratch.proofs.define.Goals as goal

pub returns : goal.returns
returns c =
    let a = c.args in
    defined a.ring.k a.v a.n c.reduce.result _ a.scratch.now c.term_of-t.result c.write_term.new.s c.reduce.new.s (omega arith) (omega arith) (omega arith) c.with-set.ensures
    (search rules) c.term_of-t.ensures c.write_term.ensures c.reduce.ensures
