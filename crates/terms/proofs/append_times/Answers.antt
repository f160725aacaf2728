use Prim.Native.Nat.{◌+◌, ◌*◌}
use native.Mathlib.Omega.{arith}
use borrow.Author.Rules.{rules}
use Rattle.limits.specs.Limits.{term_words}
use Rattle.terms.specs.Terms.{term_of}
use Rattle.terms.proofs.Products.{appended_start, appended_more}
use Rattle.terms.proofs.append_times.Goals as goal

pub loop-i-init : goal.loop-i-init
loop-i-init c = let a = c.args in appended_start 0 a.n (term_of a.t) a.b.now a.out.now

pub loop-i-preserved : goal.loop-i-preserved
loop-i-preserved c =
    let a = c.args in
    appended_more 0 a.n c.loop-i.i ((a.n + c.loop-i.i) * term_words) (term_of a.t) a.b.now a.out.now c.loop-i.out _ _ _ (omega arith) (omega arith) c.loop-i.invariant
    c.read_term-u.ensures (search rules) c.product_of-p.ensures c.write_term.ensures
