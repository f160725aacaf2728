use mathlib.Core.Path.{refl}
use native.Mathlib.Omega.{arith}
use borrow.Author.Rules.{rules}
use lib.Seq.{paste-zero}
use Rattle.words.proofs.Parts.{paste_more}
use Rattle.terms.proofs.move_run.Goals as goal

pub loop-i-init : goal.loop-i-init
loop-i-init c = (refl, paste-zero c.args.to.now c.args.at c.args.from.now)

pub loop-i-preserved : goal.loop-i-preserved
loop-i-preserved c =
    let a = c.args in
    (search rules, rw c.loop-i.invariant.1 (paste_more a.to.now a.at a.from.now c.loop-i.i (omega arith) (omega arith)))
