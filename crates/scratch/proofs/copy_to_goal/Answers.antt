use mathlib.Core.Path.{◌≡◌, subst}
use Prim.Native.Nat.{ℕ}
use native.Mathlib.Omega.{arith}
use borrow.Author.Rules.{rules}
use Rattle.scratch.proofs.Copying.{Copied, copied_start, copied_more}
use Rattle.scratch.proofs.copy_to_goal.Goals as goal

pub loop-i-init : goal.loop-i-init
loop-i-init c = copied_start c.args.scratch.now

pub loop-i-preserved : goal.loop-i-preserved
loop-i-preserved c =
    copied_more c.args.scratch.now c.loop-i.scratch c.read_term-t.result _ c.loop-i.i (omega arith) c.requires.1 c.loop-i.invariant c.read_term-t.ensures (search rules) c.write_term.ensures

pub returns : goal.returns
returns c =
    let e : c.loop-i.i ≡ c.args.n = omega arith in
    subst (λ (i : ℕ). Copied c.args.scratch.now i c.loop-i.scratch) e c.loop-i.invariant
