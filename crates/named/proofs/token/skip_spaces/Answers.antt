use mathlib.Core.Path.{◌≡◌, sym, ap, ◌∙◌}
use Prim.Native.Nat.{ℕ}
use native.Mathlib.Omega.{arith}
use lib.ListN.{length, drop}
use Rattle.paper.specs.Published.{spaces}
use Rattle.paper.proofs.PublishedReading.{spaces_more, spaces_stop, spaces_end}
use Rattle.named.proofs.token.skip_spaces.Goals as goal

pub returns-then-not-is_space : goal.returns-then-not-is_space
returns-then-not-is_space c =
    let l = c.loop-i in
    let s = c.args.s.now in
    record { reads = l.invariant ∙ spaces_stop s l.i (omega arith) (sym c.is_space.ensures ∙ c.if-not-is_space.true); onward = omega arith; inside = omega arith }

pub loop-i-preserved : goal.loop-i-preserved
loop-i-preserved c =
    let l = c.loop-i in
    let s = c.args.s.now in
    l.invariant ∙ spaces_more s l.i (omega arith) (sym c.is_space.ensures ∙ c.if-not-is_space.false)

pub returns : goal.returns
returns c =
    let l = c.loop-i in
    let s = c.args.s.now in
    let e : l.i ≡ length s = omega arith in
    record { reads = l.invariant ∙ ap (λ (i : ℕ). spaces (drop i s)) e ∙ spaces_end s (length s) (omega arith); onward = omega arith; inside = omega arith }
