use Rattle.std.proofs.Common.{◌≡◌, ℕ, ◌-◌, ◌*◌, refl, subst, arith}
use Rattle.limits.specs.Limits.{term_words}
use Rattle.words.specs.Parts.{part}
use Rattle.reduction.proofs.Merging.{summing_none, summing_start, summing_same, summing_other, summing_end}
use Rattle.reduction.proofs.merge.merge.Goals as goal

pub returns-then-n-eq0 : goal.returns-then-n-eq0
returns-then-n-eq0 c = summing_none _ c.if-n-eq0.true

pub loop-i-init : goal.loop-i-init
loop-i-init c = summing_start (omega arith)

pub loop-i-preserved-then-same_set : goal.loop-i-preserved-then-same_set
loop-i-preserved-then-same_set c =
    summing_same c.loop-i.invariant c.read_term-t.ensures (omega arith) c.read_term-u.ensures c.same_set.ensures c.if-same_set.true refl

pub loop-i-preserved : goal.loop-i-preserved
loop-i-preserved c =
    summing_other c.loop-i.invariant c.read_term-t.ensures (omega arith) c.read_term-u.ensures c.same_set.ensures c.if-same_set.false c.put-left.ensures

pub returns : goal.returns
returns c =
    let e : c.args.n - 1 ≡ c.loop-i.i = omega arith in
    summing_end c.loop-i.invariant (subst (λ (i : ℕ). c.read_term-t-2.result ≡ part (i * term_words) term_words c.loop-i.s) e c.read_term-t-2.ensures) c.args.ring.in_range.1 c.requires.1 (omega arith) c.put.ensures
