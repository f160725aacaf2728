use mathlib.Core.Path.{◌≡◌, sym, ◌∙◌}
use mathlib.Core.Logic.{⊎_elim}
use Prim.Native.Nat.{◌+◌}
use native.Mathlib.Omega.{arith}
use lib.ListN.{length}
use Rattle.reader.proofs.Keywords.{literal_more, literal_not, literal_short, literal_all}
use Rattle.reader.proofs.Fields.{stands, stands_not}
use Rattle.reader.proofs.keyword.word_at.Goals as goal

pub returns-then-not-stands_at : goal.returns-then-not-stands_at
returns-then-not-stands_at c =
    let l = c.loop-i in
    let s = c.args.s.now in
    let w = c.args.w.now in
    let p = c.args.at + l.i in
    record {
      reads = l.invariant.1 ∙ ⊎_elim (λ h. literal_not s w p l.i (omega arith) h.0 h.1) (λ h. literal_short s w p l.i (omega arith) h)
          (stands_not s p _ (sym c.stands_at.ensures ∙ c.if-not-stands_at.true));
      onward = omega arith;
      inside = l.invariant.0;
    }

pub loop-i-preserved : goal.loop-i-preserved
loop-i-preserved c =
    let l = c.loop-i in
    let s = c.args.s.now in
    let p = c.args.at + l.i in
    let h = stands s p _ (sym c.stands_at.ensures ∙ c.if-not-stands_at.false) in
    let e : p + 1 ≡ c.args.at + (l.i + 1) = omega arith in
    (omega (arith, h.0), rw (← e) (l.invariant.1 ∙ literal_more s c.args.w.now p l.i (omega arith) h.0 h.1))

pub returns : goal.returns
returns c =
    let l = c.loop-i in
    let e : l.i ≡ length c.args.w.now = omega arith in
    record {
      reads = rw (← e) (l.invariant.1 ∙ literal_all c.args.s.now c.args.w.now (c.args.at + l.i) l.i (omega arith));
      onward = omega arith;
      inside = omega (arith, l.invariant.0);
    }
