use Rattle.std.proofs.Common.{arith}
use Rattle.writer.proofs.Digits.{back_start, back_next}
use Rattle.writer.proofs.write.write_number.Goals as goal

pub overflow_add-end : goal.overflow_add-end
overflow_add-end c = omega (arith, c.number_length.ensures)

pub loop-i-init : goal.loop-i-init
loop-i-init c = back_start c.args.out.now c.args.at c.args.n c.number_length.result c.number_length.ensures

pub loop-i-preserved : goal.loop-i-preserved
loop-i-preserved c =
    let a = c.args in
    let l = c.loop-i in
    back_next a.out.now a.at a.n l.out l.i l.left l.invariant (omega arith) (omega arith)

pub returns : goal.returns
returns c = record { bytes = c.loop-i.invariant.all (omega arith); next = omega arith }
