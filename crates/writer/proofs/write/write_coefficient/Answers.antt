-- `writer::write::write_coefficient` meets its contract: a minus where there is one, and the magnitude. No loop.
-- Assumes nothing.
use mathlib.Core.Path.{ap, ◌∙◌}
use native.Mathlib.Omega.{arith}
use lib.ListN.{length, length-set}
use Rattle.writer.proofs.Written.{wrote_as, wrote_byte, wrote_both}
use Rattle.writer.proofs.Signs.{signed_minus, signed_plus}
use Rattle.writer.proofs.write.write_coefficient.Goals as goal

pub bounds-out-at : goal.bounds-out-at
bounds-out-at c =
    let a = c.args in
    omega (arith, ap length (signed_minus a.ring.k a.c c.with_sign-s.result c.with_sign-s.ensures c.if-s.true))

pub write_number-requires : goal.write_number-requires
write_number-requires c =
    let a = c.args in
    let w = ap length (signed_minus a.ring.k a.c c.with_sign-s.result c.with_sign-s.ensures c.if-s.true) in
    simp length-set (omega (arith, w))

pub shape_of-out-then-s : goal.shape_of-out-then-s
shape_of-out-then-s c = c.write_number.auto.out ∙ simp length-set

pub returns-then-s : goal.returns-then-s
returns-then-s c =
    let a = c.args in
    let w = signed_minus a.ring.k a.c c.with_sign-s.result c.with_sign-s.ensures c.if-s.true in
    wrote_as w (wrote_both (omega arith) (wrote_byte a.out.now a.at 45 (omega (arith, ap length w))) c.write_number.ensures)

pub write_number-requires-2 : goal.write_number-requires-2
write_number-requires-2 c =
    let a = c.args in
    omega (arith, ap length (signed_plus a.ring.k a.c c.with_sign-s.result c.with_sign-s.ensures c.if-s.false))

pub returns : goal.returns
returns c =
    let a = c.args in
    wrote_as (signed_plus a.ring.k a.c c.with_sign-s.result c.with_sign-s.ensures c.if-s.false) c.write_number-2.ensures
