-- `writer::measure::coefficient_length` meets its contract: the digits of the magnitude, and a byte for a sign. No loop.
-- Assumes nothing.
use mathlib.Core.Path.{ap}
use native.Mathlib.Omega.{arith}
use borrow.Author.Rules.{rules}
use lib.ListN.{length}
use Rattle.writer.proofs.Signs.{signed_minus, signed_plus}
use Rattle.writer.proofs.Digits.{word_digits}
use Rattle.writer.proofs.measure.coefficient_length.Goals as goal

pub overflow_add-result : goal.overflow_add-result
overflow_add-result c =
    record { fits = omega (arith, c.number_length-digits.ensures, word_digits c.with_sign-s.result.magnitude (search rules)) }

pub returns-then-s : goal.returns-then-s
returns-then-s c =
    let a = c.args in
    omega (arith, c.number_length-digits.ensures, ap length (signed_minus a.ring.k a.c c.with_sign-s.result c.with_sign-s.ensures c.if-s.true))

pub returns : goal.returns
returns c =
    let a = c.args in
    omega (arith, c.number_length-digits.ensures, ap length (signed_plus a.ring.k a.c c.with_sign-s.result c.with_sign-s.ensures c.if-s.false))
