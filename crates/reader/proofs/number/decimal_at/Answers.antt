-- `reader::number::decimal_at` meets its contract: the first byte decides, and digits that begin with no 0 go on. No loop.
-- Assumes nothing.
use mathlib.Core.Path.{sym, ◌∙◌}
use native.Mathlib.Omega.{arith}
use Prim.Native.Nat.{◌+◌, ◌≤◌}
use lib.ListN.{length, get_or}
use Rattle.std.specs.Char.{IsNotAsciiDigit}
use Rattle.paper.specs.Grammar.{digits, decimal}
use Rattle.paper.proofs.Pieces.{decimal_zero, decimal_first, decimal_end}
use Rattle.reader.proofs.Numbers.{decimal_stop, value_by}
use Rattle.reader.proofs.number.decimal_at.Goals as goal

pub returns-in-Some-eq48 : goal.returns-in-Some-eq48
returns-in-Some-eq48 c =
    let a = c.args in
    let b = c.in-Some-eq48.ensures.lookup.3 in
    record { reads = decimal_zero a.s.now a.at b.0 (sym (b.1 0) ∙ c.in-Some-eq48.field-0-test); onward = omega arith; inside = omega (arith, b.0) }

pub returns-in-Some : goal.returns-in-Some
returns-in-Some c =
    let a = c.args in
    let b = c.in-Some.ensures.lookup.3 in
    let e = b.1 0 in
    let d = c.if-is_ascii_digit.ensures.cases in
    let z = c.in-Some.b-test.1 in
    value_by decimal (digits c.from.result) a.s.now a.at (a.at + 1) c.digits_from.result.end
    (rw (c.from.ensures, e) (decimal_first a.s.now a.at b.0 (omega arith) (omega arith)))
    (omega arith) c.digits_from.result.value c.digits_from.ensures

pub returns-in_default : goal.returns-in_default
returns-in_default c =
    let a = c.args in
    let b = c.in-Some.ensures.lookup.3 in
    let n : IsNotAsciiDigit (get_or a.s.now a.at 0) = rw (← b.1 0) c.if-is_ascii_digit.ensures.cases in
    record { reads = decimal_stop a.s.now a.at b.0 n; onward = omega arith; inside = omega (arith, b.0) }

pub returns-in_default-2 : goal.returns-in_default-2
returns-in_default-2 c =
    let a = c.args in
    let l : length a.s.now ≤ a.at = (rw c.in_default.is at c.get.ensures.lookup).3 in
    record { reads = decimal_end a.s.now a.at l; onward = omega arith; inside = omega arith }
