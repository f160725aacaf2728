use mathlib.Core.Path.{◌≡◌, ◌∙◌}
use native.Mathlib.Omega.{arith}
use lib.ListN.{length, drop, get_or, length-drop}
use lib.Seq.{take_all}
use Prim.Native.Nat.{◌+◌, ◌-◌, ◌*◌}
use Rattle.paper.proofs.Pieces.{digits_more, digits_end_law}
use Rattle.reader.proofs.Numbers.{digits_stop, digits_large}
use Rattle.reader.proofs.number.digits_from.Goals as goal

pub returns-then-not-is_ascii_digit : goal.returns-then-not-is_ascii_digit
returns-then-not-is_ascii_digit c =
    let l = c.loop-i in
    record { reads = l.invariant.3 ∙ digits_stop c.args.s.now l.i (omega arith) c.if-not-is_ascii_digit.ensures.cases l.v; onward = omega arith; inside = omega arith }

pub returns-in_default : goal.returns-in_default
returns-in_default c =
    let l = c.loop-i in
    let a = c.args in
    let d = c.if-not-is_ascii_digit.ensures.cases in
    rw (c.leading_digits.ensures, take_all (length a.s.now - l.i) (drop l.i a.s.now) (omega (arith, length-drop l.i a.s.now)))
    (digits_large a.s.now a.at l.i a.first l.v l.invariant.3 (omega arith) (omega arith) (omega arith) (omega arith)
    (omega (arith, c.from-d.ensures, c.in_default.ensures)))

pub loop-i-preserved : goal.loop-i-preserved
loop-i-preserved c =
    let l = c.loop-i in
    let s = c.args.s.now in
    let d = c.if-not-is_ascii_digit.ensures.cases in
    let v : c.in-Some.more ≡ l.v * 10 + (get_or s l.i 0 - 48) = omega (arith, c.in-Some.ensures.1, c.from-d.ensures) in
    (omega arith, omega arith, omega (arith, c.in-Some.ensures), rw v (l.invariant.3 ∙ digits_more l.v s l.i (omega arith) (omega arith) (omega arith)))

pub returns : goal.returns
returns c =
    let l = c.loop-i in
    let s = c.args.s.now in
    let q : l.i ≡ length s = omega arith in
    record { reads = rw q at (l.invariant.3 ∙ digits_end_law l.v s l.i (omega arith)); onward = omega arith; inside = omega arith }
