-- `names::plain_number` meets its contract: the decimal behind the x is in the range of variables and ends the name, or the name is not plain. No loop.
-- Assumes nothing.
use Prim.Native.Nat.{◌-◌}
use Rattle.limits.specs.Limits.{variables}
use Rattle.paper.specs.Grammar.{decimal}
use Rattle.reader.specs.Numbers.{NumberAt, InRange}
use Rattle.reader.proofs.Numbers.{number_some, number_none}
use Rattle.names.proofs.PlainNames.{number_stops, number_reads, plain_stuck, plain_out, plain_left, plain_read}
use Rattle.names.proofs.plain_number.Goals as goal
use Rattle.names.proofs.plain_number.Goals.{In_ok-d, In_ok-v}

pub returns-in_err-d : goal.returns-in_err-d
returns-in_err-d c =
    rw c.from_residual.ensures (plain_stuck c.args.s.now c.behind_x.result c.behind_x.ensures (number_stops 0 (variables - 1) c.args.s.now c.behind_x.result c.number_at.result c.in_err-d.ensures.value c.number_at.ensures).1)

-- a number is read, in its range or not
read : (c : In_ok-d) → NumberAt decimal 0 (variables - 1) c.args.s.now c.behind_x.result c.in_ok-d.d
read c = number_reads 0 (variables - 1) c.args.s.now c.behind_x.result c.number_at.result c.in_ok-d.ensures.value c.number_at.ensures

pub returns-in_err-v : goal.returns-in_err-v
returns-in_err-v c =
    let a = c.args in
    rw c.from_residual-in_err-v.ensures
    (plain_out a.s.now c.behind_x.result c.behind_x.ensures (number_none decimal 0 (variables - 1) a.s.now c.behind_x.result (read (goal.at.returns-in_err-v c).In_ok-d) c.in_err-v.was))

ranged : (c : In_ok-v) → InRange decimal 0 (variables - 1) c.args.s.now c.behind_x.result c.in_ok-v.v c.in_ok-d.d.end
ranged c = let a = c.args in number_some decimal 0 (variables - 1) a.s.now c.behind_x.result (number_reads 0 (variables - 1) c.args.s.now c.behind_x.result c.number_at.result c.in_ok-d.ensures.value c.number_at.ensures) c.in_ok-v.was

pub returns-then-d-s : goal.returns-then-d-s
returns-then-d-s c = let a = c.args in plain_read a.s.now c.behind_x.result c.behind_x.ensures (ranged (goal.at.returns-then-d-s c).In_ok-v) c.if-d-s.true

pub returns-else-d-s : goal.returns-else-d-s
returns-else-d-s c = let a = c.args in plain_left a.s.now c.behind_x.result c.behind_x.ensures (ranged (goal.at.returns-else-d-s c).In_ok-v) c.if-d-s.false
