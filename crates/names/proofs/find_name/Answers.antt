use mathlib.Core.Path.{sym}
use native.Mathlib.Omega.{arith}
use Rattle.names.proofs.Rooms.{found, passed_more, passed_all}
use Rattle.names.proofs.find_name.Goals as goal

pub returns-then-is_name : goal.returns-then-is_name
returns-then-is_name c =
    let l = c.loop-i in
    let a = c.args in
    (omega arith, found a.n a.room.now a.s.now l.i l.invariant (omega arith) c.is_name.result c.is_name.ensures c.if-is_name.true)

pub loop-i-preserved : goal.loop-i-preserved
loop-i-preserved c =
    let l = c.loop-i in
    let a = c.args in
    passed_more a.n a.room.now a.s.now l.i l.invariant (omega arith) c.is_name.result c.is_name.ensures c.if-is_name.false

pub returns : goal.returns
returns c =
    let l = c.loop-i in
    let a = c.args in
    sym (passed_all a.n a.room.now a.s.now l.i l.invariant (omega arith))
