use mathlib.Core.Path.{ap, sym}
use Prim.Native.Nat.{◌+◌, ◌^◌, ◌<◌}
use native.Mathlib.Omega.{arith}
use lib.ListN.{length}
use Rattle.terms.specs.Terms.{decode}
use Rattle.writer.proofs.Runs.{run_none, run_length_first, run_length_more, run_end, cut_at, run_most, room_most}
use Rattle.writer.proofs.measure.run_length.Goals as goal
use Rattle.writer.proofs.measure.run_length.Goals.{After-term_length}

pub returns-then-n-eq0 : goal.returns-then-n-eq0
returns-then-n-eq0 c =
    let a = c.args in
    sym (ap length (run_none a.ring.k a.n a.s.now c.if-n-eq0.true))

pub term_length-sum-requires : goal.term_length-sum-requires
term_length-sum-requires c =
    let a = c.args in
    cut_at a.ring.k a.n a.s.now c.read_term-t.result 0 (omega arith) c.read_term-t.ensures c.requires.2

pub loop-i-init : goal.loop-i-init
loop-i-init c =
    let a = c.args in
    omega (arith, c.term_length-sum.ensures, run_length_first a.ring.k a.n a.s.now c.read_term-t.result (omega arith) c.read_term-t.ensures)

pub term_length-requires : goal.term_length-requires
term_length-requires c =
    let a = c.args in
    cut_at a.ring.k a.n a.s.now c.read_term-t-in-loop-i.result c.loop-i.i (omega arith) c.read_term-t-in-loop-i.ensures c.requires.2

-- the sum is part of a length that is far below 2 ^ 64
sum_fits : (c : After-term_length) → c.loop-i.sum + (1 + c.term_length.result) < 2 ^ 64
sum_fits c =
    let a = c.args in
    let l = c.loop-i in
    omega (
      arith,
      c.term_length.ensures,
      run_length_more a.ring.k a.n a.s.now c.read_term-t-in-loop-i.result l.i (omega arith) c.read_term-t-in-loop-i.ensures,
      run_most a.ring.k (decode a.n a.s.now) (omega arith) c.requires.2,
      room_most a.n a.s.now,
    )

pub overflow_add-sum : goal.overflow_add-sum
overflow_add-sum c = record { fits = omega (arith, sum_fits (goal.at.overflow_add-sum c).After-term_length) }

pub overflow_add-sum-in-loop-i : goal.overflow_add-sum-in-loop-i
overflow_add-sum-in-loop-i c = record { fits = omega (arith, sum_fits (goal.at.overflow_add-sum-in-loop-i c).After-term_length) }

pub loop-i-preserved : goal.loop-i-preserved
loop-i-preserved c =
    let a = c.args in
    let l = c.loop-i in
    omega (arith, c.term_length.ensures, run_length_more a.ring.k a.n a.s.now c.read_term-t-in-loop-i.result l.i (omega arith) c.read_term-t-in-loop-i.ensures)

pub returns : goal.returns
returns c =
    let a = c.args in
    omega (arith, ap length (run_end a.ring.k a.n a.s.now c.loop-i.i (omega arith)))
