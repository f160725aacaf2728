use Prim.Native.Nat.{◌+◌}
use native.Mathlib.Omega.{arith}
use Rattle.terms.specs.Terms.{term_of}
use Rattle.writer.specs.Writing.{spaced}
use Rattle.writer.proofs.Written.{left_start, left_more, left_room, left_end}
use Rattle.writer.proofs.Runs.{run_rest, run_more, run_end, cut_at}
use Rattle.writer.proofs.write.write_rest.Goals as goal

pub loop-i-init : goal.loop-i-init
loop-i-init c =
    let a = c.args in
    left_start a.out.now a.at (run_rest a.ring.k a.n a.s.now 1)

pub write_spaced-end-requires : goal.write_spaced-end-requires
write_spaced-end-requires c =
    let a = c.args in
    let l = c.loop-i in (
      cut_at a.ring.k a.n a.s.now c.read_term-t.result l.i (omega arith) c.read_term-t.ensures c.requires.2,
      left_room (spaced a.ring.k (term_of c.read_term-t.result)) (run_rest a.ring.k a.n a.s.now (l.i + 1)) c.requires.3
          (run_more a.ring.k a.n a.s.now c.read_term-t.result l.i (omega arith) c.read_term-t.ensures) l.invariant,
    )

pub loop-i-preserved : goal.loop-i-preserved
loop-i-preserved c =
    let a = c.args in
    let l = c.loop-i in
    left_more c.requires.3 (run_more a.ring.k a.n a.s.now c.read_term-t.result l.i (omega arith) c.read_term-t.ensures) l.invariant c.write_spaced-end.ensures

pub returns : goal.returns
returns c =
    let a = c.args in
    left_end (run_end a.ring.k a.n a.s.now c.loop-i.i (omega arith)) c.loop-i.invariant

pub shape_of-out : goal.shape_of-out
shape_of-out c = c.loop-i.invariant.same
