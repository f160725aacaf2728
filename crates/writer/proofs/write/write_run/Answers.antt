-- `writer::write::write_run` meets its contract: `0` for no terms, else the first and the rest. No loop.
-- Assumes nothing.
use mathlib.Core.Path.{sym, ap}
use native.Mathlib.Omega.{arith}
use lib.ListN.{length}
use Rattle.writer.proofs.Written.{wrote_as, wrote_byte, wrote_both}
use Rattle.writer.proofs.Runs.{run_none, run_first, run_length_first, cut_at}
use Rattle.writer.proofs.write.write_run.Goals as goal

pub bounds-out-at : goal.bounds-out-at
bounds-out-at c =
    let a = c.args in
    omega (arith, c.requires.2, ap length (run_none a.ring.k a.n a.s.now c.if-n-eq0.true))

pub returns-then-n-eq0 : goal.returns-then-n-eq0
returns-then-n-eq0 c =
    let a = c.args in
    let e = run_none a.ring.k a.n a.s.now c.if-n-eq0.true in
    wrote_as (sym e) (wrote_byte a.out.now a.at 48 (omega (arith, c.requires.2, ap length e)))

pub write_term-end-requires : goal.write_term-end-requires
write_term-end-requires c =
    let a = c.args in (
      cut_at a.ring.k a.n a.s.now c.read_term-t.result 0 (omega arith) c.read_term-t.ensures c.requires.1,
      omega (arith, c.requires.2, run_length_first a.ring.k a.n a.s.now c.read_term-t.result (omega arith) c.read_term-t.ensures),
    )

pub write_rest-requires : goal.write_rest-requires
write_rest-requires c =
    let a = c.args in (
      omega arith,
      omega (arith, c.requires.0),
      c.requires.1,
      omega (arith, c.requires.2, c.write_term-end.ensures.next, c.write_term-end.auto.out, run_length_first a.ring.k a.n a.s.now c.read_term-t.result (omega arith) c.read_term-t.ensures),
    )

pub returns : goal.returns
returns c =
    let a = c.args in
    wrote_as (sym (run_first a.ring.k a.n a.s.now c.read_term-t.result (omega (arith, c.if-n-eq0.false)) c.read_term-t.ensures))
    (wrote_both (omega arith) c.write_term-end.ensures c.write_rest.ensures)
