-- `writer::write::write_term` meets its contract: the coefficient, then the variables. No loop.
-- Assumes nothing.
use mathlib.Core.Path.{sym}
use native.Mathlib.Omega.{arith}
use Rattle.writer.proofs.Written.{wrote_as, wrote_both}
use Rattle.writer.proofs.Runs.{term_coef, term_pieces, term_length_pieces}
use Rattle.writer.proofs.write.write_term.Goals as goal

pub write_coefficient-end-requires : goal.write_coefficient-end-requires
write_coefficient-end-requires c =
    let a = c.args in
    (term_coef a.ring.k a.t c.requires.0, omega (arith, term_length_pieces a.ring.k a.t c.set_of-a.result c.set_of-a.ensures))

pub write_set-requires : goal.write_set-requires
write_set-requires c =
    let a = c.args in
    omega (arith, c.write_coefficient-end.ensures.next, c.write_coefficient-end.auto.out, term_length_pieces a.ring.k a.t c.set_of-a.result c.set_of-a.ensures, c.requires.1)

pub returns : goal.returns
returns c =
    let a = c.args in
    wrote_as (sym (term_pieces a.ring.k a.t c.set_of-a.result c.set_of-a.ensures))
    (wrote_both (omega (arith, c.requires.1)) c.write_coefficient-end.ensures c.write_set.ensures)
