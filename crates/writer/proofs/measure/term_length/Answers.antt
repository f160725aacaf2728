-- `writer::measure::term_length` meets its contract: the coefficient, then the variables. No loop.
-- Assumes nothing.
use native.Mathlib.Omega.{arith}
use Rattle.terms.specs.Terms.{term_of}
use Rattle.writer.proofs.Runs.{term_coef, term_length_pieces, term_most, term_room_most}
use Rattle.writer.proofs.measure.term_length.Goals as goal

pub coefficient_length-requires : goal.coefficient_length-requires
coefficient_length-requires c = term_coef c.args.ring.k c.args.t c.requires

pub overflow_add-result : goal.overflow_add-result
overflow_add-result c =
    let a = c.args in
    let t = term_of a.t in
    record {
      fits = omega (
        arith,
        c.set_length.ensures,
        c.coefficient_length.ensures,
        term_length_pieces a.ring.k a.t c.set_of.result c.set_of.ensures,
        term_most a.ring.k t (omega arith) c.requires,
        term_room_most t,
      );
    }

pub returns : goal.returns
returns c =
    let a = c.args in
    omega (arith, c.set_length.ensures, c.coefficient_length.ensures, term_length_pieces a.ring.k a.t c.set_of.result c.set_of.ensures)
