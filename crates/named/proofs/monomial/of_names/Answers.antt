-- `named::monomial::of_names` meets its contract: a name, and the names behind it. No loop. Assumes nothing.
use Rattle.reader.proofs.Following.{same_err}
use Rattle.named.proofs.Factors.{no_number}
use Rattle.named.proofs.Monomials.{name_stops, names_stop, names_took}
use Rattle.named.proofs.monomial.of_names.Goals as goal

pub returns-in_err-v-clause-read : goal.returns-in_err-v-clause-read
returns-in_err-v-clause-read c =
    let a = c.args in
    rw (same_err c.from_residual.result c.from_residual.ensures.1) (name_stops a.negative a.s.now a.at c.requires.1 c.in_err-v.ensures.read)

pub returns-in_err-vs-clause-read : goal.returns-in_err-vs-clause-read
returns-in_err-vs-clause-read c =
    let a = c.args in
    rw (same_err c.from_residual-in_err-vs.result c.from_residual-in_err-vs.ensures.1)
    (names_stop a.negative a.s.now a.at c.requires.1 a.names.now c.read_name.new.names c.in_ok-v.v c.in_ok-v.ensures.read c.in_err-vs.ensures.read)

pub returns-clause-read : goal.returns-clause-read
returns-clause-read c =
    let a = c.args in
    rw (no_number c.in_ok-v.v.number c.is_none.result c.is_none.ensures)
    (names_took a.negative a.s.now a.at c.requires.1 a.names.now c.read_name.new.names c.in_ok-v.v c.in_ok-v.ensures.read c.read_names.new.names
    c.with_number-one.result c.with_number-one.ensures c.in_ok-vs.vs c.in_ok-vs.ensures.read c.signed.result c.signed.ensures c.term_of.result c.term_of.ensures)
