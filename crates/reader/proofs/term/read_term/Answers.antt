-- `reader::term::read_term` meets its contract: a magnitude with its sign, and the variables behind it. No loop. Assumes nothing.
use Rattle.reader.proofs.Following.{same_err}
use Rattle.reader.proofs.Fields.{term_stuck, names_stuck, term_took}
use Rattle.reader.proofs.term.read_term.Goals as goal

pub returns-in_err-m : goal.returns-in_err-m
returns-in_err-m c =
    let a = c.args in
    rw (same_err c.from_residual.result c.from_residual.ensures.1) (term_stuck a.greatest a.s.now a.at c.in_err-m.ensures)

pub returns-in_err-vs : goal.returns-in_err-vs
returns-in_err-vs c =
    let a = c.args in
    rw (same_err c.from_residual-in_err-vs.result c.from_residual-in_err-vs.ensures.1)
    (names_stuck a.greatest a.s.now a.at c.in_ok-m.m c.in_ok-m.ensures c.in_err-vs.ensures)

pub returns : goal.returns
returns c =
    let a = c.args in
    rw c.or.ensures (term_took a.greatest a.s.now a.at c.in_ok-m.m c.in_ok-m.ensures c.in_ok-vs.vs c.in_ok-vs.ensures c.term_of.result c.term_of.ensures)
