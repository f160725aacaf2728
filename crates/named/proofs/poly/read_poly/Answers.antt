-- `named::poly::read_poly` meets its contract: a first monomial and those behind it, or the zero polynomial. No loop. Assumes nothing.
use Rattle.words.proofs.Parts.{within_refl}
use Rattle.reader.proofs.Following.{same_err}
use Rattle.named.proofs.Polynomials.{poly_stops, rest_stops, all, poly_zero, poly_terms}
use Rattle.named.proofs.poly.read_poly.Goals as goal

pub returns-in_err-m-clause-read : goal.returns-in_err-m-clause-read
returns-in_err-m-clause-read c =
    let a = c.args in
    rw (same_err c.from_residual.result c.from_residual.ensures.1)
    (record {
      said = poly_stops a.names.now a.s.now a.at a.out.now c.stands_at-negative.result c.behind_minus.result c.behind_minus.ensures c.in_err-m.ensures.read;
      within = within_refl;
    })

pub returns-in_err-r-clause-read : goal.returns-in_err-r-clause-read
returns-in_err-r-clause-read c =
    let a = c.args in
    rw (same_err c.from_residual-in_err-r.result c.from_residual-in_err-r.ensures.1)
    (record {
      said = rest_stops a.names.now a.s.now a.at a.out.now c.stands_at-negative.result c.behind_minus.result c.behind_minus.ensures
          c.read_monomial.new.names c.in_ok-m.m c.in_ok-m.ensures.read c.put_term.new.out c.read_rest.new.out c.put_term.ensures c.in_err-r.ensures.read.within c.in_err-r.ensures.read.said;
      within = all a.names.now a.s.now a.at a.out.now c.stands_at-negative.result c.behind_minus.result c.behind_minus.ensures
          c.read_monomial.new.names c.in_ok-m.m c.in_ok-m.ensures.read c.put_term.new.out c.read_rest.new.out c.put_term.ensures c.in_err-r.ensures.read.within;
    })

pub returns-then-r-m-clause-read : goal.returns-then-r-m-clause-read
returns-then-r-m-clause-read c =
    let a = c.args in
    poly_zero a.names.now a.s.now a.at a.out.now c.stands_at-negative.result c.behind_minus.result c.behind_minus.ensures
    c.read_monomial.new.names c.in_ok-m.m c.in_ok-m.ensures.read c.put_term.new.out c.read_rest.new.out c.put_term.ensures c.in_ok-r.ensures.read.within
    c.read_rest.new.names c.in_ok-r.r c.in_ok-r.ensures.read.said c.if-r-m.true

pub returns-clause-read : goal.returns-clause-read
returns-clause-read c =
    let a = c.args in
    poly_terms a.names.now a.s.now a.at a.out.now c.stands_at-negative.result c.behind_minus.result c.behind_minus.ensures
    c.read_monomial.new.names c.in_ok-m.m c.in_ok-m.ensures.read c.put_term.new.out c.read_rest.new.out c.put_term.ensures c.in_ok-r.ensures.read.within
    c.read_rest.new.names c.in_ok-r.r c.in_ok-r.ensures.read.said c.if-r-m.false c.first_verdict.result c.with_count.result c.first_verdict.ensures c.with_count.ensures
