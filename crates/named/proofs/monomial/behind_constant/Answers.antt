-- `named::monomial::behind_constant` meets its contract: a constant, and the names behind it. No loop. Assumes nothing.
use borrow.Author.Rules.{rules}
use Rattle.paper.specs.Grammar.{is_digit}
use Rattle.reader.proofs.Following.{same_err}
use Rattle.named.proofs.Tokens.{is_here}
use Rattle.named.proofs.Monomials.{constant_stops, factors_stop, constant_took}
use Rattle.named.proofs.monomial.behind_constant.Goals as goal

pub read_constant-requires : goal.read_constant-requires
read_constant-requires c = let h = (is_here is_digit _ _ c.requires).0 in search rules

pub returns-in_err-c-clause-read : goal.returns-in_err-c-clause-read
returns-in_err-c-clause-read c =
    let a = c.args in
    rw (same_err c.from_residual.result c.from_residual.ensures.1) (constant_stops a.negative a.s.now a.at c.requires c.in_err-c.ensures)

pub returns-in_err-vs-clause-read : goal.returns-in_err-vs-clause-read
returns-in_err-vs-clause-read c =
    let a = c.args in
    rw (same_err c.from_residual-in_err-vs.result c.from_residual-in_err-vs.ensures.1)
    (factors_stop a.negative a.s.now a.at c.requires c.in_ok-c.c c.in_ok-c.ensures c.in_err-vs.ensures.read)

pub returns-clause-read : goal.returns-clause-read
returns-clause-read c =
    let a = c.args in
    constant_took a.negative a.s.now a.at c.requires c.in_ok-c.c c.in_ok-c.ensures a.names.now c.read_names.new.names c.in_ok-vs.vs c.in_ok-vs.ensures.read
    c.signed.result c.signed.ensures c.term_of.result c.term_of.ensures
