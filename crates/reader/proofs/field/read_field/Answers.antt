-- `reader::field::read_field` meets its contract: a first term and those behind it, or the field `0`. No loop. Assumes nothing.
use Rattle.reader.proofs.Following.{same_err}
use Rattle.reader.proofs.Polynomials.{field_stuck, rest_stuck, field_zero, field_terms_law}
use Rattle.reader.proofs.field.read_field.Goals as goal
use Rattle.reader.proofs.field.read_field.Goals.{else-r-at-via-then-r-at+else-s-at-eq48, else-r-at-via-else-r-at}

pub returns-in_err-t : goal.returns-in_err-t
returns-in_err-t c =
    let a = c.args in
    rw (same_err c.from_residual.result c.from_residual.ensures.1) (field_stuck a.greatest a.s.now a.at a.out.now c.in_err-t.ensures)

pub returns-in_err-r : goal.returns-in_err-r
returns-in_err-r c =
    let a = c.args in
    rw (same_err c.from_residual-in_err-r.result c.from_residual-in_err-r.ensures.1)
    (rest_stuck a.greatest a.s.now a.at a.out.now c.in_ok-t.t c.in_ok-t.ensures c.put_term.new.out c.read_rest.new.out c.verdict_on.result c.verdict_on.ensures
    c.put_term.ensures c.in_err-r.ensures)

pub returns-then-s-at-eq48 : goal.returns-then-s-at-eq48
returns-then-s-at-eq48 c =
    let a = c.args in
    field_zero a.greatest a.s.now a.at a.out.now c.in_ok-t.t c.in_ok-t.ensures c.put_term.new.out c.read_rest.new.out c.verdict_on.result c.verdict_on.ensures
    c.put_term.ensures c.in_ok-r.r c.in_ok-r.ensures c.if-r-at.true c.if-s-at-eq48.true

pub returns : goal.returns
returns c =
    let a = c.args in
    rw (c.unwrap_or.ensures, c.unwrap_or-2.ensures, c.or-outside.ensures)
    (field_terms_law a.greatest a.s.now a.at a.out.now c.in_ok-t.t c.in_ok-t.ensures c.put_term.new.out c.read_rest.new.out c.verdict_on.result c.verdict_on.ensures
    c.put_term.ensures c.in_ok-r.r c.in_ok-r.ensures
    (λ p q. elim c.else-r-at.branch [
      | else-r-at-via-then-r-at+else-s-at-eq48 w ↦ w.if-s-at-eq48.false q
      | else-r-at-via-else-r-at w ↦ w.if-r-at.false p
    ])
    c.verdict_on-2.result c.with_count.result (rw c.or-outside.ensures at c.verdict_on-2.ensures) c.with_count.ensures)
