-- `published::step::read_linear` meets its contract: pairs, a comma and a polynomial in a row. No loop. Assumes nothing.
use Rattle.reader.proofs.Following.{same_err}
use Rattle.published.proofs.Closing.{named_below, id_below, lesser_below, whole_stops}
use Rattle.published.proofs.StatementKinds.{front_kept, pairs_kept, linear_unread, linear_stuck, linear_item}
use Rattle.published.specs.Pairs.{pairs_behind}
use Rattle.published.proofs.step.read_linear.Goals as goal

pub returns-in_err-q-clause-read : goal.returns-in_err-q-clause-read
returns-in_err-q-clause-read c = λ h.
    rw (same_err c.from_residual.result c.from_residual.ensures.1)
    (record { said = whole_stops (linear_unread (pairs_behind c.args.b) h.value c.in_err-q.ensures.read.said); kept = front_kept c.in_err-q.ensures.read.kept })

pub returns-in_err-p-clause-read : goal.returns-in_err-p-clause-read
returns-in_err-p-clause-read c = λ h.
    rw (same_err c.from_residual-in_err-p.result c.from_residual-in_err-p.ensures.1)
    (record {
      said = whole_stops (linear_stuck (pairs_behind c.args.b) h.value c.in_ok-q.ensures.read.said.taken c.in_err-p.ensures.read.said);
      kept = pairs_kept c.in_ok-q.ensures.read.kept c.in_err-p.ensures.read.kept;
    })

pub closed-requires : goal.closed-requires
closed-requires c =
    rw (c.lesser.ensures, c.lesser-head.ensures)
    (lesser_below _ c.in_ok-p.p.why (lesser_below c.args.i.why c.in_ok-q.q.why (id_below c.requires.0) (named_below c.in_ok-q.ensures.read.said)) (named_below c.in_ok-p.ensures.read.said))

pub returns-clause-read : goal.returns-clause-read
returns-clause-read c = λ h.
    linear_item h c.in_ok-p.ensures.read.kept (pairs_behind c.args.b) c.in_ok-q.ensures.read.kept c.in_ok-q.ensures.read.said c.in_ok-p.ensures.read.said
    (rw (c.lesser.ensures, c.lesser-head.ensures) at c.closed.ensures)
