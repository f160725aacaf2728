-- `published::statement::read_constraint` meets its contract: an id and a polynomial in a row. No loop. Assumes nothing.
use Rattle.words.proofs.Parts.{within_refl}
use Rattle.reader.proofs.Following.{same_err}
use Rattle.scratch.proofs.Keeping.{stated_kept}
use Rattle.published.proofs.Closing.{named_below, id_below, lesser_below, whole_stops}
use Rattle.published.proofs.StatementKinds.{constraint_unread, constraint_stuck, constraint_item}
use Rattle.published.proofs.statement.read_constraint.Goals as goal

pub returns-in_err-i-clause-read : goal.returns-in_err-i-clause-read
returns-in_err-i-clause-read c = λ k store.
    rw (same_err c.from_residual.result c.from_residual.ensures.1) (record { said = whole_stops (constraint_unread c.in_err-i.ensures); kept = within_refl })

pub returns-in_err-p-clause-read : goal.returns-in_err-p-clause-read
returns-in_err-p-clause-read c = λ k store.
    rw (same_err c.from_residual-in_err-p.result c.from_residual-in_err-p.ensures.1)
    (record { said = whole_stops (constraint_stuck c.in_ok-i.ensures.taken c.in_err-p.ensures.read.said); kept = stated_kept c.in_err-p.ensures.read.kept })

pub closed-requires : goal.closed-requires
closed-requires c = rw c.lesser.ensures (lesser_below c.in_ok-i.i.why c.in_ok-p.p.why (id_below c.in_ok-i.ensures) (named_below c.in_ok-p.ensures.read.said))

pub returns-clause-read : goal.returns-clause-read
returns-clause-read c = λ k store. constraint_item c.in_ok-p.ensures.read.kept c.in_ok-i.ensures c.in_ok-p.ensures.read.said (rw c.lesser.ensures at c.closed.ensures)
