-- `published::statement::read_target` meets its contract: a polynomial. No loop. Assumes nothing.
use Rattle.reader.proofs.Following.{same_err}
use Rattle.scratch.proofs.Keeping.{stated_kept}
use Rattle.published.proofs.Closing.{named_below, whole_stops}
use Rattle.published.proofs.StatementKinds.{target_stuck, target_item}
use Rattle.published.proofs.statement.read_target.Goals as goal

pub returns-in_err-p-clause-read : goal.returns-in_err-p-clause-read
returns-in_err-p-clause-read c = λ k store.
    rw (same_err c.from_residual.result c.from_residual.ensures.1)
    (record { said = whole_stops (target_stuck c.in_err-p.ensures.read.said); kept = stated_kept c.in_err-p.ensures.read.kept })

pub closed-requires : goal.closed-requires
closed-requires c = named_below c.in_ok-p.ensures.read.said

pub returns-clause-read : goal.returns-clause-read
returns-clause-read c = λ k store. target_item c.in_ok-p.ensures.read.kept c.in_ok-p.ensures.read.said c.closed.ensures
