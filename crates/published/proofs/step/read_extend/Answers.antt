-- `published::step::read_extend` meets its contract: a name, a comma and a polynomial in a row. No loop. Assumes nothing.
use Rattle.reader.proofs.Following.{same_err}
use Rattle.scratch.proofs.Keeping.{stated_kept}
use Rattle.published.proofs.Closing.{named_below, id_below, lesser_below, whole_stops}
use Rattle.published.proofs.StatementKinds.{extend_stuck, extend_item}
use Rattle.published.proofs.step.read_extend.Goals as goal
use Rattle.published.proofs.step.read_extend.Goals.{in-Some, in-None}

pub returns-in_err-p-clause-read : goal.returns-in_err-p-clause-read
returns-in_err-p-clause-read c = λ h k store.
    rw (same_err c.from_residual-in_err-p.result c.from_residual-in_err-p.ensures.1)
    (record { said = whole_stops (extend_stuck h.value c.in_ok-v.ensures.read.taken c.in_err-p.ensures.read.said); kept = stated_kept c.in_err-p.ensures.read.kept })

pub closed-requires : goal.closed-requires
closed-requires c = rw c.lesser.ensures (lesser_below c.args.i.why c.in_ok-p.p.why (id_below c.requires.0) (named_below c.in_ok-p.ensures.read.said))

pub returns-clause-read : goal.returns-clause-read
returns-clause-read c = λ h k store.
    extend_item h c.in_ok-p.ensures.read.kept c.match-v.said (λ n e. elim c.match-v.branch [ in-Some w ↦ cc | in-None w ↦ cc ]) c.in_ok-v.ensures.read c.in_ok-p.ensures.read.said
    c.is_none.result c.is_none.ensures (rw c.lesser.ensures at c.closed.ensures)
