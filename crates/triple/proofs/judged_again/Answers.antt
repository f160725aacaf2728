-- `triple::judged_again` meets its contract: the given answer where every name is plain, else that of a pass by place. No loop. Assumes nothing.
use Rattle.triple.proofs.Passing.{holding_none}
use Rattle.triple.proofs.judged_again.Goals as goal

pub invariant_of-names-clause-holding : goal.invariant_of-names-clause-holding
invariant_of-names-clause-holding c = holding_none c.every_plain.new.names.room.now c.every_plain.new.names.holding.fits
