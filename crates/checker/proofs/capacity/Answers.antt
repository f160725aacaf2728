-- `checker::capacity` meets its contract. No loop. Assumes nothing.
use Rattle.paper.specs.Answer.{capacity_of}
use Rattle.checker.proofs.capacity.Goals as goal

pub returns : goal.returns
unfolding capacity_of
returns c = c.min.ensures
