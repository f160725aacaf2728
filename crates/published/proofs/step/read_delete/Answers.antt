-- `published::step::read_delete` meets its contract: nothing behind its sign. No loop. Assumes nothing.
use Rattle.published.proofs.StatementKinds.{delete_item}
use Rattle.published.proofs.step.read_delete.Goals as goal

pub returns : goal.returns
returns c = λ h k store names words. delete_item h names c.requires.1 c.closed.ensures
