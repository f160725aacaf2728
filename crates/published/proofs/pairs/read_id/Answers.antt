-- `published::pairs::read_id` meets its contract: an id in its range, which half a word holds, or one out of it. No loop. Assumes nothing.
use mathlib.Core.Path.{refl}
use Rattle.published.proofs.Regions.{id_fine, id_out}
use Rattle.published.proofs.pairs.read_id.Goals as goal

pub returns-in_default : goal.returns-in_default
returns-in_default c = id_out (rw c.in_default.is at c.in_ok-n.ensures)

pub returns : goal.returns
returns c = id_fine _ refl (rw c.in-Some.is at c.in_ok-n.ensures)
