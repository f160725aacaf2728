-- `lines::part::read_number` meets its contract: a number in its range, which half a word holds, or one that is out of it. No loop.
-- Assumes nothing.
use Rattle.lines.proofs.Parts.{number_fine, number_out}
use Rattle.lines.proofs.part.read_number.Goals as goal

pub returns-in-Some : goal.returns-in-Some
returns-in-Some c = number_fine c.args.low c.args.high _ c.in_ok-n.ensures c.in-Some.is

pub returns-in-None : goal.returns-in-None
returns-in-None c = number_out c.args.low c.args.high _ c.in_ok-n.ensures c.in-None.is
