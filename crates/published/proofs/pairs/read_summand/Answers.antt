-- `published::pairs::read_summand` meets its contract: an id and a factor in a row. No loop. Assumes nothing.
use borrow.Author.Rules.{rules}
use Rattle.paper.specs.Published.{summand}
use Rattle.published.proofs.Regions.{summand_took}
use Rattle.published.proofs.pairs.read_summand.Goals as goal

pub returns-in_err-i-clause-read : goal.returns-in_err-i-clause-read
unfolding summand
returns-in_err-i-clause-read c = search rules

pub returns-in_err-f-clause-read : goal.returns-in_err-f-clause-read
unfolding summand
returns-in_err-f-clause-read c = search rules

pub returns-clause-read : goal.returns-clause-read
returns-clause-read c = rw c.new.ensures (record { said = summand_took c.in_ok-i.ensures c.in_ok-f.ensures.read.said; kept = c.in_ok-f.ensures.read.kept })
