-- `named::token::is_space` meets its contract, as the definition has it. No loop. Assumes nothing.
use borrow.Author.Rules.{rules}
use Rattle.paper.specs.Published.{is_space}
use Rattle.named.proofs.token.is_space.Goals as goal

pub returns : goal.returns
unfolding is_space
returns c = search rules
