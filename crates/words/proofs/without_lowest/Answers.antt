-- `words::without_lowest` meets its contract: w - 1 differs from w at the lowest variable of w and below. No loop.
-- Assumes nothing.
use Rattle.std.proofs.Common.{rules}
use Rattle.words.proofs.Laws.{and_lowest}
use Rattle.words.proofs.without_lowest.Goals as goal

pub returns : goal.returns
returns c = λ v l. and_lowest (search rules) l
