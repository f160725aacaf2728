-- `words::lowest` meets its contract: below the lowest variable stand zeros. No loop.
-- Assumes nothing.
use Rattle.std.proofs.Common.{rules}
use Rattle.words.proofs.Laws.{trailing_lowest}
use Rattle.words.proofs.lowest.Goals as goal

pub returns : goal.returns
returns c = trailing_lowest 64 c.args.w (search rules) (search rules)
