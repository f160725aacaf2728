-- `published::pairs::in_parentheses` meets its contract: a parenthesis, a polynomial and a parenthesis in a row. No loop. Assumes nothing.
use Rattle.published.proofs.Regions.{in_both}
use Rattle.published.proofs.pairs.in_parentheses.Goals as goal

pub returns-clause-read : goal.returns-clause-read
returns-clause-read c = record { said = in_both c.skip_spaces.ensures c.in_ok-from.ensures c.in_ok-p.ensures.read.said c.in_ok-end.ensures; kept = c.in_ok-p.ensures.read.kept }
