-- `published::pac::read_multiplied_pair` meets its contract: an id, a comma and a polynomial in a row. No loop. Assumes nothing.
use Rattle.published.proofs.Regions.{product_took}
use Rattle.published.proofs.pac.read_multiplied_pair.Goals as goal

pub returns-clause-read : goal.returns-clause-read
returns-clause-read c = rw c.new.ensures (record { said = product_took c.in_ok-i.ensures c.in_ok-f.ensures.read.said; kept = c.in_ok-f.ensures.read.kept })
