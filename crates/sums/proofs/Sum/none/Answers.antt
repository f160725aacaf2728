-- `sums::Sum::none` meets its contract: no pairs have no products. Assumes nothing.
use Rattle.sums.proofs.Summing.{summed_none}
use Rattle.sums.proofs.Sum.none.Goals as goal

pub returns : goal.returns
returns c = λ k store scratch. summed_none
