-- `triple::judged` meets its contract: names are plain where nothing is refused; else the texts are judged again. No loop. Assumes nothing.
use native.Mathlib.Omega.{arith}
use Rattle.triple.proofs.Passing.{holding_none}
use Rattle.triple.proofs.judged.Goals as goal

pub invariant_of-names-clause-holding : goal.invariant_of-names-clause-holding
invariant_of-names-clause-holding c = holding_none _ (omega arith)
