-- `published::signs::pairs_behind` meets its contract: summands behind %, else PAC's sum or product. No loop. Assumes nothing.
use native.Mathlib.Omega.{arith}
use Rattle.published.proofs.StepRules.{sum_as, pairs_summed, pairs_added, pairs_multiplied}
use Rattle.published.proofs.signs.pairs_behind.Goals as goal

pub returns-in-37-clause-read : goal.returns-in-37-clause-read
returns-in-37-clause-read c = sum_as c.read_sum.result (pairs_summed c.in-37.is) c.read_sum.ensures.read

pub returns-in-43-clause-read : goal.returns-in-43-clause-read
returns-in-43-clause-read c = sum_as c.read_addends.result (pairs_added c.in-43.is) (c.read_addends.ensures c.args.names.now)

pub returns-in_default-clause-read : goal.returns-in_default-clause-read
returns-in_default-clause-read c =
    sum_as c.read_multiplied.result (pairs_multiplied {b = c.args.b} (λ e. omega arith) (λ e. omega arith)) c.read_multiplied.ensures.read
