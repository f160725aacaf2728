-- `named::monomial::read_names` meets its contract. The loop's invariant: names stand from at up to i, as set and bad tell, and room and hints are
-- still those that were lent. The measure is what is left of the length. Assumes nothing.
use Prim.Native.Nat.{◌-◌}
use lib.ListN.{length}
use Rattle.words.specs.Words.{number_of}
use Rattle.names.specs.Numbered.{StillLent}
use Rattle.named.proofs.Factors.{NamesTo}
use Rattle.named.proofs.monomial.read_names.Given as goal

abbrev pub invariant-loop-names : goal.invariant-loop-names
invariant-loop-names l = NamesTo l.initial.names l.names l.s l.at (number_of l.initial.set) l.set l.bad l.i × StillLent l.initial.names l.names

abbrev pub decreases-loop-names : goal.decreases-loop-names
decreases-loop-names l = length l.s - l.i
