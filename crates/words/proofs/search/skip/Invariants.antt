-- `words::search::skip` meets its contract. The loop's invariant: none of the elements from at up to i is x.
-- The measure is what is left of the length. Assumes nothing.
use Prim.Native.Nat.{◌-◌}
use lib.ListN.{length}
use Rattle.words.specs.Search.{Passed}
use Rattle.words.proofs.search.skip.Given as goal

abbrev pub invariant-loop-i : goal.invariant-loop-i
invariant-loop-i g l = Passed g.T.PartialEq.eq l.s l.at l.x l.i

abbrev pub decreases-loop-i : goal.decreases-loop-i
decreases-loop-i g l = length l.s - l.i
