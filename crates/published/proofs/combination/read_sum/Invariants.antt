-- `published::combination::read_sum` meets its contract. The loop's invariant: summands stand from at up to the end of r, with their sum, and room and
-- hints are still those that were lent. The measure is what is left of the length. Assumes nothing.
use mathlib.Core.Path.{◌≡◌}
use Prim.Native.Nat.{◌-◌}
use lib.ListN.{length}
use Rattle.names.specs.Numbered.{StillLent}
use Rattle.table.specs.Stores.{store_in}
use Rattle.scratch.specs.Scratch.{Kept}
use Rattle.published.proofs.Summing.{SummandsTo}
use Rattle.published.proofs.combination.read_sum.Given as goal

abbrev pub invariant-loop-next : goal.invariant-loop-next
invariant-loop-next l = record {
  summed : SummandsTo l.stored.ring (store_in l.stored) l.fn.names l.names l.s l.at l.scratch l.r;
  kept : Kept l.fn.scratch l.scratch;
  plain : l.names.plain ≡ l.fn.names.plain;
  lent : StillLent l.fn.names l.names;
}

abbrev pub decreases-loop-next : goal.decreases-loop-next
decreases-loop-next l = length l.s - l.r.end
