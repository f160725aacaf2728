-- `lines::pairs::read_pairs` meets its contract. The loop's invariant: pairs stand from at up to i, as why tells, and where nothing
-- refuses them the sum is theirs; the stated region and the goal's are kept. The measure is what is left of the length. Assumes nothing.
use Prim.Native.Nat.{◌-◌}
use lib.ListN.{length}
use Rattle.table.specs.Stores.{store_in}
use Rattle.scratch.specs.Scratch.{Kept}
use Rattle.lines.proofs.Walking.{PairsTo}
use Rattle.lines.proofs.pairs.read_pairs.Given as goal

abbrev pub invariant-loop-scratch : goal.invariant-loop-scratch
invariant-loop-scratch l =
    PairsTo l.stored.ring (store_in l.stored) l.s l.at l.scratch l.sum l.why l.i × Kept l.initial.scratch l.scratch

abbrev pub decreases-loop-scratch : goal.decreases-loop-scratch
decreases-loop-scratch l = length l.s - l.i
