-- What is there stands within the room, which keeps its length, and is what the reader gave. The measure is what is missing to more than
-- `most` bytes.
use Rattle.std.proofs.Common.{◌+◌, ◌-◌, ◌≡◌, ◌≤◌, length, take}
use Rattle.std.specs.Io.KnownBytes.{Consumes}
use Rattle.program.proofs.read_input.Given as goal

abbrev pub invariant-loop-done : goal.invariant-loop-done
invariant-loop-done g l =
    (l.done ≤ length l.room)
    × (length l.room ≡ length l.fn.room)
    × Consumes (g.R.Read.remaining l.fn.input) (g.R.Read.remaining l.input) (take l.done l.room)

abbrev pub decreases-loop-done : goal.decreases-loop-done
decreases-loop-done g l = l.most + 1 - l.done
