-- `triple::course::judge_text` meets its contract. The loop's invariant: the statements from at on, and whatever follows them, give the answer that the
-- first gave with those behind it. The measure is what is left of the text. Assumes nothing.
use Prim.Native.Nat.{◌+◌, ◌-◌}
use lib.ListN.{length, drop}
use Rattle.paper.specs.Published.{pieces}
use Rattle.published.specs.Statements.{items_of}
use Rattle.triple.specs.Courses.{Onward}
use Rattle.triple.proofs.Underway.{AtPiece}
use Rattle.triple.proofs.course.judge_text.Given as goal

abbrev pub invariant-loop-at : goal.invariant-loop-at
invariant-loop-at l =
    Onward l.capacity (items_of l.kind (pieces l.text)) l.initial.names l.initial.state l.initial.pool l.initial.scratch
    (items_of l.next (pieces (drop l.at l.text))) l.names l.state l.pool l.scratch (l.initial.state.lines + l.at)
    × AtPiece l.text l.at

abbrev pub decreases-loop-at : goal.decreases-loop-at
decreases-loop-at l = length l.text - l.at
