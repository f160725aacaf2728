-- `triple::plain::plain_text` meets its contract. The loop's invariant: the names of the statements from at on, and of whatever follows them, are plain as all
-- of them are. The measure is what is left of the text. Assumes nothing.
use mathlib.Core.Path.{◌≡◌}
use mathlib.Core.Bool.{true}
use mathlib.Core.List.{List, ◌++◌}
use Prim.Native.Nat.{◌-◌}
use lib.ListN.{length, drop}
use Rattle.paper.specs.Published.{pieces, NamedItem}
use Rattle.published.specs.Statements.{items_of}
use Rattle.triple.specs.Courses.{all_plain}
use Rattle.triple.proofs.Underway.{AtPiece}
use Rattle.triple.proofs.plain.plain_text.Given as goal

abbrev pub invariant-loop-at : goal.invariant-loop-at
invariant-loop-at l =
    ((rest : List NamedItem) → all_plain (items_of l.kind (pieces l.text) ++ rest) ≡ all_plain (items_of l.next (pieces (drop l.at l.text)) ++ rest))
    × AtPiece l.text l.at × (l.names.plain ≡ true)

abbrev pub decreases-loop-at : goal.decreases-loop-at
decreases-loop-at l = length l.text - l.at
