-- The place at is within the text, and the rooms keep their lengths. The measure is what is left of the text.
use Rattle.std.proofs.Common.{◌-◌, ◌≡◌, ◌≤◌, length}
use Rattle.lpac_spell.proofs.answer_lines.Given as goal

abbrev pub invariant-loop-at : goal.invariant-loop-at
invariant-loop-at g l = (l.at ≤ length l.text) × (length l.scratch ≡ length l.fn.scratch) × (length l.out ≡ length l.fn.out)

abbrev pub decreases-loop-at : goal.decreases-loop-at
decreases-loop-at g l = length l.text - l.at
