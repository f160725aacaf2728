-- `reader::keyword::word_at` meets its contract. The loop's invariant: the bytes from at on are the first i of w. Assumes nothing.
use mathlib.Core.Path.{◌≡◌}
use Prim.Native.Nat.{◌≤◌, ◌+◌}
use lib.ListN.{length, drop}
use Rattle.paper.specs.Grammar.{literal}
use Rattle.reader.proofs.keyword.word_at.Given as goal

abbrev pub invariant-loop-i : goal.invariant-loop-i
invariant-loop-i l = (l.at + l.i ≤ length l.s) × (literal l.w (drop l.at l.s) ≡ literal (drop l.i l.w) (drop (l.at + l.i) l.s))
