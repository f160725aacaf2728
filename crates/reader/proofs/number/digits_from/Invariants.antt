-- `reader::number::digits_from` meets its contract. The loop's invariant: the digits from at on behind the value first
-- are the digits from i on behind the value v. Assumes nothing.
use mathlib.Core.Path.{◌≡◌}
use Prim.Native.Nat.{◌≤◌, ◌<◌, ◌^◌}
use lib.ListN.{length, drop}
use Rattle.paper.specs.Grammar.{digits}
use Rattle.reader.proofs.number.digits_from.Given as goal

abbrev pub invariant-loop-i : goal.invariant-loop-i
invariant-loop-i l = (l.at ≤ l.i) × (l.i ≤ length l.s) × (l.v < 2 ^ 64) × (digits l.first (drop l.at l.s) ≡ digits l.v (drop l.i l.s))
