-- `table::lower` meets its contract. The loop's invariant: the starts are lowered up to k. Assumes nothing.
use Prim.Native.Nat.{◌≤◌}
use Rattle.table.specs.Columns.{Lowered}
use Rattle.table.proofs.lower.Given as goal

abbrev pub invariant-loop-k : goal.invariant-loop-k
invariant-loop-k l = (l.j ≤ l.k) × Lowered l.initial.column l.j l.k l.fall l.column
