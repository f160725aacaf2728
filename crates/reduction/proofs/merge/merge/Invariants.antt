-- `reduction::merge::merge` meets its contract. The loop's invariant: the first terms, and c at the set of the i-th term with those after it, give the reduced form.
-- Assumes nothing.
use Rattle.reduction.proofs.Merging.{Summing}
use Rattle.reduction.proofs.merge.merge.Given as goal

abbrev pub invariant-loop-i : goal.invariant-loop-i
invariant-loop-i l = Summing l.ring.k l.n l.fn.s l.s l.c l.left l.i
