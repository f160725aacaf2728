-- `scratch::is_stored` meets its contract. The loop's invariant: the goal is none of the first j polynomials. Assumes nothing.
use Rattle.terms.specs.Terms.{decode}
use Rattle.scratch.proofs.Goals.{NoneIs}
use Rattle.scratch.proofs.is_stored.Given as goal

abbrev pub invariant-loop-j : goal.invariant-loop-j
invariant-loop-j l = NoneIs l.starts l.counts l.pool (decode l.n l.goal) l.j
