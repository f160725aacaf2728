-- `terms::append_times` meets its contract. The loop's invariant: i products are appended. Assumes nothing.
use Rattle.algebra.specs.Polynomial.{times}
use Rattle.terms.specs.Terms.{term_of, decode, rounded, Appended}
use Rattle.terms.proofs.append_times.Given as goal

abbrev pub invariant-loop-i : goal.invariant-loop-i
invariant-loop-i l = Appended 0 l.n l.i (rounded (times (term_of l.t) (decode l.i l.b))) l.fn.out l.out
