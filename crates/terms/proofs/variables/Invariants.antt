-- `terms::variables` meets its contract. The loop's invariant: the set has the variables of the i terms passed. Assumes nothing.
use Rattle.std.proofs.Common.{◌≡◌}
use Rattle.algebra.specs.Polynomial.{vars}
use Rattle.words.specs.Words.{number_of}
use Rattle.terms.specs.Terms.{decode}
use Rattle.terms.proofs.variables.Given as goal

abbrev pub invariant-loop-i : goal.invariant-loop-i
invariant-loop-i l = number_of l.a ≡ vars (decode l.i l.s)
