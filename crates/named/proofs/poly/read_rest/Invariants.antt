-- `named::poly::read_rest` meets its contract. The loop's invariant: monomials stand from at up to i and are put behind the first, as the
-- other variables tell, and room and hints are still those that were lent. The measure is what is left of the length. Assumes nothing.
use Prim.Native.Nat.{◌+◌, ◌-◌, ◌*◌, ◌≤◌}
use lib.ListN.{length}
use Rattle.limits.specs.Limits.{field_terms, term_words}
use Rattle.words.specs.Parts.{Within}
use Rattle.names.specs.Numbered.{StillLent}
use Rattle.named.proofs.Polynomials.{MonomialsTo}
use Rattle.named.proofs.poly.read_rest.Given as goal

abbrev pub invariant-loop-names : goal.invariant-loop-names
invariant-loop-names l =
    MonomialsTo l.initial.names l.names l.s l.at l.initial.out l.out l.terms l.why l.bad l.i × Within term_words (field_terms * term_words) l.initial.out l.out × (l.terms + l.at ≤ l.i + 1)
    × StillLent l.initial.names l.names

abbrev pub decreases-loop-names : goal.decreases-loop-names
decreases-loop-names l = length l.s - l.i
