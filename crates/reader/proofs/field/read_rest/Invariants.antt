-- `reader::field::read_rest` meets its contract. The loop's invariant: terms stand from at up to the end of r and are put behind the first, as
-- r tells. The measure is what is left of the length. Assumes nothing.
use Prim.Native.Nat.{◌+◌, ◌-◌, ◌*◌, ◌≤◌}
use lib.ListN.{length}
use Rattle.limits.specs.Limits.{field_terms, term_words}
use Rattle.words.specs.Parts.{Within}
use Rattle.reader.proofs.Gathering.{TermsTo}
use Rattle.reader.proofs.field.read_rest.Given as goal

abbrev pub invariant-loop-r : goal.invariant-loop-r
invariant-loop-r l =
    TermsTo l.greatest l.s l.at l.initial.out l.out l.r × Within term_words (field_terms * term_words) l.initial.out l.out × (1 ≤ l.r.terms) × (l.r.terms + l.at ≤ l.r.end + 1)

abbrev pub decreases-loop-r : goal.decreases-loop-r
decreases-loop-r l = length l.s - l.r.end
