-- `words::union` meets its contract. The loop's invariant: r is the union of a and the lowest i words of b. Assumes nothing.
use Rattle.std.proofs.Common.{◌≡◌, length, take}
use lib.Bits.{bit_or}
use Rattle.limits.specs.Limits.{set_words}
use Rattle.words.specs.Words.{number_of}
use Rattle.words.proofs.Laws.{Words}
use Rattle.words.proofs.union.Given as goal

abbrev pub invariant-loop-i : goal.invariant-loop-i
invariant-loop-i l = (number_of l.r ≡ bit_or (number_of l.fn.a) (number_of (take l.i l.b))) × (length l.r ≡ set_words) × Words l.r
