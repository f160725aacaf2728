-- `lines::read::read_ring` meets its contract: a keyword and a number in a row. No loop. Assumes nothing.
use Rattle.words.proofs.Parts.{within_refl}
use Rattle.paper.specs.Grammar.{bytes, number, ring_line}
use Rattle.lines.proofs.LineKinds.{kind_stops}
use Rattle.lines.proofs.KindParts.{first_stops, ring_line_law}
use Rattle.lines.proofs.read.read_ring.Goals as goal

pub returns-in_err-k : goal.returns-in_err-k
unfolding bytes
returns-in_err-k c = λ _ _ _. kind_stops ring_line within_refl (first_stops (bytes "ring") number _ c.in_err-k.ensures) c.from_residual.result c.from_residual.ensures.1

pub returns : goal.returns
unfolding bytes
returns c = λ _ _ _. ring_line_law c.in_ok-k.k c.in_ok-k.ensures
