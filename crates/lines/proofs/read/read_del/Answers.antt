-- `lines::read::read_del` meets its contract: a keyword and a number in a row. No loop. Assumes nothing.
use Rattle.words.proofs.Parts.{within_refl}
use Rattle.paper.specs.Grammar.{bytes, number, del_line}
use Rattle.lines.proofs.LineKinds.{kind_stops}
use Rattle.lines.proofs.KindParts.{first_stops, del_line_law}
use Rattle.lines.proofs.read.read_del.Goals as goal

pub returns-in_err-i : goal.returns-in_err-i
unfolding bytes
returns-in_err-i c = λ _ _ _. kind_stops del_line within_refl (first_stops (bytes "del") number _ c.in_err-i.ensures) c.from_residual.result c.from_residual.ensures.1

pub returns : goal.returns
unfolding bytes
returns c = λ _ _ _. del_line_law c.in_ok-i.i c.in_ok-i.ensures
