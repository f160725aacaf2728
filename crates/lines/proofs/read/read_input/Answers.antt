-- `lines::read::read_input` meets its contract: a keyword, an index and a polynomial in a row. No loop. Assumes nothing.
use Rattle.words.proofs.Parts.{within_refl}
use Rattle.paper.specs.Grammar.{bytes, number, field, input_line}
use Rattle.reader.proofs.Following.{fails_first}
use Rattle.scratch.proofs.Keeping.{stated_kept}
use Rattle.lines.proofs.LineKinds.{kind_stops}
use Rattle.lines.proofs.KindParts.{first_stops, later_stops, input_line_law}
use Rattle.lines.proofs.read.read_input.Goals as goal

pub returns-in_err-i : goal.returns-in_err-i
unfolding bytes
returns-in_err-i c = λ _ _. kind_stops input_line within_refl (first_stops (bytes "in") number _ c.in_err-i.ensures) c.from_residual.result c.from_residual.ensures.1

pub returns-in_err-p : goal.returns-in_err-p
unfolding bytes
returns-in_err-p c =
    λ _ _. kind_stops input_line (stated_kept c.tab_field.ensures.kept) (later_stops (bytes "in") number _ c.in_ok-i.ensures.taken (fails_first field _ c.in_err-p.ensures.part))
    c.from_residual-in_err-p.result c.from_residual-in_err-p.ensures.1

pub returns : goal.returns
unfolding bytes
returns c = λ _ _. input_line_law c.in_ok-p.p c.tab_field.ensures.kept c.in_ok-i.i c.in_ok-i.ensures c.in_ok-p.ensures.part c.lesser.ensures
