-- `lines::read::read_ext` meets its contract: a keyword, an index, a variable and a polynomial in a row. No loop. Assumes nothing.
use Rattle.words.proofs.Parts.{within_refl}
use Rattle.paper.specs.Grammar.{bytes, number, field, ext_line}
use Rattle.reader.proofs.Following.{fails_first, fails_then}
use Rattle.scratch.proofs.Keeping.{stated_kept}
use Rattle.lines.proofs.LineKinds.{kind_stops}
use Rattle.lines.proofs.KindParts.{first_stops, later_stops, ext_line_law}
use Rattle.lines.proofs.read.read_ext.Goals as goal

pub returns-in_err-i : goal.returns-in_err-i
unfolding bytes
returns-in_err-i c = λ _ _. kind_stops ext_line within_refl (first_stops (bytes "ext") number _ c.in_err-i.ensures) c.from_residual.result c.from_residual.ensures.1

pub returns-in_err-v : goal.returns-in_err-v
unfolding bytes
returns-in_err-v c =
    λ _ _. kind_stops ext_line within_refl (later_stops (bytes "ext") number _ c.in_ok-i.ensures.taken (fails_first number _ c.in_err-v.ensures))
    c.from_residual-in_err-v.result c.from_residual-in_err-v.ensures.1

pub returns-in_err-p : goal.returns-in_err-p
unfolding bytes
returns-in_err-p c =
    λ _ _. kind_stops ext_line (stated_kept c.tab_field.ensures.kept)
    (later_stops (bytes "ext") number _ c.in_ok-i.ensures.taken (fails_then number _ c.in_ok-v.ensures.taken (fails_first field _ c.in_err-p.ensures.part)))
    c.from_residual-in_err-p.result c.from_residual-in_err-p.ensures.1

pub returns : goal.returns
unfolding bytes
returns c =
    λ _ _. ext_line_law c.in_ok-p.p c.tab_field.ensures.kept c.in_ok-i.i c.in_ok-v.v c.in_ok-i.ensures c.in_ok-v.ensures c.in_ok-p.ensures.part c.lesser-numbers.ensures c.lesser.ensures
