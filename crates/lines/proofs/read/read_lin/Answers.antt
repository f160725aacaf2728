-- `lines::read::read_lin` meets its contract: a keyword, an index, a polynomial and pairs in a row. No loop. Assumes nothing.
use Rattle.words.proofs.Parts.{within_refl}
use Rattle.paper.specs.Grammar.{bytes, number, field, pairs, lin_line}
use Rattle.reader.proofs.Following.{fails_first, fails_then}
use Rattle.scratch.proofs.Keeping.{stated_kept}
use Rattle.lines.proofs.LineKinds.{kind_stops}
use Rattle.lines.proofs.KindParts.{both_kept, first_stops, later_stops, lin_line_law}
use Rattle.lines.proofs.read.read_lin.Goals as goal

pub returns-in_err-i : goal.returns-in_err-i
unfolding bytes
returns-in_err-i c = kind_stops lin_line within_refl (first_stops (bytes "lin") number _ c.in_err-i.ensures) c.from_residual.result c.from_residual.ensures.1

pub returns-in_err-p : goal.returns-in_err-p
unfolding bytes
returns-in_err-p c =
    kind_stops lin_line (stated_kept c.tab_field.ensures.kept) (later_stops (bytes "lin") number _ c.in_ok-i.ensures.taken (fails_first field _ c.in_err-p.ensures.part))
    c.from_residual-in_err-p.result c.from_residual-in_err-p.ensures.1

pub returns-in_err-qs : goal.returns-in_err-qs
unfolding bytes
returns-in_err-qs c =
    kind_stops lin_line (both_kept c.tab_field.ensures.kept c.read_pairs.ensures.kept)
    (later_stops (bytes "lin") number _ c.in_ok-i.ensures.taken (fails_then field _ c.in_ok-p.ensures.part.taken (fails_first pairs _ c.in_err-qs.ensures.part)))
    c.from_residual-in_err-qs.result c.from_residual-in_err-qs.ensures.1

pub returns : goal.returns
unfolding bytes
returns c =
    lin_line_law c.in_ok-i.i c.in_ok-p.p c.in_ok-qs.qs c.in_ok-i.ensures c.in_ok-p.ensures.part c.tab_field.ensures.kept c.in_ok-qs.ensures.part c.read_pairs.ensures.kept
    c.lesser-head.ensures c.lesser.ensures
