-- `lines::read::read_goal` meets its contract: a keyword and a polynomial in a row. No loop. Assumes nothing.
use Rattle.words.proofs.Parts.{within_refl}
use Rattle.paper.specs.Grammar.{bytes, literal, field, goal_line}
use Rattle.reader.proofs.Following.{fails_first, fails_then}
use Rattle.scratch.proofs.Keeping.{stated_kept}
use Rattle.lines.proofs.LineKinds.{kind_stops}
use Rattle.lines.proofs.KindParts.{goal_line_law}
use Rattle.lines.proofs.read.read_goal.Goals as goal

pub returns-in_err-behind : goal.returns-in_err-behind
unfolding bytes
returns-in_err-behind c = λ _ _. kind_stops goal_line within_refl (fails_first (literal (bytes "goal")) _ c.in_err-behind.ensures) c.from_residual.result c.from_residual.ensures.1

pub returns-in_err-p : goal.returns-in_err-p
unfolding bytes
returns-in_err-p c =
    λ _ _. kind_stops goal_line (stated_kept c.tab_field.ensures.kept) (fails_then (literal (bytes "goal")) _ c.in_ok-behind.ensures (fails_first field _ c.in_err-p.ensures.part))
    c.from_residual-in_err-p.result c.from_residual-in_err-p.ensures.1

pub returns : goal.returns
unfolding bytes
returns c = λ _ _. goal_line_law c.in_ok-p.p c.tab_field.ensures.kept c.in_ok-behind.ensures c.in_ok-p.ensures.part
