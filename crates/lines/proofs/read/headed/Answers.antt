-- `lines::read::headed` meets its contract: a keyword and a number in a row. No loop. Assumes nothing.
use Rattle.paper.specs.Grammar.{literal, number}
use Rattle.reader.proofs.Following.{fails_first}
use Rattle.lines.proofs.Parts.{stops_on, taken_behind, stops_behind}
use Rattle.lines.proofs.read.headed.Goals as goal

pub returns-in_err-behind : goal.returns-in_err-behind
returns-in_err-behind c = stops_on _ (fails_first (literal c.args.w.now) (λ _. number) c.in_err-behind.ensures) c.from_residual.result c.from_residual.ensures.1

pub returns : goal.returns
returns c = stops_behind number (literal c.args.w.now) c.in_ok-behind.ensures (λ n h. taken_behind (literal c.args.w.now) c.in_ok-behind.ensures h) c.tab_number.result c.tab_number.ensures
