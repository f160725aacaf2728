-- `lines::part::tab_number` meets its contract: no tab, or a number behind one. No loop. Assumes nothing.
use Rattle.paper.specs.Grammar.{bytes, decimal, tab, number}
use Rattle.reader.proofs.Following.{fails_first}
use Rattle.lines.proofs.Parts.{stops_on, taken_behind, stops_behind}
use Rattle.lines.proofs.part.tab_number.Goals as goal

pub returns-in_err-behind : goal.returns-in_err-behind
unfolding number tab bytes
returns-in_err-behind c = stops_on _ (fails_first tab (λ _. decimal) c.in_err-behind.ensures) c.from_residual.result c.from_residual.ensures.1

pub returns : goal.returns
unfolding number tab bytes
returns c = stops_behind decimal tab c.in_ok-behind.ensures (λ n h. taken_behind tab c.in_ok-behind.ensures h) c.read_number.result c.read_number.ensures
