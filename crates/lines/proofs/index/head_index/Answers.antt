-- `lines::index::head_index` meets its contract: the number behind the keyword is in its range. No loop. Assumes nothing.
use Rattle.lines.proofs.Indexing.{head_got}
use Rattle.lines.proofs.index.head_index.Goals as goal

pub returns-in-Ok : goal.returns-in-Ok
returns-in-Ok c = λ i u e r. head_got c.args.w.now c.args.s.now i u e r c.in-Ok.i c.in-Ok.ensures
