-- `reader::term::first_verdict` meets its contract, by the first of the two. No loop. Assumes nothing.
use mathlib.Core.Path.{sym}
use Rattle.reader.proofs.Marks.{first_none, first_some}
use Rattle.reader.proofs.term.first_verdict.Goals as goal

pub returns-then-a-eq-ACCEPTED : goal.returns-then-a-eq-ACCEPTED
returns-then-a-eq-ACCEPTED c = let a = c.args in sym (first_none a.a a.b c.if-a-eq-ACCEPTED.true)

pub returns-else-a-eq-ACCEPTED : goal.returns-else-a-eq-ACCEPTED
returns-else-a-eq-ACCEPTED c = let a = c.args in sym (first_some a.a a.b c.if-a-eq-ACCEPTED.false)
