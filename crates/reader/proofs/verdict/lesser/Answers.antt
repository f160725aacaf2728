-- `reader::verdict::lesser` meets its contract, by cases. No loop. Assumes nothing.
use mathlib.Core.Logic.{⊎_elim}
use Rattle.reader.proofs.Verdicts.{lesser_none, lesser_number, lesser_first}
use Rattle.reader.proofs.verdict.lesser.Goals as goal

pub returns-then-b-eq-NUMBER : goal.returns-then-b-eq-NUMBER
returns-then-b-eq-NUMBER c = let a = c.args in ⊎_elim (λ e. lesser_none a.a a.b e) (λ e. lesser_number a.a a.b e.0 e.1) c.if-b-eq-NUMBER.either

pub returns-else-b-eq-NUMBER : goal.returns-else-b-eq-NUMBER
returns-else-b-eq-NUMBER c = let a = c.args in lesser_first a.a a.b c.if-b-eq-NUMBER.false.0 c.if-b-eq-NUMBER.false.1
