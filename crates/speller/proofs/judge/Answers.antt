-- `speller::judge` meets its contract: the first test that fails gives the verdict, or the reader does. No loop.
-- Assumes nothing.
use mathlib.Core.Logic.{⊎_elim}
use native.Mathlib.Omega.{arith}
use Rattle.reader.proofs.Numbers.{ring_low, ring_high, ring_inside}
use Rattle.speller.proofs.Judging.{judged_some, judged_ring, judged_read}
use Rattle.speller.proofs.judge.Goals as goal

pub returns-then-f-field : goal.returns-then-f-field
returns-then-f-field c = λ s r h. judged_some h c.if-f-field.true

pub returns-then-k-eq0 : goal.returns-then-k-eq0
returns-then-k-eq0 c = λ s r h. judged_ring h c.if-f-field.false (⊎_elim (λ e. ring_low _ (omega arith)) (λ l. ring_high _ l.1) c.then-k-eq0.either)

pub returns : goal.returns
returns c = λ s r h. judged_read h c.if-f-field.false (ring_inside _ (omega arith) (omega arith)) c.verdict.ensures
