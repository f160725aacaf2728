-- `triple::course::kind_behind` meets its contract: by the kind. No loop. Assumes nothing.
use mathlib.Core.Path.{sym}
use lib.Dec.{eqb}
use borrow.Author.Tests.{eq-eqb, ne_eqb}
use Rattle.ground.proofs.Tests.{cond_yes, cond_no}
use Rattle.triple.proofs.course.kind_behind.Goals as goal

pub returns-then-kind-eq-TARGET : goal.returns-then-kind-eq-TARGET
returns-then-kind-eq-TARGET c = sym (cond_yes (eqb c.args.kind 1) 2 c.args.kind (eq-eqb c.args.kind 1 c.if-kind-eq-TARGET.true))

pub returns : goal.returns
returns c = sym (cond_no (eqb c.args.kind 1) 2 c.args.kind (ne_eqb c.args.kind 1 c.if-kind-eq-TARGET.false))
