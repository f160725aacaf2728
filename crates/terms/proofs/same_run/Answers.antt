-- `terms::same_run` meets its contract: runs of one length are the same where their terms are. Assumes nothing.
use Rattle.std.proofs.Common.{◌≡◌, refl, true, false, arith, rules}
use Rattle.std.proofs.lemmas.Iterator.{YieldsList-from_range, cases_from_all}
use borrow.Author.Tests.{tests}
use Rattle.terms.proofs.Runs.{runs_longer, terms_alike, runs_told}
use Rattle.terms.proofs.same_run.Goals as goal

pub returns-then-m-n : goal.returns-then-m-n
returns-then-m-n c =
    let a = c.args in
    runs_told a.a.now a.b.now a.m a.n c.if-m-n.true c.all.result
    (cases_from_all _ _ _ (λ i. terms_alike a.a.now a.b.now i ≡ true) (λ i. terms_alike a.a.now a.b.now i ≡ false) c.all.ensures.ran
    (YieldsList-from_range 0 a.m a.m refl (omega arith)) (λ x q k. search (rules, tests)) (λ x q k. search (rules, tests)))

pub returns-else-m-n : goal.returns-else-m-n
returns-else-m-n c = let a = c.args in runs_longer a.m a.n a.a.now a.b.now c.if-m-n.false
