-- `terms::same_set` meets its contract: sets are their numbers. Assumes nothing.
use Rattle.std.proofs.Common.{◌∙◌, ap₂, eqb, rules}
use Rattle.terms.proofs.Runs.{sets_alike}
use Rattle.terms.proofs.same_set.Goals as goal

pub returns : goal.returns
returns c =
    c.eq.ensures ∙ sets_alike c.set_of.result c.set_of-2.result (search rules) (λ i. search rules) (λ i. search rules)
    ∙ ap₂ eqb c.set_of.ensures c.set_of-2.ensures
