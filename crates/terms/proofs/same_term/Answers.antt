-- `terms::same_term` meets its contract: the sets are compared, then the coefficients. Assumes nothing.
use Rattle.terms.specs.Terms.{term_of}
use Rattle.terms.proofs.same_term.Goals as goal

pub returns-then-same_set : goal.returns-then-same_set
unfolding term_of
returns-then-same_set c = rw (← c.if-same_set.ensures)
