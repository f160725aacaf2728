-- `published::statement::read_whole` meets its contract: a statement is read by its kind. No loop. Assumes nothing.
use Rattle.published.proofs.StepRules.{kind_constraint, kind_target, kind_as}
use Rattle.published.proofs.statement.read_whole.Goals as goal

pub returns-in-0-clause-read : goal.returns-in-0-clause-read
returns-in-0-clause-read c = kind_as (kind_constraint c.in-0.is) (c.read_constraint.ensures.read _ _)

pub returns-in-1-clause-read : goal.returns-in-1-clause-read
returns-in-1-clause-read c = kind_as (kind_target c.in-1.is) (c.read_target.ensures.read _ _)
