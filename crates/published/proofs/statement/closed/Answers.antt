-- `published::statement::closed` meets its contract: bytes left, a refusal, a bad name, or none of them. No loop. Assumes nothing.
use mathlib.Core.Path.{refl}
use Rattle.published.specs.Statements.{turned}
use Rattle.published.proofs.statement.closed.Goals as goal

pub returns-in-Err : goal.returns-in-Err
returns-in-Err c = turned c.if-end-s.false c.in-Err.why c.in-Err.ensures refl
