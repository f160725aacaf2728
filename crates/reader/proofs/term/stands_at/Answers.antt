-- `reader::term::stands_at` meets its contract, by the length. No loop. Assumes nothing.
use mathlib.Core.Path.{sym, ◌∙◌}
use borrow.Author.Tests.{le-ltb}
use lib.ListN.{length}
use native.Mathlib.Omega.{arith}
use Rattle.reader.proofs.Fields.{stands_inside, stands_end}
use Rattle.reader.proofs.term.stands_at.Goals as goal

pub returns-then-at-s : goal.returns-then-at-s
returns-then-at-s c = let a = c.args in sym (stands_inside a.s.now a.at a.b (omega arith))

pub returns-else-at-s : goal.returns-else-at-s
returns-else-at-s c = let a = c.args in le-ltb a.at (length a.s.now) (omega arith) ∙ sym (stands_end a.s.now a.at a.b (omega arith))
