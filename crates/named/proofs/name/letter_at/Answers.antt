-- `named::name::letter_at` meets its contract, by the length. No loop. Assumes nothing.
use mathlib.Core.Path.{sym, ◌∙◌}
use native.Mathlib.Omega.{arith}
use borrow.Author.Tests.{le-ltb}
use lib.ListN.{length, get_or}
use Rattle.paper.specs.Published.{is_letter}
use Rattle.named.proofs.Tokens.{is_inside, is_end, alphabetic}
use Rattle.named.proofs.name.letter_at.Goals as goal

pub returns-then-at-s : goal.returns-then-at-s
returns-then-at-s c = let a = c.args in c.is_ascii_alphabetic.ensures.value ∙ alphabetic (get_or a.s.now a.at 0) ∙ sym (is_inside is_letter a.s.now a.at (omega arith))

pub returns-else-at-s : goal.returns-else-at-s
returns-else-at-s c = let a = c.args in le-ltb a.at (length a.s.now) (omega arith) ∙ sym (is_end is_letter a.s.now a.at (omega arith))
