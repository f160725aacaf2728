-- `named::token::digit_at` meets its contract, by the length. No loop. Assumes nothing.
use mathlib.Core.Path.{sym, ◌∙◌}
use native.Mathlib.Omega.{arith}
use borrow.Author.Tests.{le-ltb}
use lib.ListN.{length}
use Rattle.paper.specs.Grammar.{is_digit}
use Rattle.named.proofs.Tokens.{is_inside, is_end}
use Rattle.named.proofs.token.digit_at.Goals as goal

pub returns-then-at-s : goal.returns-then-at-s
unfolding is_digit
returns-then-at-s c = let a = c.args in c.is_ascii_digit.ensures.value ∙ sym (is_inside is_digit a.s.now a.at (omega arith))

pub returns-else-at-s : goal.returns-else-at-s
returns-else-at-s c = let a = c.args in le-ltb a.at (length a.s.now) (omega arith) ∙ sym (is_end is_digit a.s.now a.at (omega arith))
