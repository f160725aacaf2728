-- `named::token::symbol_at` meets its contract: the sign and the white space behind it, or another byte. No loop. Assumes nothing.
use mathlib.Core.Path.{sym, ◌∙◌}
use borrow.Author.Rules.{rules}
use Rattle.reader.proofs.Fields.{stands}
use Rattle.named.proofs.Tokens.{symbol_here, symbol_not}
use Rattle.named.proofs.token.symbol_at.Goals as goal

pub returns-then-not-stands_at : goal.returns-then-not-stands_at
returns-then-not-stands_at c = let a = c.args in symbol_not a.s.now a.at a.b (search rules) (sym c.stands_at.ensures ∙ c.if-not-stands_at.true)

pub skip_spaces-requires : goal.skip_spaces-requires
skip_spaces-requires c = let h = (stands _ _ _ (sym c.stands_at.ensures ∙ c.if-not-stands_at.false)).0 in search rules

pub returns : goal.returns
returns c =
    let a = c.args in
    symbol_here a.s.now a.at a.b (sym c.stands_at.ensures ∙ c.if-not-stands_at.false) c.skip_spaces.ensures
