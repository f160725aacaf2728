-- `named::poly::behind_minus` meets its contract, by the sign. No loop. Assumes nothing.
use mathlib.Core.Path.{sym, ◌∙◌}
use borrow.Author.Rules.{rules}
use Rattle.reader.proofs.Fields.{stands}
use Rattle.named.proofs.Monomials.{minus_here, minus_not}
use Rattle.named.proofs.poly.behind_minus.Goals as goal

pub skip_spaces-requires : goal.skip_spaces-requires
skip_spaces-requires c = let h = (stands _ _ 45 (sym c.requires.1 ∙ c.if-negative.true)).0 in search rules

pub returns-then-negative : goal.returns-then-negative
returns-then-negative c =
    let a = c.args in
    rw c.if-negative.true (minus_here a.s.now a.at (sym c.requires.1 ∙ c.if-negative.true) c.skip_spaces.ensures)

pub returns : goal.returns
returns c =
    let a = c.args in
    rw c.if-negative.false (minus_not a.s.now a.at c.requires.0 (sym c.requires.1 ∙ c.if-negative.false))
