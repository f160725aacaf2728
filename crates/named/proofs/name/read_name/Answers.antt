-- `named::name::read_name` meets its contract: no letter, or a name, its number, and the white space behind it. No loop. Assumes nothing.
use mathlib.Core.Path.{◌≡◌, sym, ◌∙◌}
use mathlib.Core.Bool.{true}
use borrow.Author.Rules.{rules}
use Rattle.paper.specs.Published.{is_letter}
use Rattle.named.specs.Reads.{is_at}
use Rattle.named.proofs.Tokens.{is_here}
use Rattle.named.proofs.Factors.{no_name, name_read}
use Rattle.named.proofs.name.read_name.Goals as goal
use Rattle.named.proofs.name.read_name.Goals.{Else-not-letter_at}

pub returns-then-not-letter_at-clause-read : goal.returns-then-not-letter_at-clause-read
returns-then-not-letter_at-clause-read c = let a = c.args in no_name a.s.now a.at (search rules) (sym c.letter_at.ensures ∙ c.if-not-letter_at.true)

-- a letter stands at at
here : (c : Else-not-letter_at) → is_at is_letter c.args.s.now c.args.at ≡ true
here c = sym c.letter_at.ensures ∙ c.if-not-letter_at.false

pub returns-clause-read : goal.returns-clause-read
returns-clause-read c =
    let a = c.args in
    name_read a.s.now a.at a.names.now c.number.new.self c.name_end-e.result c.skip_spaces.result c.number.result c.number.ensures.numbered
    (here (goal.at.returns-clause-read c).Else-not-letter_at) c.name_end-e.ensures c.skip_spaces.ensures

pub name_end-e-requires : goal.name_end-e-requires
name_end-e-requires c = let h = (is_here is_letter _ _ (here (goal.at.name_end-e-requires c).Else-not-letter_at)).0 in search rules
