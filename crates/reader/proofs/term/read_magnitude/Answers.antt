-- `reader::term::read_magnitude` meets its contract: a sign, and behind it a number in its range or out of it. No loop. Assumes nothing.
use mathlib.Core.Path.{◌≡◌, ap, ◌∙◌}
use mathlib.Core.Bool.{cond}
use Prim.Native.Nat.{ℕ, ◌+◌}
use native.Mathlib.Omega.{arith}
use borrow.Author.Rules.{rules}
use Rattle.paper.specs.Grammar.{decimal, sign}
use Rattle.reader.specs.Places.{Got}
use Rattle.reader.proofs.Following.{same_err}
use Rattle.reader.proofs.Numbers.{number_some, number_none}
use Rattle.reader.proofs.Fields.{sign_at, sign_byte, magnitude_fine, magnitude_outside, magnitude_stuck}
use Rattle.reader.proofs.term.read_magnitude.Goals as goal
use Rattle.reader.proofs.term.read_magnitude.Goals.{After-from}

-- the sign
signed : (c : After-from) → Got sign c.args.s.now c.args.at c.stands_at-negative.result (c.args.at + cond c.stands_at-negative.result 1 0)
signed c = let a = c.args in sign_at a.s.now a.at c.stands_at-negative.result (search rules) c.stands_at-negative.ensures

-- the place behind it
behind : (c : After-from) → c.args.at + c.from.result ≡ c.args.at + cond c.stands_at-negative.result 1 0
behind c = ap (λ (n : ℕ). c.args.at + n) (c.from.ensures ∙ sign_byte c.stands_at-negative.result)

pub number_at-requires : goal.number_at-requires
number_at-requires c = let a = (goal.at.number_at-requires c).After-from in omega (arith, behind a, (signed a).inside)

pub returns-in_err-n : goal.returns-in_err-n
returns-in_err-n c =
    let a = (goal.at.returns-in_err-n c).After-from in
    rw (same_err c.from_residual.result c.from_residual.ensures.1)
    (magnitude_stuck c.args.greatest c.args.s.now c.args.at _ c.stands_at-negative.result (behind a) (signed a) c.in_err-n.ensures)

pub returns-in_default : goal.returns-in_default
returns-in_default c =
    let a = (goal.at.returns-in_default c).After-from in
    magnitude_outside c.args.greatest c.args.s.now c.args.at _ c.stands_at-negative.result (behind a) (signed a)
    (number_none decimal 1 c.args.greatest c.args.s.now _ c.in_ok-n.ensures (c.in_default.is))

pub returns : goal.returns
returns c =
    let a = (goal.at.returns c).After-from in
    magnitude_fine c.args.greatest c.args.s.now c.args.at _ c.stands_at-negative.result (behind a) (signed a) c.signed.result
    (number_some decimal 1 c.args.greatest c.args.s.now _ c.in_ok-n.ensures c.in-Some.is) c.signed.ensures
