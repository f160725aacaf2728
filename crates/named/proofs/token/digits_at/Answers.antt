-- `named::token::digits_at` meets its contract: the digits behind a first, and a number in its range or not. No loop. Assumes nothing.
use mathlib.Core.Path.{◌≡◌, sym, ◌∙◌}
use mathlib.Core.Bool.{true}
use Prim.Native.Nat.{◌+◌, ◌-◌}
use native.Mathlib.Omega.{arith}
use lib.ListN.{get_or}
use borrow.Author.Rules.{rules}
use Rattle.paper.specs.Grammar.{is_digit, digits}
use Rattle.reader.proofs.Numbers.{value_by, ranged}
use Rattle.named.specs.Reads.{plain_digits, is_at}
use Rattle.named.proofs.Tokens.{digit_between, digits_here, digits_none}
use Rattle.named.proofs.token.digits_at.Goals as goal
use Rattle.named.proofs.token.digits_at.Goals.{Else-not-digit_at}

pub returns-then-not-digit_at : goal.returns-then-not-digit_at
returns-then-not-digit_at c = let a = c.args in digits_none a.s.now a.at (search rules) (sym c.digit_at.ensures ∙ c.if-not-digit_at.true)

-- a digit stands at at
here : (c : Else-not-digit_at) → is_at is_digit c.args.s.now c.args.at ≡ true
here c = sym c.digit_at.ensures ∙ c.if-not-digit_at.false

pub returns : goal.returns
returns c =
    let a = c.args in
    let n = c.digits_from-n.result in
    rw c.within.ensures
    (ranged plain_digits a.low a.high a.s.now a.at (omega arith) n
    (value_by plain_digits (digits (get_or a.s.now a.at 0 - 48)) a.s.now a.at (a.at + 1) n.end (digits_here a.s.now a.at (here (goal.at.returns c).Else-not-digit_at)) (omega arith) n.value c.digits_from-n.ensures))

pub bounds-s-at : goal.bounds-s-at
bounds-s-at c = let h = digit_between _ _ (here (goal.at.bounds-s-at c).Else-not-digit_at) in omega (arith, h.0)

pub overflow_sub-s : goal.overflow_sub-s
overflow_sub-s c = let h = digit_between _ _ (here (goal.at.overflow_sub-s c).Else-not-digit_at) in omega (arith, h.1)

pub digits_from-n-requires : goal.digits_from-n-requires
digits_from-n-requires c = let h = digit_between _ _ (here (goal.at.digits_from-n-requires c).Else-not-digit_at) in omega (arith, h.0)
