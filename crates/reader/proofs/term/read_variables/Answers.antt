use mathlib.Core.Path.{◌≡◌, sym, ◌∙◌}
use mathlib.Core.Bool.{true}
use Prim.Native.Nat.{◌+◌, ◌-◌}
use Prim.Native.Char.{code}
use borrow.Author.Rules.{rules}
use Rattle.limits.specs.Limits.{variables}
use Rattle.paper.specs.Grammar.{decimal}
use Rattle.reader.specs.Marks.{variable_marks}
use Rattle.reader.specs.Fields.{stands_at}
use Rattle.reader.proofs.Numbers.{number_some, number_none}
use Rattle.reader.proofs.Following.{same_err, passed_took}
use Rattle.reader.proofs.Fields.{stands, each_over, variables_none, variables_more, variables_out, variables_stuck}
use Rattle.reader.proofs.term.read_variables.Goals as goal
use Rattle.reader.proofs.term.read_variables.Goals.{In-loop-set}

pub loop-set-init : goal.loop-set-init
loop-set-init c = variables_none c.args.s.now c.args.at (search rules)

-- a dot stands at i
here : (c : In-loop-set) → stands_at c.args.s.now c.loop-set.i (code ".") ≡ true
here c = sym c.stands_at.ensures ∙ c.loop-set-test.true

pub number_at-requires : goal.number_at-requires
number_at-requires c = let h = (stands _ _ (code ".") (here (goal.at.number_at-requires c).In-loop-set)).0 in search rules

pub returns-in_err-n : goal.returns-in_err-n
returns-in_err-n c =
    let l = c.loop-set in
    rw (same_err c.from_residual.result c.from_residual.ensures.1)
    (variables_stuck c.args.s.now c.args.at l.i l.outside l.set l.invariant (here (goal.at.returns-in_err-n c).In-loop-set) c.in_err-n.ensures)

pub loop-set-preserved : goal.loop-set-preserved
loop-set-preserved c =
    let l = c.loop-set in
    variables_more c.args.s.now c.args.at l.i l.outside l.set l.invariant (here (goal.at.loop-set-preserved c).In-loop-set) c.with-more.result
    (number_some decimal 0 (variables - 1) c.args.s.now (l.i + 1) c.in_ok-n.ensures c.in-Some.is) c.with-more.ensures

pub loop-set-preserved-in_default : goal.loop-set-preserved-in_default
loop-set-preserved-in_default c =
    let l = c.loop-set in
    rw c.or-outside.ensures
    (variables_out c.args.s.now c.args.at l.i l.outside l.set l.invariant (here (goal.at.loop-set-preserved-in_default c).In-loop-set)
    (number_none decimal 0 (variables - 1) c.args.s.now (l.i + 1) c.in_ok-n.ensures c.in_default.is))

pub returns : goal.returns
returns c =
    let l = c.loop-set in
    let s = c.args.s.now in
    passed_took (code ".") decimal variable_marks s c.args.at l.i l.outside l.invariant
    (each_over (code ".") decimal s l.i (sym c.stands_at.ensures ∙ c.loop-set-test.false))
