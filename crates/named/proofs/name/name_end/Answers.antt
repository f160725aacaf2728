use mathlib.Core.Path.{sym, ◌∙◌}
use native.Mathlib.Omega.{arith}
use Rattle.named.proofs.Tokens.{name_more, name_over, name_all}
use Rattle.named.proofs.name.name_end.Goals as goal

pub returns-then-not-is_ascii_alphanumeric : goal.returns-then-not-is_ascii_alphanumeric
returns-then-not-is_ascii_alphanumeric c =
    let l = c.loop-i in
    let a = c.args in
    name_over a.s.now a.at l.i l.invariant (omega arith) (sym c.is_ascii_alphanumeric.ensures.value ∙ c.if-not-is_ascii_alphanumeric.true)

pub loop-i-preserved : goal.loop-i-preserved
loop-i-preserved c =
    let l = c.loop-i in
    let a = c.args in
    name_more a.s.now a.at l.i l.invariant (omega arith) (sym c.is_ascii_alphanumeric.ensures.value ∙ c.if-not-is_ascii_alphanumeric.false)

pub returns : goal.returns
returns c =
    let l = c.loop-i in
    let a = c.args in
    name_all a.s.now a.at l.i l.invariant (omega arith)
