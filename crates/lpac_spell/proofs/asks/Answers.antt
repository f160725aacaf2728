-- What is asked for follows from the decimal's answer and the byte behind it.
use Rattle.std.proofs.Common.{sym, ◌∙◌}
use Rattle.lpac_spell.proofs.Asking.{decimal_of, asks_not, asks_some}
use Rattle.lpac_spell.proofs.asks.Goals as goal

pub returns-then-not-stands_at : goal.returns-then-not-stands_at
returns-then-not-stands_at c =
    let s = c.args.line.now in
    let n = c.in_ok-n.n in
    asks_not s n (decimal_of s c.decimal_at.result n c.decimal_at.ensures c.in_ok-n.ensures.value) (sym c.stands_at.ensures ∙ c.if-not-stands_at.true)

pub returns : goal.returns
returns c =
    let s = c.args.line.now in
    let n = c.in_ok-n.n in
    asks_some s n (decimal_of s c.decimal_at.result n c.decimal_at.ensures c.in_ok-n.ensures.value) c.unwrap_or.result c.unwrap_or.ensures
    (sym c.stands_at.ensures ∙ c.if-not-stands_at.false)
