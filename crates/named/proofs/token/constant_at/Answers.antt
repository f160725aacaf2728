-- `named::token::constant_at` meets its contract: digits and the white space behind them, whether they are in range or not. No loop. Assumes nothing.
use Rattle.reader.proofs.Following.{same_err}
use Rattle.named.proofs.Tokens.{constant_ranged, constant_fails}
use Rattle.named.proofs.token.constant_at.Goals as goal

pub returns-in_err-n : goal.returns-in_err-n
returns-in_err-n c =
    let a = c.args in
    rw (same_err c.from_residual.result c.from_residual.ensures.1) (constant_fails a.low a.high a.s.now a.at c.in_err-n.ensures)

pub returns : goal.returns
returns c =
    let a = c.args in
    constant_ranged a.low a.high a.s.now a.at c.in_ok-n.n.value c.in_ok-n.ensures c.skip_spaces.ensures
