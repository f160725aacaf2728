-- `writer::sign::with_sign` meets its contract: a shift gives half of 2 ^ k, and the cut of the negative what is left to 2 ^ k. No loop.
-- Assumes nothing.
use native.Mathlib.Omega.{arith}
use borrow.Author.Rules.{rules}
use Rattle.writer.proofs.Signs.{sign_plus, sign_minus}
use Rattle.writer.proofs.sign.with_sign.Goals as goal

pub returns-then-c-half : goal.returns-then-c-half
returns-then-c-half c =
    let a = c.args in
    sign_plus a.ring.k a.c (omega arith) (omega arith) (omega arith)

pub returns : goal.returns
returns c =
    let a = c.args in
    sign_minus a.ring.k a.c (omega arith) (omega arith) c.negative.result c.cut.result (omega arith) c.negative.ensures c.cut.ensures (omega arith) (search rules)
