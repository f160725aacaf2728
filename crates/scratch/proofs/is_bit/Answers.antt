-- `scratch::is_bit` meets its contract: the square is reduced and compared with the run that it is the square of. No loop. Assumes nothing.
use native.Mathlib.Omega.{arith}
use Rattle.scratch.proofs.Squares.{side, square_equal}
use Rattle.scratch.proofs.is_bit.Goals as goal

pub is_reduced-requires : goal.is_reduced-requires
is_reduced-requires c =
    (c.requires.0, omega (arith, c.requires.0), omega (arith, side c.args.n c.requires.0, c.square.ensures.within.same))

pub returns-clause-equals : goal.returns-clause-equals
returns-clause-equals c =
    let a = c.args in
    square_equal a.ring.k a.n a.scratch.now c.square.new.scratch c.square.ensures _ a.ring.in_range.1 c.is_reduced.ensures.equals
