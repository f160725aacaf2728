-- `published::pairs::read_polynomial` meets its contract: a polynomial read into its region. No loop. Assumes nothing.
use Rattle.published.proofs.Regions.{poly_placed}
use Rattle.published.proofs.pairs.read_polynomial.Goals as goal

pub returns-clause-read : goal.returns-clause-read
returns-clause-read c =
    let a = c.args in
    poly_placed a.names.now c.read_poly.new.names a.s.now a.at a.base a.scratch.now c.read_poly.new.out c.requires.1 c.read_poly.result c.read_poly.ensures.read
