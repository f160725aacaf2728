-- `scratch::append_products` meets its contract. The loop's invariant: the products of the first i terms are appended. Assumes nothing.
use Rattle.scratch.proofs.Products.{ProductRows}
use Rattle.scratch.proofs.append_products.Given as goal

abbrev pub invariant-loop-i : goal.invariant-loop-i
invariant-loop-i l = ProductRows l.n l.m l.a l.b l.initial.out l.i l.out
