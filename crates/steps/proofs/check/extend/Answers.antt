-- `steps::check::extend` meets its contract: the tests of an ext line in their order, then -v + p. Assumes nothing.
use Prim.Native.Nat.{◌*◌, ◌≤◌}
use native.Mathlib.Omega.{arith}
use native.Mathlib.Nat.{mul-le-mul}
use Rattle.limits.specs.Limits.{field_terms}
use Rattle.scratch.proofs.Squares.{side}
use Rattle.steps.proofs.Checking.{extends_seen, extends_many, extends_no_bit, extends_all}
use Rattle.steps.proofs.check.extend.Goals as goal
use Rattle.steps.proofs.check.extend.Goals.{After-reduce_field-p}

few : (c : After-reduce_field-p) → c.reduce_field-p.result.terms ≤ field_terms
few c = (c.reduce_field-p.ensures c.requires.0.0 c.requires.0.1).at.few

-- the products fit a word
square : (c : After-reduce_field-p) → c.reduce_field-p.result.terms * c.reduce_field-p.result.terms ≤ 9216
square c = omega (arith, mul-le-mul (few c) (few c))

pub returns-then-has : goal.returns-then-has
returns-then-has c =
    let a = c.args in
    λ p h. extends_seen a.ring.k a.v a.seen (c.reduce_field-p.ensures p h) c.union-all.result c.has.result c.union-all.ensures c.has.ensures c.if-has.true

pub overflow_mul-products : goal.overflow_mul-products
overflow_mul-products c = omega (arith, square (goal.at.overflow_mul-products c).After-reduce_field-p)

pub returns-then-products-gt-LINE_PRODUCTS : goal.returns-then-products-gt-LINE_PRODUCTS
returns-then-products-gt-LINE_PRODUCTS c =
    let a = c.args in
    λ p h. extends_many a.ring.k a.v a.seen (c.reduce_field-p.ensures p h) c.union-all.result c.has.result c.union-all.ensures c.has.ensures c.if-has.false c.if-products-gt-LINE_PRODUCTS.true

pub returns-then-not-is_bit : goal.returns-then-not-is_bit
returns-then-not-is_bit c =
    let a = c.args in
    λ p h. extends_no_bit a.ring.k a.v a.seen (c.reduce_field-p.ensures p h) c.union-all.result c.has.result c.union-all.ensures c.has.ensures c.if-has.false c.if-products-gt-LINE_PRODUCTS.false
    c.is_bit.new.scratch c.is_bit.ensures.within c.is_bit.ensures.equals c.if-not-is_bit.true

pub define-requires : goal.define-requires
define-requires c =
    (omega (arith, side c.reduce_field-p.result.terms c.if-products-gt-LINE_PRODUCTS.false), c.requires.1, omega (arith, c.requires.2, (c.reduce_field-p.ensures c.requires.0.0 c.requires.0.1).at.within.same, c.is_bit.ensures.within.same))

pub returns : goal.returns
returns c =
    let a = c.args in
    λ p h. extends_all a.ring.k a.v a.seen (c.reduce_field-p.ensures p h) c.union-all.result c.has.result c.union-all.ensures c.has.ensures c.if-has.false c.if-products-gt-LINE_PRODUCTS.false
    c.is_bit.new.scratch c.is_bit.ensures.within c.is_bit.ensures.equals c.if-not-is_bit.false c.define.new.scratch c.with.result c.define.result c.define.ensures c.with.ensures
