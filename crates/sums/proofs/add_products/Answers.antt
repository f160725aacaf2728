-- `sums::add_products` meets its contract: too many products are not made, and others stand behind the terms before them. No loop.
-- Assumes nothing.
use Prim.Native.Nat.{◌+◌, ◌-◌, ◌*◌, ◌≤◌}
use native.Mathlib.Omega.{arith}
use lib.ListN.{length, get_or}
use borrow.Author.Rules.{rules}
use Rattle.limits.specs.Limits.{term_words}
use Rattle.words.proofs.Parts.{length_part}
use Rattle.table.proofs.Laws.{holds_words}
use Rattle.sums.proofs.Adding.{extended_over, extended_all}
use Rattle.sums.proofs.add_products.Goals as goal
use Rattle.sums.proofs.add_products.Goals.{Start}

-- the words of the polynomial are in the pool
inside : (c : Start)
    → let d = c.args.stored.now in
    get_or d.starts.now c.args.j 0 * term_words + get_or d.counts.now c.args.j 0 * term_words ≤ length d.pool.now
inside c =
    let d = c.args.stored.now in
    holds_words d.starts.now d.counts.now d.pool.now d.polynomials c.args.j d.holds c.requires.0

pub returns-then-terms-gt-LINE_PRODUCTS : goal.returns-then-terms-gt-LINE_PRODUCTS
returns-then-terms-gt-LINE_PRODUCTS c =
    let a = c.args in
    let d = a.stored.now in
    extended_over a.factor (get_or d.counts.now a.j 0) (get_or d.starts.now a.j 0 * term_words) a.sum d.pool.now a.scratch.now c.if-terms-gt-LINE_PRODUCTS.true

pub slice_bounds-append_products-count : goal.slice_bounds-append_products-count
slice_bounds-append_products-count c = let e = inside (goal.at.slice_bounds-append_products-count c).Start in search rules

pub slice_bounds-append_products-start : goal.slice_bounds-append_products-start
slice_bounds-append_products-start c = let e = inside (goal.at.slice_bounds-append_products-start c).Start in search rules

pub append_products-requires : goal.append_products-requires
append_products-requires c =
    let d = c.args.stored.now in
    let at = get_or d.starts.now c.args.j 0 * term_words in
    let e = inside (goal.at.append_products-requires c).Start in
    let split = c.split_at_mut-front.ensures in
    (omega (arith, split.front_len), omega (arith, split.back_len), omega (arith, length_part at (length d.pool.now - at) d.pool.now (omega arith)))

pub returns : goal.returns
returns c =
    let a = c.args in
    let d = a.stored.now in
    let split = c.split_at_mut-front.ensures in
    extended_all a.factor (get_or d.counts.now a.j 0) (get_or d.starts.now a.j 0 * term_words) a.sum d.pool.now a.scratch.now _ _ _ c.union.result
    c.requires.1 split.value split.front_len split.back (inside (goal.at.returns c).Start) c.if-terms-gt-LINE_PRODUCTS.false c.append_products.ensures c.union.ensures
