use Prim.Native.Nat.{◌+◌, ◌-◌, ◌*◌, ◌≤◌}
use native.Mathlib.Omega.{arith}
use lib.ListN.{length, get_or}
use borrow.Author.Rules.{rules}
use Rattle.words.proofs.Parts.{length_part}
use Rattle.limits.specs.Limits.{term_words}
use Rattle.terms.proofs.Runs.{rest_run}
use Rattle.table.proofs.Packing.{ends_used}
use Rattle.scratch.proofs.Goals.{none_start, none_more, one_is, none_end}
use Rattle.scratch.proofs.is_stored.Goals as goal
use Rattle.scratch.proofs.is_stored.Goals.{In-loop-j}

-- the words of the j-th polynomial are in the pool
inside : (c : In-loop-j)
    → let a = c.args in
    get_or a.starts.now c.loop-j.j 0 * term_words + get_or a.counts.now c.loop-j.j 0 * term_words ≤ length a.pool.now
inside c =
    let a = c.args in
    let h = c.requires.0 in
    omega (arith, ends_used a.starts.now a.counts.now a.stored h.0 c.loop-j.j h.1 c.loop-j-test.true, h.2)

pub loop-j-init : goal.loop-j-init
loop-j-init c = none_start

pub slice_bounds-same_run-count : goal.slice_bounds-same_run-count
slice_bounds-same_run-count c = let e = inside (goal.at.slice_bounds-same_run-count c).In-loop-j in search rules

pub slice_bounds-same_run-start : goal.slice_bounds-same_run-start
slice_bounds-same_run-start c = let e = inside (goal.at.slice_bounds-same_run-start c).In-loop-j in search rules

pub same_run-requires : goal.same_run-requires
same_run-requires c =
    let at = get_or c.args.starts.now c.loop-j.j 0 * term_words in
    let e = inside (goal.at.same_run-requires c).In-loop-j in
    (omega (arith, length_part at (length c.args.pool.now - at) c.args.pool.now (omega arith)), omega arith)

pub returns-then-same_run : goal.returns-then-same_run
returns-then-same_run c =
    one_is (rest_run _ _ c.args.pool.now _ _ c.same_run.ensures) c.loop-j.invariant c.args.stored c.loop-j-test.true c.if-same_run.true

pub loop-j-preserved : goal.loop-j-preserved
loop-j-preserved c =
    none_more (rest_run _ _ c.args.pool.now _ _ c.same_run.ensures) c.loop-j.invariant c.if-same_run.false

pub returns : goal.returns
returns c = none_end (omega arith) c.loop-j.invariant
