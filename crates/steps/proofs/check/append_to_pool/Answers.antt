-- `steps::check::append_to_pool` meets its contract: no room for a polynomial or for its terms, or the terms moved. Assumes nothing.
use mathlib.Core.Path.{ap, ◌∙◌}
use mathlib.Core.List.{List}
use Prim.Native.Nat.{ℕ, ◌*◌}
use native.Mathlib.Omega.{arith}
use lib.ListN.{length-drop}
use lib.Seq.{paste}
use Rattle.words.proofs.Parts.{part_rest}
use Rattle.limits.specs.Limits.{term_words}
use Rattle.scratch.specs.Scratch.{stated_at}
use Rattle.steps.proofs.Storing.{pool_many, pool_large, pool_takes}
use Rattle.steps.proofs.check.append_to_pool.Goals as goal

pub returns-then-table-ge-STORED_POLYNOMIALS : goal.returns-then-table-ge-STORED_POLYNOMIALS
returns-then-table-ge-STORED_POLYNOMIALS c = pool_many c.if-table-ge-STORED_POLYNOMIALS.true

pub returns-then-capacity-table : goal.returns-then-capacity-table
returns-then-capacity-table c = pool_large c.if-table-ge-STORED_POLYNOMIALS.false c.if-capacity-table.true

pub returns : goal.returns
returns c =
    let a = c.args in
    let t = a.table.now in
    pool_takes c.if-table-ge-STORED_POLYNOMIALS.false c.if-capacity-table.false (omega (arith, c.requires.2, c.if-capacity-table.false)) (omega (arith, c.requires.0, c.requires.4, length-drop stated_at a.scratch.now))
    (c.move_run.ensures ∙ ap (λ (x : List ℕ). paste a.pool.now (t.used * term_words) x (a.n * term_words)) (part_rest stated_at a.scratch.now))
