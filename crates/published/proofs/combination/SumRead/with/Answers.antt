-- `published::combination::SumRead::with` meets its contract: the pair is added, or nothing is. No loop. Assumes nothing.
use mathlib.Core.Path.{sym, ◌∙◌}
use borrow.Author.Tests.{eqb-true, not-true}
use Rattle.ground.proofs.Tests.{and_left, and_right}
use Rattle.published.proofs.combination.SumRead.with.Goals as goal

pub add_factor-sum-requires : goal.add_factor-sum-requires
add_factor-sum-requires c =
    let h = c.if-why-bad.true in
    let x = c.requires.1 (sym c.lesser-why.ensures ∙ eqb-true _ _ (and_left _ _ h)) (not-true _ (and_right _ _ h)) in
    (c.requires.0, x.0, x.1)
