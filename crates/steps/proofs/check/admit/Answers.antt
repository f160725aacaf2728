-- `steps::check::admit` meets its contract: the phase first, then the search for the index. Assumes nothing.
use Rattle.paper.specs.Rules.{stored}
use Rattle.table.specs.Table.{store_of}
use Rattle.table.proofs.Laws.{found_at, found_nothing}
use Rattle.steps.proofs.Admitting.{admit_misplaced, admit_taken, admit_free}
use Rattle.steps.proofs.check.admit.Goals as goal

pub returns-then-phase-place : goal.returns-then-phase-place
returns-then-phase-place c =
    let a = c.args in
    λ pool. admit_misplaced a.place a.phase (stored (store_of a.table.now pool) a.index) c.if-phase-place.true

pub returns-in-Some : goal.returns-in-Some
returns-in-Some c =
    let a = c.args in
    let t = a.table.now in
    λ pool. admit_taken t.indices t.starts t.counts pool t.stored a.index a.place a.phase c.if-phase-place.false (found_at c.in-Some.is c.find.ensures)

pub returns-in-None : goal.returns-in-None
returns-in-None c =
    let a = c.args in
    let t = a.table.now in
    λ pool. admit_free t.indices t.starts t.counts pool t.stored a.index a.place a.phase c.if-phase-place.false (found_nothing c.in-None.is c.find.ensures)
