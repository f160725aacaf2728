-- `steps::state::State::step_del` meets its contract: the entry under the index is forgotten. Assumes nothing.
use mathlib.Core.Path.{refl, ap, ◌∙◌}
use native.Mathlib.Omega.{arith}
use Rattle.std.specs.Prelude.{Err}
use Rattle.table.specs.Columns.{FirstAt}
use Rattle.table.proofs.Laws.{found_at, found_nothing}
use Rattle.table.proofs.Packing.{ends_used, closable_starts}
use Rattle.steps.proofs.Stepping.{passed_on, some_place, no_place, del_misplaced, del_missing, del_stands}
use Rattle.steps.proofs.state.State.step_del.Goals as goal
use Rattle.steps.proofs.state.State.step_del.Goals.{In_ok-j}

pub returns-then-self-ne-STEPS : goal.returns-then-self-ne-STEPS
returns-then-self-ne-STEPS c = λ capacity scratch room. del_misplaced c.if-self-ne-STEPS.true

pub returns-in_err-j : goal.returns-in_err-j
returns-in_err-j c =
    let n = no_place c.ok_or.ensures.value c.in_err-j.was in
    λ capacity scratch room. del_missing c.if-self-ne-STEPS.false (found_nothing n.0 c.find.ensures) (passed_on c.from_residual.ensures.1 ∙ ap Err n.1)

-- where the index was found
first : (c : In_ok-j) → FirstAt c.args.self.now.table.indices c.args.self.now.table.stored c.args.index c.in_ok-j.j
first c = found_at (some_place c.ok_or.ensures.value c.in_ok-j.was) c.find.ensures

pub remove-requires : goal.remove-requires
remove-requires c =
    let t = c.args.self.now.table in
    let f = c.requires.2.ready.fitting in
    let h = (first (goal.at.remove-requires c).In_ok-j).inside in
    record {
      starts = closable_starts t.starts t.counts t.stored t.used _ _ f.packed h refl;
      inside = ends_used t.starts t.counts t.stored t.used _ f.packed h;
      words = omega (arith, f.room, f.words);
    }

pub returns : goal.returns
returns c =
    λ capacity scratch room. del_stands c.remove.new.self c.remove.new.pool c.in_ok-j.j room c.if-self-ne-STEPS.false (first (goal.at.returns c).In_ok-j)
    (c.remove.ensures.store room.ready.fitting.packed)
