use mathlib.Core.Path.{refl, ap}
use Prim.Native.Nat.{◌<◌}
use native.Mathlib.Omega.{arith}
use Rattle.limits.specs.Refusals.{outcome}
use Rattle.steps.proofs.Calling.{room_kept}
use Rattle.triple.proofs.Telling.{asks}
use Rattle.triple.proofs.Underway.{at_piece, items_first, items_next, items_end, onward_room, onward_next, onward_refused, onward_end, judging_on, judging_off}
use Rattle.triple.proofs.course.judge_text.Goals as goal
use Rattle.triple.proofs.course.judge_text.Goals.{After-kind_behind-next}

pub judge-requires : goal.judge-requires
judge-requires c =
    let r = c.read_statement-read.ensures.read in
    (room_kept r.kept.same (onward_room c.loop-at.invariant.0 (omega arith)), asks r)

pub returns-in-Err : goal.returns-in-Err
returns-in-Err c =
    let i = c.loop-at.invariant in
    judging_off refl
    (onward_refused i.0 (items_first c.loop-at.next c.loop-at-test.true i.1 c.find_byte-e.ensures) c.read_statement-read.ensures.read c.judge.ensures.judged c.judge.ensures.unread c.read_statement-read.ensures.plain
    c.in-Err.is (omega arith))

-- the next place is behind the one before
onto : (d : After-kind_behind-next) → d.loop-at.at < d.begin_at-at-in-loop-at.result
onto d = d.begin_at-at-in-loop-at.ensures.onward d.loop-at.at (omega arith) d.loop-at-test.true

pub loop-at-smaller : goal.loop-at-smaller
loop-at-smaller c =
    let o = onto (goal.at.loop-at-smaller c).After-kind_behind-next in
    omega arith

pub loop-at-preserved : goal.loop-at-preserved
loop-at-preserved c =
    let i = c.loop-at.invariant in
    let b = c.begin_at-at-in-loop-at.ensures in
    let o = onto (goal.at.loop-at-preserved c).After-kind_behind-next in (
      onward_next i.0 (items_next c.loop-at.next c.loop-at-test.true i.1 c.find_byte-e.ensures b c.kind_behind-next.ensures) c.read_statement-read.ensures.read c.judge.ensures.judged c.judge.ensures.unread
          c.read_statement-read.ensures.plain (ap outcome c.in_default.is) (omega arith),
      at_piece b,
    )

pub returns : goal.returns
returns c = judging_on (onward_end c.loop-at.invariant.0 (items_end c.args.text.now c.loop-at.next c.loop-at.at c.loop-at-test.false) (omega arith))
