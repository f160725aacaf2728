use mathlib.Core.Path.{◌≡◌, sym, ◌∙◌}
use mathlib.Core.Bool.{true}
use native.Mathlib.Omega.{arith}
use Rattle.reader.specs.Fields.{stands_at}
use Rattle.reader.proofs.Fields.{stands}
use Rattle.scratch.proofs.Keeping.{kept_refl, kept_trans, kept_factor}
use Rattle.lines.proofs.Parts.{stops_on}
use Rattle.lines.proofs.Walking.{pairs_untabbed, pairs_none, pairs_stuck, pairs_turned, pairs_ask, pairs_more, pairs_took}
use Rattle.lines.proofs.pairs.read_pairs.Goals as goal
use Rattle.lines.proofs.pairs.read_pairs.Goals.{Else-not-stands_at, In-loop-scratch}

-- a tab stands before the first pair, and before that of a turn
first_tab : (c : Else-not-stands_at) → let a = c.args in stands_at a.s.now a.at 9 ≡ true
first_tab c = sym c.stands_at.ensures ∙ c.if-not-stands_at.false

turn_tab : (c : In-loop-scratch) → stands_at c.args.s.now c.loop-scratch.i 9 ≡ true
turn_tab c = sym c.stands_at-in-loop-scratch.ensures ∙ c.loop-scratch-test.true

pub returns-then-not-stands_at : goal.returns-then-not-stands_at
returns-then-not-stands_at c = record { part = pairs_untabbed c.args.s.now c.args.at c.requires.0 (sym c.stands_at.ensures ∙ c.if-not-stands_at.true); kept = kept_refl }

pub loop-scratch-init : goal.loop-scratch-init
loop-scratch-init c = (pairs_none c.args.s.now c.args.at c.requires.0 (c.none.ensures _ _ _), kept_refl)

pub read_pair-requires : goal.read_pair-requires
read_pair-requires c =
    (omega (arith, stands c.args.s.now c.loop-scratch.i 9 (turn_tab (goal.at.read_pair-requires c).In-loop-scratch)), omega (arith, c.requires.1, c.loop-scratch.invariant.1.same))

pub returns-in_err-q : goal.returns-in_err-q
returns-in_err-q c =
    let a = goal.at.returns-in_err-q c in
    record {
      part = stops_on _ (pairs_stuck c.loop-scratch.invariant.0 (turn_tab a.In-loop-scratch) (first_tab a.Else-not-stands_at) c.in_err-q.ensures.part) c.from_residual.result c.from_residual.ensures.1;
      kept = kept_trans c.loop-scratch.invariant.1 (kept_factor _ _ c.read_pair.ensures.kept);
    }

pub add_factor-sum-requires : goal.add_factor-sum-requires
add_factor-sum-requires c =
    let x = pairs_ask c.loop-scratch.invariant.0 (turn_tab (goal.at.add_factor-sum-requires c).In-loop-scratch) c.in_ok-q.q c.in_ok-q.ensures.part c.lesser-why.ensures c.if-why-eq-ACCEPTED.true c.read_pair.ensures.kept in
    (omega (arith, c.requires.1, c.loop-scratch.invariant.1.same, c.read_pair.ensures.kept.same), x.0, x.1)

pub loop-scratch-preserved-then-why-eq-ACCEPTED : goal.loop-scratch-preserved-then-why-eq-ACCEPTED
loop-scratch-preserved-then-why-eq-ACCEPTED c = (
  pairs_more c.loop-scratch.invariant.0 (turn_tab (goal.at.loop-scratch-preserved-then-why-eq-ACCEPTED c).In-loop-scratch) c.in_ok-q.q c.in_ok-q.ensures.part c.lesser-why.ensures c.if-why-eq-ACCEPTED.true
      c.read_pair.ensures.kept c.add_factor-sum.ensures.summed,
  kept_trans c.loop-scratch.invariant.1 (kept_trans (kept_factor _ _ c.read_pair.ensures.kept) c.add_factor-sum.ensures.kept),
)

pub loop-scratch-preserved : goal.loop-scratch-preserved
loop-scratch-preserved c = (
  pairs_turned c.loop-scratch.invariant.0 (turn_tab (goal.at.loop-scratch-preserved c).In-loop-scratch) c.in_ok-q.q c.in_ok-q.ensures.part c.lesser-why.ensures c.if-why-eq-ACCEPTED.false,
  kept_trans c.loop-scratch.invariant.1 (kept_factor _ _ c.read_pair.ensures.kept),
)

pub returns : goal.returns
returns c = record {
  part = pairs_took c.loop-scratch.invariant.0 (first_tab (goal.at.returns c).Else-not-stands_at) (sym c.stands_at-in-loop-scratch.ensures ∙ c.loop-scratch-test.false);
  kept = c.loop-scratch.invariant.1;
}
