use mathlib.Core.Path.{◌≡◌, sym, ◌∙◌}
use mathlib.Core.Bool.{true}
use native.Mathlib.Omega.{arith}
use Rattle.scratch.proofs.Keeping.{kept_trans}
use Rattle.reader.specs.Fields.{stands_at}
use Rattle.reader.proofs.Fields.{stands}
use Rattle.reader.proofs.Following.{same_err}
use Rattle.published.proofs.Summing.{summands_unread, summands_first, summands_stuck, summands_more, summands_took}
use Rattle.published.proofs.combination.read_sum.Goals as goal
use Rattle.published.proofs.combination.read_sum.Goals.{In-loop-next}

-- a + stands there
here : (c : In-loop-next) → stands_at c.args.s.now c.loop-next.r.end 43 ≡ true
here c = sym c.stands_at.ensures ∙ c.loop-next-test.true

pub add_summand-requires : goal.add_summand-requires
add_summand-requires c = (c.requires.0, c.requires.1, λ a d. (_, c.none.ensures.summed _ _ _))

pub returns-in_err-r-clause-read : goal.returns-in_err-r-clause-read
returns-in_err-r-clause-read c =
    rw (same_err c.from_residual.result c.from_residual.ensures.1) (record { said = summands_unread c.in_err-r.ensures.read.said; kept = c.in_err-r.ensures.read.kept })

pub loop-next-init : goal.loop-next-init
loop-next-init c = record { summed = summands_first c.none.ensures c.in_ok-r.ensures.read.said; kept = c.in_ok-r.ensures.read.kept; plain = c.in_ok-r.ensures.plain; lent = c.in_ok-r.ensures.lent }

pub skip_spaces-next-requires : goal.skip_spaces-next-requires
skip_spaces-next-requires c = omega (arith, (stands _ _ _ (here (goal.at.skip_spaces-next-requires c).In-loop-next)).0)

pub add_summand-requires-in-loop-next : goal.add_summand-requires-in-loop-next
add_summand-requires-in-loop-next c =
    (c.skip_spaces-next.ensures.inside, omega (arith, c.requires.1, c.loop-next.invariant.kept.same), λ a d. (_, c.loop-next.invariant.summed.more.holds.holds a d))

pub returns-in_err-r-2-clause-read : goal.returns-in_err-r-2-clause-read
returns-in_err-r-2-clause-read c =
    rw (same_err c.from_residual-in_err-r-2.result c.from_residual-in_err-r-2.ensures.1)
    (record {
      said = summands_stuck c.loop-next.invariant.summed (here (goal.at.returns-in_err-r-2-clause-read c).In-loop-next) c.skip_spaces-next.ensures c.in_err-r-2.ensures.read.said;
      kept = kept_trans c.loop-next.invariant.kept c.in_err-r-2.ensures.read.kept;
    })

pub loop-next-preserved : goal.loop-next-preserved
loop-next-preserved c = record {
  summed = summands_more c.loop-next.invariant.summed (here (goal.at.loop-next-preserved c).In-loop-next) c.skip_spaces-next.ensures c.in_ok-r-2.ensures.read.said;
  kept = kept_trans c.loop-next.invariant.kept c.in_ok-r-2.ensures.read.kept;
  plain = c.in_ok-r-2.ensures.plain ∙ c.loop-next.invariant.plain;
  lent = (c.in_ok-r-2.ensures.lent.0 ∙ c.loop-next.invariant.lent.0, c.in_ok-r-2.ensures.lent.1 ∙ c.loop-next.invariant.lent.1);
}

pub returns-clause-read : goal.returns-clause-read
returns-clause-read c = record { said = summands_took c.loop-next.invariant.summed (sym c.stands_at.ensures ∙ c.loop-next-test.false); kept = c.loop-next.invariant.kept }
