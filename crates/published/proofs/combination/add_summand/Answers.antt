-- `published::combination::add_summand` meets its contract: a summand is read, and added. No loop. Assumes nothing.
use native.Mathlib.Omega.{arith}
use Rattle.ground.proofs.Tests.{or_none_left, or_none_right}
use Rattle.reader.proofs.Following.{same_err}
use Rattle.reader.proofs.Verdicts.{lesser_accepted}
use Rattle.scratch.specs.Scratch.{factor_at, goal_at}
use Rattle.scratch.proofs.Keeping.{kept_trans, kept_factor}
use Rattle.sums.proofs.Summing.{summed_kept}
use Rattle.published.proofs.Summing.{pair_added}
use Rattle.published.proofs.combination.add_summand.Goals as goal

pub returns-in_err-q-clause-read : goal.returns-in_err-q-clause-read
returns-in_err-q-clause-read c =
    rw (same_err c.from_residual.result c.from_residual.ensures.1) (record { said = c.in_err-q.ensures.read.said; kept = kept_factor _ _ c.in_err-q.ensures.read.kept })

pub with-requires : goal.with-requires
with-requires c = (
  omega (arith, c.requires.1, c.read_summand.ensures.read.kept.same),
  λ a d.
      let z = lesser_accepted c.args.so_far.why c.in_ok-q.q.why a in
      let x = c.requires.2 z.0 (or_none_left c.args.so_far.bad c.in_ok-q.q.bad d) in (
        (_, (c.in_ok-q.ensures.read.said.holds z.1 (or_none_right c.args.so_far.bad c.in_ok-q.q.bad d)).1),
        (x.0, summed_kept factor_at goal_at c.in_ok-q.ensures.read.kept (omega arith) x.1),
      ),
)

pub returns-clause-read : goal.returns-clause-read
returns-clause-read c = record {
  said = pair_added c.in_ok-q.q c.in_ok-q.ensures.read.said c.in_ok-q.ensures.read.kept c.with.ensures.behind c.with.ensures.summed;
  kept = kept_trans (kept_factor _ _ c.in_ok-q.ensures.read.kept) c.with.ensures.kept;
}
