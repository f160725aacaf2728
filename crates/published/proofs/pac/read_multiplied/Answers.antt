-- `published::pac::read_multiplied` meets its contract: one pair, and the sum of it alone. No loop. Assumes nothing.
use native.Mathlib.Omega.{arith}
use Rattle.ground.proofs.Tests.{or_none_right}
use Rattle.reader.proofs.Following.{same_err}
use Rattle.reader.proofs.Verdicts.{lesser_accepted}
use Rattle.scratch.proofs.Keeping.{kept_trans, kept_factor}
use Rattle.published.proofs.Summing.{pair_added, multiplied_stuck, multiplied_took}
use Rattle.published.proofs.pac.read_multiplied.Goals as goal

pub returns-in_err-q-clause-read : goal.returns-in_err-q-clause-read
returns-in_err-q-clause-read c =
    rw (same_err c.from_residual.result c.from_residual.ensures.1) (record { said = multiplied_stuck c.in_err-q.ensures.read.said; kept = kept_factor _ _ c.in_err-q.ensures.read.kept })

pub with-requires : goal.with-requires
with-requires c = (
  omega (arith, c.requires.1, c.in_ok-q.ensures.read.kept.same),
  λ a d. (
    (_, (c.in_ok-q.ensures.read.said.holds (lesser_accepted c.none.result.why c.in_ok-q.q.why a).1 (or_none_right c.none.result.bad c.in_ok-q.q.bad d)).1),
    (_, c.none.ensures.summed _ _ _),
  ),
)

pub returns-clause-read : goal.returns-clause-read
returns-clause-read c = record {
  said = multiplied_took c.none.ensures (pair_added c.in_ok-q.q c.in_ok-q.ensures.read.said c.in_ok-q.ensures.read.kept c.with.ensures.behind c.with.ensures.summed);
  kept = kept_trans (kept_factor _ _ c.in_ok-q.ensures.read.kept) c.with.ensures.kept;
}
