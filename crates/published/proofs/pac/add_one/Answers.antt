-- `published::pac::add_one` meets its contract: the factor 1 is put, and its pair added. No loop. Assumes nothing.
use mathlib.Core.Bool.{false}
use native.Mathlib.Omega.{arith}
use Rattle.ground.proofs.Tests.{or_none_left}
use Rattle.paper.specs.Statement.{renamed_field, renamed_pair}
use Rattle.paper.specs.Published.{one}
use Rattle.scratch.specs.Scratch.{factor_at, goal_at}
use Rattle.scratch.proofs.Keeping.{kept_trans, kept_factor}
use Rattle.sums.proofs.Summing.{summed_kept}
use Rattle.published.proofs.pac.add_one.Goals as goal

pub with-requires : goal.with-requires
with-requires c = (
  omega (arith, c.requires.0, c.put_one.ensures.kept.same),
  λ a d.
      let x = c.requires.1 a (or_none_left c.args.so_far.bad false d) in
      ((_, c.put_one.ensures.holds (λ n. 0)), (x.0, summed_kept factor_at goal_at c.put_one.ensures.kept (omega arith) x.1)),
)

pub returns : goal.returns
unfolding renamed_pair
returns c = record {
  behind = c.with.ensures.behind;
  summed = λ a b f qs u. c.with.ensures.summed a b (renamed_field f one) (c.put_one.ensures.holds f) qs (summed_kept factor_at goal_at c.put_one.ensures.kept (omega arith) u);
  kept = kept_trans (kept_factor _ _ c.put_one.ensures.kept) c.with.ensures.kept;
}
