-- The texts are too long, or they are checked.
use Rattle.std.proofs.Common.{refl}
use Rattle.lpac_host.proofs.Hosting.{published_long, published_checked}
use Rattle.lpac_host.proofs.published_answer.Goals as goal

pub returns-then-too_long : goal.returns-then-too_long
returns-then-too_long c = published_long _ _ c.if-too_long.ensures c.unread.ensures

pub returns : goal.returns
returns c = published_checked _ _ c.if-too_long.ensures refl refl c.check.ensures
