-- The answer names no statement behind the last, so its number fits a word.
use Rattle.lpac_host.proofs.Hosting.{published_host_bounded, same_bounds}
use Rattle.lpac_host.proofs.lpac_published_verdict.Goals as goal

pub host_number-requires : goal.host_number-requires
host_number-requires c = same_bounds c.published_answer.ensures (published_host_bounded _ _)
