-- The answer names no line behind the last, so its number fits a word.
use Rattle.lpac_host.proofs.Hosting.{host_bounded, same_bounds}
use Rattle.lpac_host.proofs.lpac_verdict.Goals as goal

pub host_number-requires : goal.host_number-requires
host_number-requires c = same_bounds c.host_answer.ensures (host_bounded _)
