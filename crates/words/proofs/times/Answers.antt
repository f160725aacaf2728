-- `words::times` meets its contract: the product by halves, but for what weighs 2 ^ 64. No loop.
-- Assumes nothing.
use Rattle.std.proofs.Common.{refl}
use Rattle.words.proofs.Wrap.{halves}
use Rattle.words.proofs.times.Goals as goal

pub returns : goal.returns
returns c = let args = c.args in halves args.a args.b _ refl
