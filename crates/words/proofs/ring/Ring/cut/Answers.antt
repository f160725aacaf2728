-- `Ring::cut` meets its contract: the mask is k digits of 1. No loop.
-- Assumes nothing.
use Rattle.std.proofs.Common.{arith}
use Rattle.words.proofs.Wrap.{and_ones}
use Rattle.words.proofs.ring.Ring.cut.Goals as goal

pub returns : goal.returns
returns c = and_ones c.args.self.k (let r = c.args.self.in_range in omega (arith, r.0, r.1)) c.args.c
