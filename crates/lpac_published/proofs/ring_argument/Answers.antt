-- A decimal up to the word's end, or not; that there is none needs no answer here.
use Rattle.lpac_published.proofs.RingArguments.{ring_whole, ring_not}
use Rattle.lpac_published.proofs.ring_argument.Goals as goal

pub returns-then-n-word : goal.returns-then-n-word
returns-then-n-word c = ring_whole c.args.word.now c.in-Ok.n c.in-Ok.ensures c.unwrap_or.result c.unwrap_or.ensures c.if-n-word.true

pub returns-else-n-word : goal.returns-else-n-word
returns-else-n-word c = ring_not c.args.word.now c.in-Ok.n c.in-Ok.ensures c.if-n-word.false
