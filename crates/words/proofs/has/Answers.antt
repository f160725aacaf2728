-- `words::has` meets its contract: digit v % 64 of word v / 64 is digit v of the number. No loop.
-- Assumes nothing.
use Rattle.std.proofs.Common.{rules}
use Rattle.words.proofs.WordByWord.{number_has}
use Rattle.words.proofs.has.Goals as goal

pub returns : goal.returns
returns c = number_has c.args.a c.args.v (λ i. search rules)
