-- `words::with` meets its contract: digit v % 64 of word v / 64 weighs 2 ^ v. No loop.
-- Assumes nothing.
use Rattle.std.proofs.Common.{rules}
use Rattle.words.proofs.WordByWord.{number_with}
use Rattle.words.proofs.with.Goals as goal

pub returns : goal.returns
returns c = number_with c.args.a c.args.v (λ i. search rules) (search rules)
