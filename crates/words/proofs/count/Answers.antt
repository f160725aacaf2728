-- `words::count` meets its contract: the ones of the words, which no word has more than 64 of. Assumes nothing.
use Rattle.std.proofs.Common.{◌∙◌, arith, rules}
use Rattle.std.proofs.lemmas.Iterator.{YieldsList-from_slice, YieldsList-from_map}
use Rattle.std.proofs.lemmas.Iterator.Consumers.{sum_by_from_yields_List, fits_by_from_yields_list}
use lib.Count.{ones}
use Rattle.limits.specs.Limits.{variables}
use Rattle.words.proofs.WordByWord.{ones_fit, ones_members}
use Rattle.words.proofs.count.Goals as goal

pub sum-requires-clause-fits : goal.sum-requires-clause-fits
sum-requires-clause-fits c =
    fits_by_from_yields_list ones c.args.a c.map.result _
    (YieldsList-from_map _ ones (YieldsList-from_slice c.args.a cc) (search rules) (λ x r q k. search rules))
    (omega (arith, ones_fit c.args.a (λ i. search rules)))

pub returns : goal.returns
returns c =
    sum_by_from_yields_List ones c.args.a c.map.result c.sum.result c.sum.ensures.ran
    (YieldsList-from_map _ ones (YieldsList-from_slice c.args.a cc) (search rules) (λ x r q k. search rules))
    ∙ ones_members c.args.a variables 0 (λ i. search rules) (search rules)
