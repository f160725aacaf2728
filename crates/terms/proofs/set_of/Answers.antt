-- `terms::set_of` meets its contract: the words of the set come first. Assumes nothing.
use Rattle.std.proofs.Common.{ap}
use Rattle.words.specs.Words.{number_of}
use Rattle.terms.specs.Terms.{term_of}
use Rattle.terms.proofs.set_of.Goals as goal

pub returns : goal.returns
unfolding term_of
returns c = ap number_of c.copy_from_slice.ensures.after
