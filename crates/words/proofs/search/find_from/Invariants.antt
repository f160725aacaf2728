-- `words::search::find_from` meets its contract. The loop's invariant: none of the elements from at up to i is x. Assumes nothing.
use Rattle.words.specs.Search.{Passed}
use Rattle.words.proofs.search.find_from.Given as goal

abbrev pub invariant-loop-i : goal.invariant-loop-i
invariant-loop-i g l = Passed g.T.PartialEq.eq l.s l.at l.x l.i
