-- `named::token::skip_spaces` meets its contract. The loop's invariant: the white space from at on ends where that from i on does. Assumes nothing.
use mathlib.Core.Path.{◌≡◌}
use lib.ListN.{drop}
use Rattle.paper.specs.Published.{spaces}
use Rattle.named.proofs.token.skip_spaces.Given as goal

abbrev pub invariant-loop-i : goal.invariant-loop-i
invariant-loop-i l = spaces (drop l.at l.s) ≡ spaces (drop l.i l.s)
