-- `named::name::name_end` meets its contract. The loop's invariant: the bytes from at up to i are of the name, and what is left of it is read from i on.
-- Assumes nothing.
use Rattle.named.proofs.Tokens.{NameTo}
use Rattle.named.proofs.name.name_end.Given as goal

abbrev pub invariant-loop-i : goal.invariant-loop-i
invariant-loop-i l = NameTo l.s l.at l.i
