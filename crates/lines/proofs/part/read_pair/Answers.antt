-- `lines::part::read_pair` meets its contract: an index and a factor in a row. No loop. Assumes nothing.
use Rattle.words.proofs.Parts.{within_refl}
use Rattle.paper.specs.Grammar.{decimal, field, pair}
use Rattle.reader.proofs.Following.{fails_first, fails_then}
use Rattle.lines.proofs.Parts.{stops_on}
use Rattle.lines.proofs.Regions.{pair_took}
use Rattle.lines.proofs.part.read_pair.Goals as goal

pub returns-in_err-i : goal.returns-in_err-i
unfolding pair
returns-in_err-i c = record { part = stops_on _ (fails_first decimal _ c.in_err-i.ensures) c.from_residual.result c.from_residual.ensures.1; kept = within_refl }

pub returns-in_err-f : goal.returns-in_err-f
unfolding pair
returns-in_err-f c = record {
  part = stops_on _ (fails_then decimal _ c.in_ok-i.ensures.taken (fails_first field _ c.in_err-f.ensures.part)) c.from_residual-in_err-f.result c.from_residual-in_err-f.ensures.1;
  kept = c.tab_field.ensures.kept;
}

pub returns : goal.returns
returns c = record {
  part = pair_took c.in_ok-i.i c.in_ok-i.ensures c.in_ok-f.f c.in_ok-f.ensures.part c.lesser.result c.lesser.ensures;
  kept = c.tab_field.ensures.kept;
}
