-- `lines::part::tab_field` meets its contract: no tab, or a polynomial behind one, read into its region. No loop. Assumes nothing.
use Rattle.words.proofs.Parts.{within_refl}
use Rattle.paper.specs.Grammar.{bytes, tab, field, polynomial}
use Rattle.reader.proofs.Following.{fails_first}
use Rattle.lines.proofs.Parts.{stops_on}
use Rattle.lines.proofs.Regions.{field_behind}
use Rattle.lines.proofs.part.tab_field.Goals as goal

pub returns-in_err-behind : goal.returns-in_err-behind
unfolding field tab bytes
returns-in_err-behind c = record {
  part = stops_on _ (fails_first tab (λ _. polynomial) c.in_err-behind.ensures) c.from_residual.result c.from_residual.ensures.1;
  kept = within_refl;
}

pub returns : goal.returns
unfolding tab bytes
returns c =
    field_behind c.args.s.now c.in_ok-behind.behind c.args.base c.args.scratch.now c.read_field.new.out c.requires.1 c.in_ok-behind.ensures c.read_field.result c.read_field.ensures
