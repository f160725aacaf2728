-- `table::Table::new` meets its contract: no entries and no terms. Assumes nothing.
use borrow.Author.Rules.{rules}
use Rattle.table.specs.Table.{firsts, terms_before}
use Rattle.table.proofs.Table.new.Goals as goal

pub returns : goal.returns
unfolding firsts terms_before
returns c = search rules
