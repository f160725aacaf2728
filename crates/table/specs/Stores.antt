-- The paper's store of what is lent.
use Rattle.paper.specs.Rules.{Store}
use Rattle.table.specs.declared.stored.Stored.{Stored}
use Rattle.table.specs.Table.{store_of_columns}

abbrev pub store_in : Stored → Store
store_in d = store_of_columns d.indices.now d.starts.now d.counts.now d.pool.now d.polynomials
