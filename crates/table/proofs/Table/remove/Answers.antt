-- `table::Table::remove` meets its contract: the columns and the pool are closed over the polynomial. No loop. Assumes nothing.
use Rattle.table.proofs.Forgetting.{removed, forgotten}
use Rattle.table.proofs.Table.remove.Goals as goal

pub returns-clause-store : goal.returns-clause-store
returns-clause-store c =
    λ p. forgotten c.args.self.now _ c.args.pool.now _ c.args.j p c.requires.starts.inside c.requires.words
    (removed c.requires.starts.inside c.close_gap.ensures.by_index c.close_gap-2.ensures.by_index c.lower.ensures c.close_gap-3.ensures.by_index
    c.close_gap-4.ensures.moved)
