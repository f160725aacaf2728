-- `table::Table::push` meets its contract: the polynomial is the last of the columns. No loop. Assumes nothing.
use mathlib.Core.Path.{refl}
use borrow.Author.Rules.{rules}
use Rattle.table.proofs.Pushing.{pushed}
use Rattle.table.proofs.Table.push.Goals as goal

pub returns-clause-store : goal.returns-clause-store
returns-clause-store c =
    let r = c.requires in
    λ p. pushed c.args.self.now _ c.args.index c.args.count p r.few r.short (search rules) (search rules) (search rules)
    (record { indices = refl; starts = refl; counts = refl; stored = refl; used = refl })
