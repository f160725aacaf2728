-- `lines::index::refused_index` meets its contract: the index counts from TERMS on. No loop. Assumes nothing.
use Rattle.lines.proofs.Indexing.{reported}
use Rattle.lines.proofs.index.refused_index.Goals as goal

pub returns : goal.returns
returns c =
    reported c.args.s.now c.args.ended c.args.v c.index_of.result c.if-v-lt-TERMS.false (c.requires c.if-v-lt-TERMS.false) c.index_of.ensures
