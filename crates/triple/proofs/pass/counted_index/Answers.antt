-- `triple::pass::counted_index` meets its contract: by the verdict. No loop. Assumes nothing.
use mathlib.Core.Path.{sym}
use lib.Dec.{leb}
use borrow.Author.Tests.{le-leb, lt-leb}
use Rattle.ground.proofs.Tests.{cond_yes, cond_no}
use Rattle.triple.proofs.pass.counted_index.Goals as goal

pub returns-then-verdict-ge-TERMS : goal.returns-then-verdict-ge-TERMS
returns-then-verdict-ge-TERMS c = let a = c.args in sym (cond_yes (leb 6 a.verdict) a.index 0 (le-leb 6 a.verdict c.if-verdict-ge-TERMS.true))

pub returns : goal.returns
returns c = let a = c.args in sym (cond_no (leb 6 a.verdict) a.index 0 (lt-leb 6 a.verdict c.if-verdict-ge-TERMS.false))
