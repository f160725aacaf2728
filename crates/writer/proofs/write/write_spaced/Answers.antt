-- `writer::write::write_spaced` meets its contract: a space, and the term behind it. No loop.
-- Assumes nothing.
use mathlib.Core.Path.{◌∙◌}
use native.Mathlib.Omega.{arith}
use lib.ListN.{length-set}
use Rattle.writer.proofs.Written.{wrote_byte, wrote_both}
use Rattle.writer.proofs.write.write_spaced.Goals as goal

pub shape_of-out : goal.shape_of-out
shape_of-out c = c.write_term.auto.out ∙ simp length-set

pub returns : goal.returns
returns c =
    let a = c.args in
    wrote_both (omega arith) (wrote_byte a.out.now a.at 32 (omega arith)) c.write_term.ensures
