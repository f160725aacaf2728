-- `writer::measure::run_fits` meets its contract: no spelling takes more than the room by its ones. No loop.
-- Assumes nothing.
use mathlib.Core.Path.{sym, ap}
use Prim.Native.Nat.{ℕ}
use native.Mathlib.Omega.{arith}
use borrow.Author.Tests.{le-leb}
use lib.Dec.{leb}
use lib.ListN.{length}
use Rattle.terms.specs.Terms.{decode}
use Rattle.paper.specs.Spelling.{spell}
use Rattle.writer.proofs.Runs.{run_most}
use Rattle.writer.proofs.measure.run_fits.Goals as goal

pub returns-then-run_room-size : goal.returns-then-run_room-size
returns-then-run_room-size c =
    let a = c.args in
    let p = decode a.n a.s.now in
    sym (le-leb (length (spell a.ring.k p)) a.size (omega (arith, c.run_room.ensures, run_most a.ring.k p (omega arith) c.requires.2)))

pub returns : goal.returns
returns c = ap (λ (n : ℕ). leb n c.args.size) c.run_length.ensures
