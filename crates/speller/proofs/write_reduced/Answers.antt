-- `speller::write_reduced` meets its contract: the reduced run is written where it fits. No loop.
-- Assumes nothing.
use mathlib.Core.Path.{sym, ◌∙◌}
use native.Mathlib.Omega.{arith}
use borrow.Author.Tests.{leb-true}
use lib.ListN.{length}
use Rattle.speller.proofs.Giving.{leaves_cut, gives_same, gives_full, gives_written}
use Rattle.speller.proofs.write_reduced.Goals as goal

pub run_fits-requires : goal.run_fits-requires
run_fits-requires c =
    (omega (arith, c.reduce-m.ensures.few, c.requires.0), omega (arith, c.reduce-m.ensures.few, c.reduce-m.ensures.within.same, c.requires.1), leaves_cut _ _ c.reduce-m.ensures)

pub returns-then-not-run_fits : goal.returns-then-not-run_fits
returns-then-not-run_fits c = gives_same _ c.reduce-m.ensures.terms (gives_full _ (sym c.run_fits.ensures ∙ c.if-not-run_fits.true))

pub write_run-requires : goal.write_run-requires
write_run-requires c = (
  omega (arith, c.reduce-m.ensures.few, c.reduce-m.ensures.within.same, c.requires.1),
  leaves_cut _ _ c.reduce-m.ensures,
  omega (arith, leb-true _ (length c.args.out.now) (sym c.run_fits.ensures ∙ c.if-not-run_fits.false)),
)

pub returns : goal.returns
returns c =
    gives_same _ c.reduce-m.ensures.terms (gives_written _ (sym c.run_fits.ensures ∙ c.if-not-run_fits.false) c.write_run.ensures)
