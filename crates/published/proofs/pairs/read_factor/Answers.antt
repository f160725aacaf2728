-- `published::pairs::read_factor` meets its contract: behind a * or omitted. No loop. Assumes nothing.
use mathlib.Core.Path.{sym, ◌∙◌}
use native.Mathlib.Omega.{arith}
use Rattle.reader.proofs.Fields.{stands}
use Rattle.published.proofs.Regions.{factor_behind, factor_omitted}
use Rattle.published.proofs.pairs.read_factor.Goals as goal

pub in_parentheses-requires : goal.in_parentheses-requires
in_parentheses-requires c =
    (omega (arith, (stands _ _ _ (sym c.stands_at.ensures ∙ c.if-stands_at.true)).0), c.requires.1)

pub returns-then-stands_at-clause-read : goal.returns-then-stands_at-clause-read
returns-then-stands_at-clause-read c =
    let a = c.args in
    factor_behind a.s.now a.at c.in_parentheses.result (sym c.stands_at.ensures ∙ c.if-stands_at.true) c.in_parentheses.ensures.read

pub returns-clause-read : goal.returns-clause-read
returns-clause-read c =
    let a = c.args in
    factor_omitted a.s.now a.at a.names.now c.requires.0 (sym c.stands_at.ensures ∙ c.if-stands_at.false) c.put_one.ensures.holds c.put_one.ensures.kept
