use mathlib.Core.Path.{◌≡◌, refl, sym, ◌∙◌}
use mathlib.Core.Bool.{true}
use Prim.Native.Char.{code}
use borrow.Author.Rules.{rules}
use Rattle.words.specs.Words.{number_of}
use Rattle.reader.specs.Fields.{stands_at}
use Rattle.reader.proofs.Following.{same_err, passed_stop}
use Rattle.reader.proofs.Fields.{stands, each_over}
use Rattle.named.proofs.Factors.{no_number, next_name, names_start, names_stuck, names_more}
use Rattle.named.proofs.monomial.read_names.Goals as goal
use Rattle.named.proofs.monomial.read_names.Goals.{In-loop-names}

pub loop-names-init : goal.loop-names-init
loop-names-init c =
    let a = c.args in
    (names_start a.names.now a.s.now a.at a.first c.requires, (refl, refl))

-- a * stands at i
here : (c : In-loop-names) → stands_at c.args.s.now c.loop-names.i (code "*") ≡ true
here c = sym c.stands_at.ensures ∙ c.loop-names-test.true

pub skip_spaces-requires : goal.skip_spaces-requires
skip_spaces-requires c = let h = (stands _ _ (code "*") (here (goal.at.skip_spaces-requires c).In-loop-names)).0 in search rules

pub returns-in_err-v-clause-read : goal.returns-in_err-v-clause-read
returns-in_err-v-clause-read c =
    let l = c.loop-names in
    let a = c.args in
    rw (same_err c.from_residual.result c.from_residual.ensures.1)
    (names_stuck a.names.now l.names a.s.now a.at (number_of a.first) l.set l.bad l.i l.invariant.0 (here (goal.at.returns-in_err-v-clause-read c).In-loop-names) c.skip_spaces.result c.skip_spaces.ensures c.in_err-v.ensures.read)

pub loop-names-preserved : goal.loop-names-preserved
loop-names-preserved c =
    let l = c.loop-names in
    let a = c.args in
    let t = c.in_ok-v.ensures.lent in (
      rw (no_number c.in_ok-v.v.number c.is_none-bad.result c.is_none-bad.ensures)
          (names_more a.names.now l.names a.s.now a.at (number_of a.first) l.set l.bad l.i l.invariant.0 (here (goal.at.loop-names-preserved c).In-loop-names) c.skip_spaces.result c.skip_spaces.ensures
          c.read_name.new.names c.in_ok-v.v c.in_ok-v.ensures.read c.with_number-more.result c.with_number-more.ensures),
      (t.0 ∙ l.invariant.1.0, t.1 ∙ l.invariant.1.1),
    )

pub returns-clause-read : goal.returns-clause-read
returns-clause-read c =
    let l = c.loop-names in
    let a = c.args in
    record {
      value = l.invariant.0.items;
      taken = passed_stop (code "*") next_name a.s.now a.at l.i l.invariant.0 (each_over (code "*") next_name a.s.now l.i (sym c.stands_at.ensures ∙ c.loop-names-test.false));
      set = l.invariant.0.holds.0;
      names = l.invariant.0.holds.1;
    }
