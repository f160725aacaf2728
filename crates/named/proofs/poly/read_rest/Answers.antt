use mathlib.Core.Path.{refl, ◌∙◌}
use Prim.Native.Nat.{◌<◌}
use native.Mathlib.Omega.{arith}
use lib.ListN.{length}
use borrow.Author.Rules.{rules}
use Rattle.words.proofs.Parts.{within_refl, within_trans}
use Rattle.paper.specs.Published.{more_monomials}
use Rattle.reader.proofs.Following.{same_err, read_stop}
use Rattle.reader.proofs.Gathering.{put_within}
use Rattle.named.proofs.Polynomials.{sign_inside, no_monomial_law, monomials_none, monomials_stops, monomials_one}
use Rattle.named.proofs.poly.read_rest.Goals as goal
use Rattle.named.proofs.poly.read_rest.Goals.{In-loop-names}

pub loop-names-init : goal.loop-names-init
loop-names-init c =
    let a = c.args in
    (monomials_none a.names.now a.s.now a.at a.out.now c.requires.0, within_refl, omega arith, (refl, refl))

-- a sign stands at i
inside : (c : In-loop-names) → c.loop-names.i < length c.args.s.now
inside c =
    sign_inside c.args.s.now c.loop-names.i c.stands_at.result c.stands_at-in-loop-names.result c.stands_at.ensures c.stands_at-in-loop-names.ensures c.loop-names-test.true

pub skip_spaces-requires : goal.skip_spaces-requires
skip_spaces-requires c = let h = inside (goal.at.skip_spaces-requires c).In-loop-names in search rules

pub returns-in_err-m-clause-read : goal.returns-in_err-m-clause-read
returns-in_err-m-clause-read c =
    let l = c.loop-names in
    let a = c.args in
    rw (same_err c.from_residual.result c.from_residual.ensures.1)
    (record {
      said = monomials_stops a.names.now a.s.now a.at a.out.now l.names l.out l.terms l.why l.bad l.i l.invariant.0
          c.stands_at.result c.stands_at-in-loop-names.result c.stands_at.ensures c.stands_at-in-loop-names.ensures c.loop-names-test.true c.skip_spaces.result c.skip_spaces.ensures
          c.stands_at-in-loop-names-2.result c.stands_at-in-loop-names-2.ensures c.in_err-m.ensures.read;
      within = l.invariant.1;
    })

pub loop-names-preserved : goal.loop-names-preserved
loop-names-preserved c =
    let l = c.loop-names in
    let a = c.args in
    let t = c.in_ok-m.ensures.lent in (
      monomials_one a.names.now a.s.now a.at a.out.now l.names l.out l.terms l.why l.bad l.i l.invariant.0
          c.stands_at.result c.stands_at-in-loop-names.result c.stands_at.ensures c.stands_at-in-loop-names.ensures c.loop-names-test.true c.skip_spaces.result c.skip_spaces.ensures
          c.stands_at-in-loop-names-2.result c.stands_at-in-loop-names-2.ensures c.read_monomial.new.names c.put_term.new.out c.in_ok-m.m c.in_ok-m.ensures.read c.put_term.ensures
          c.first_verdict-why.result c.first_verdict-why.ensures,
      within_trans l.invariant.1 (put_within (omega (arith, l.invariant.0.holds.count)) c.put_term.ensures),
      omega (arith, l.invariant.2, c.skip_spaces.ensures.onward, c.in_ok-m.ensures.read.taken.onward),
      (t.0 ∙ l.invariant.3.0, t.1 ∙ l.invariant.3.1),
    )

pub returns-clause-read : goal.returns-clause-read
returns-clause-read c =
    let l = c.loop-names in
    let a = c.args in
    record {
      said = record {
        value = l.invariant.0.items;
        taken = read_stop more_monomials a.s.now a.at l.i l.invariant.0 (no_monomial_law a.s.now l.i c.stands_at.result c.stands_at-in-loop-names.result c.stands_at.ensures c.stands_at-in-loop-names.ensures c.loop-names-test.false);
        holds = l.invariant.0.holds;
      };
      within = l.invariant.1;
    }
