use mathlib.Core.Path.{◌≡◌, sym, ap, ◌∙◌}
use mathlib.Core.Bool.{true}
use Prim.Native.Char.{code}
use native.Mathlib.Omega.{arith}
use borrow.Author.Rules.{rules}
use Rattle.words.proofs.Parts.{within_refl, within_trans}
use Rattle.paper.specs.Grammar.{term}
use Rattle.reader.specs.Marks.{more_marks}
use Rattle.reader.specs.Fields.{stands_at}
use Rattle.reader.proofs.Following.{same_err, passed_took}
use Rattle.reader.proofs.Fields.{stands, each_over}
use Rattle.reader.proofs.Gathering.{terms_none, terms_stuck, terms_more, marked, marked_yes, marked_no, put_within}
use Rattle.reader.specs.declared.field.Rest.{Rest}
use Rattle.reader.proofs.field.read_rest.Goals as goal
use Rattle.reader.proofs.field.read_rest.Goals.{In-loop-r, then-r-eq-FIELD_TERMS, else-r-eq-FIELD_TERMS}

pub loop-r-init : goal.loop-r-init
loop-r-init c = (terms_none c.args.greatest c.args.s.now c.args.at c.args.out.now c.requires.0, within_refl, omega arith, omega arith)

-- a space stands at the end of r
here : (c : In-loop-r) → stands_at c.args.s.now c.loop-r.r.end (code " ") ≡ true
here c = sym c.stands_at.ensures ∙ c.loop-r-test.true

pub read_term-requires : goal.read_term-requires
read_term-requires c = let h = (stands _ _ (code " ") (here (goal.at.read_term-requires c).In-loop-r)).0 in search rules

pub returns-in_err-t : goal.returns-in_err-t
returns-in_err-t c =
    let l = c.loop-r in
    let a = c.args in
    rw (same_err c.from_residual.result c.from_residual.ensures.1) (record {
      within = l.invariant.1;
      said = terms_stuck a.greatest a.s.now a.at a.out.now l.out l.r l.invariant.0 (here (goal.at.returns-in_err-t c).In-loop-r) c.in_err-t.ensures;
    })

pub loop-r-preserved : goal.loop-r-preserved
loop-r-preserved c =
    let l = c.loop-r in
    let a = c.args in
    let h = here (goal.at.loop-r-preserved c).In-loop-r in
    let m : c.if-r-eq-FIELD_TERMS.r ≡ marked l.r
    = elim c.if-r-eq-FIELD_TERMS.branch [
      | then-r-eq-FIELD_TERMS w ↦ w.r-is ∙ marked_yes l.r w.if-r-eq-FIELD_TERMS.true
      | else-r-eq-FIELD_TERMS w ↦ w.r-is ∙ marked_no l.r w.if-r-eq-FIELD_TERMS.false
    ] in
    let n : c.if-r-eq-FIELD_TERMS.r.terms ≡ l.r.terms = ap (λ (r : Rest). r.terms) m in
    let o = c.in_ok-t.ensures.taken.onward in (
      rw c.or-r.ensures
          (terms_more a.greatest a.s.now a.at a.out.now l.out l.r l.invariant.0 h c.in_ok-t.t c.in_ok-t.ensures c.put_term.new.out c.verdict_on.result c.verdict_on.ensures
          c.if-r-eq-FIELD_TERMS.r m c.put_term.ensures),
      within_trans l.invariant.1 (put_within (omega arith) c.put_term.ensures),
      omega arith,
      omega arith,
    )

pub returns : goal.returns
returns c =
    let l = c.loop-r in
    let a = c.args in
    record {
      within = l.invariant.1;
      said = passed_took (code " ") term (more_marks a.greatest) a.s.now a.at l.r.end l.r.outside l.invariant.0
          (each_over (code " ") term a.s.now l.r.end (sym c.stands_at.ensures ∙ c.loop-r-test.false));
    }
