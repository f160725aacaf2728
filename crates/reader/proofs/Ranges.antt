-- At the paper's greatest magnitude the numbers of a field are in their ranges as the paper has it, and an accepted run holds the field. Assumes nothing.
use mathlib.Core.Path.{◌≡◌, refl, sym, ap, ap₂, ◌∙◌}
use mathlib.Core.Bool.{Bool, true, false, ◌&&◌, not}
use mathlib.Core.List.{List, [], ◌∷◌}
use Prim.Native.Nat.{ℕ}
use native.Mathlib.Omega.{arith}
use Rattle.ground.specs.Lists.{every, gather}
use Rattle.ground.proofs.Lists.{every_append}
use Rattle.limits.specs.Limits.{greatest_magnitude}
use Rattle.limits.specs.Verdicts.{ACCEPTED, NUMBER, TERMS}
use Rattle.paper.specs.Grammar.{Bytes}
use Rattle.paper.specs.Statement.{WrittenTerm, Written, is_variable, is_term, in_range, too_many_terms, within}
use Rattle.paper.specs.Rules.{first}
use Rattle.written.specs.Worded.{Holds}
use Rattle.reader.specs.Marks.{all_fine, mark, variable_marks, term_marks, more_marks, field_marks}
use Rattle.reader.specs.Fields.{FieldAt}
use Rattle.reader.specs.declared.field.FieldRead.{FieldRead}

variables_fine : (vs : List ℕ) → all_fine (variable_marks vs) ≡ every is_variable vs
unfolding all_fine variable_marks gather mark every
variables_fine [] = refl
variables_fine (v ∷ vs) = ap (λ (b : Bool). is_variable v && b) (variables_fine vs)

term_fine : (before : ℕ) (t : WrittenTerm) → all_fine (term_marks greatest_magnitude before t) ≡ is_term t
unfolding all_fine term_marks mark every is_term
term_fine before t = ap (λ (b : Bool). within 1 greatest_magnitude t.magnitude && b) (variables_fine t.variables)

terms_fine : (ts : List WrittenTerm) → all_fine (more_marks greatest_magnitude ts) ≡ every is_term ts
unfolding all_fine more_marks gather every
terms_fine [] = refl
terms_fine (t ∷ ts) = every_append (λ m. m.fine) (term_marks greatest_magnitude 1 t) (more_marks greatest_magnitude ts) ∙ ap₂ ◌&&◌ (term_fine 1 t) (terms_fine ts)

pub field_fine : (p : Written) → all_fine (field_marks greatest_magnitude p) ≡ in_range p
unfolding all_fine field_marks mark every in_range
field_fine [] = refl
field_fine (t ∷ ts) = every_append (λ m. m.fine) (term_marks greatest_magnitude 0 t) (more_marks greatest_magnitude ts) ∙ ap₂ ◌&&◌ (term_fine 0 t) (terms_fine ts)

-- neither NUMBER nor TERMS
pub neither : (a b : Bool) → first ((NUMBER, not a) ∷ (TERMS, b) ∷ []) ≡ ACCEPTED → (a ≡ true) × (b ≡ false)
unfolding first
neither true true e = absurd (let z : ⊥ = omega arith in z)
neither true false e = (refl, refl)
neither false b e = absurd (let z : ⊥ = omega arith in z)

pub field_holds : {s : Bytes} {at : ℕ} {out out' : List ℕ} {r : FieldRead} (f : FieldAt greatest_magnitude s at out out' r) → r.why ≡ ACCEPTED
    → Holds f.value r.terms 0 out'
field_holds f a =
    let w = neither (all_fine (field_marks greatest_magnitude f.value)) (too_many_terms f.value) (sym f.verdict ∙ a) in
    record { run = f.run a; terms = f.terms; ranged = sym (field_fine f.value) ∙ w.0; short = w.1 }
