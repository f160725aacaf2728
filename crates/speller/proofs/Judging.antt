-- The verdict of a field before any room is looked at, and what the definitions of the paper say for each. Assumes nothing.
use mathlib.Core.Path.{◌≡◌, refl, sym, ap, subst, ◌∙◌}
use mathlib.Core.Bool.{Bool, true, false, ◌&&◌, not, cond, and-false}
use mathlib.Core.List.{List, [], ◌∷◌}
use Prim.Native.Nat.{ℕ, ◌≤◌, ◌<◌}
use native.Mathlib.Omega.{arith}
use lib.Dec.{eqb, ltb}
use lib.ListN.{length, drop, length-drop, drop_of_length-le}
use Rattle.ground.proofs.Tests.{by_cond, and_both}
use Rattle.limits.specs.Limits.{greatest_magnitude}
use Rattle.limits.specs.Verdicts.{ACCEPTED, SHORT, FORM, NUMBER, TERMS, FULL}
use Rattle.paper.specs.Grammar.{Bytes, Read, got, stuck, next, end, polynomial}
use Rattle.paper.specs.Statement.{Written, modulo, is_ring, in_range, too_many_terms, reduced}
use Rattle.paper.specs.Rules.{first}
use Rattle.paper.specs.Spelling.{Spelled, refuse, spell, spelling_rules, spell_read, whole_field}
use Rattle.paper.proofs.ReadBack.{whole_end}
use Rattle.reader.specs.Places.{Fails}
use Rattle.reader.specs.Marks.{all_fine, field_marks}
use Rattle.reader.specs.Fields.{FieldAt}
use Rattle.reader.specs.declared.field.FieldRead.{FieldRead}
use Rattle.reader.proofs.Ranges.{field_fine, field_holds}
use Rattle.speller.specs.Spells.{fitted, Accepts, FieldJudged}

-- ---- the whole field
whole_stuck : (s t : Bytes) → polynomial s ≡ stuck t → whole_field s ≡ stuck t
unfolding whole_field
whole_stuck s t e = ap (λ (r : Read Written). next r (λ p s. next (end s) (λ _ r. got p r))) e

whole_some : (s t : Bytes) (p : Written) → polynomial s ≡ got p t → 0 < length t → whole_field s ≡ stuck t
unfolding whole_field end
whole_some s [] p e h = absurd (let z : 0 < 0 = h in omega arith)
whole_some s (b ∷ t) p e h = ap (λ (r : Read Written). next r (λ p s. next (end s) (λ _ r. got p r))) e

-- ---- the rules
module _ (k room : ℕ) (p : Written) where
  pub request_number : (is_ring (modulo k) && in_range p) ≡ false → spell_read k room (got p []) ≡ refuse NUMBER
  unfolding spell_read spelling_rules first
  request_number e = rw e

  module _ (e : (is_ring (modulo k) && in_range p) ≡ true) where
    pub request_terms : too_many_terms p ≡ true → spell_read k room (got p []) ≡ refuse TERMS
    unfolding spell_read spelling_rules first
    request_terms f = rw (e, f)

    pub request_fitted : too_many_terms p ≡ false → spell_read k room (got p []) ≡ fitted (spell k (reduced k p)) room
    unfolding spell_read spelling_rules first fitted
    request_fitted f = rw (e, f) (go (ltb room (length (spell k (reduced k p)))))
      where
        done : Spelled
        done = record { verdict = ACCEPTED; spelling = spell k (reduced k p) }

        go : (b : Bool) → cond (eqb (cond b FULL ACCEPTED) ACCEPTED) done (refuse (cond b FULL ACCEPTED)) ≡ cond b (refuse FULL) done
        go true = refl
        go false = refl

-- ---- the verdict
pub judged_stuck : {field : Bytes} {p : ℕ} (k room : ℕ) → Fails polynomial field 0 p → spell_read k room (whole_field field) ≡ refuse FORM
unfolding spell_read
judged_stuck {field} {p} k room h = ap (spell_read k room) (whole_stuck field (drop p field) h.reads)

refused_as : {field : Bytes} {k : ℕ} {words : List ℕ} {n : ℕ} (v : ℕ) → 0 < v → ((room : ℕ) → spell_read k room (whole_field field) ≡ refuse v) → FieldJudged field k words n v
refused_as v l e = record { refused = λ n. e; accepted = λ z. absurd (let y : ⊥ = omega (arith, l, z) in y) }

module _ {field : Bytes} {s r : List ℕ} {f : FieldRead} (took : FieldAt greatest_magnitude field 0 s r f) where
  pub judged_below : f.why ≤ 17
  unfolding first
  judged_below = subst (λ (v : ℕ). v ≤ 17) (sym took.verdict) (go (not (all_fine (field_marks greatest_magnitude took.value))) (too_many_terms took.value))
    where
      go : (a b : Bool) → first ((NUMBER, a) ∷ (TERMS, b) ∷ []) ≤ 17
      go true b = omega arith
      go false true = omega arith
      go false false = omega arith

  pub judged_some : {k : ℕ} → (f.end ≡ length field → ⊥) → FieldJudged field k r f.terms FORM
  unfolding spell_read
  judged_some {k} e =
      refused_as FORM (omega arith)
      (λ room. ap (spell_read k room) (whole_some field (drop f.end field) took.value took.taken.reads (omega (arith, length-drop f.end field, took.taken.inside))))

  module _ (e : f.end ≡ length field) where
    ended : polynomial field ≡ got took.value []
    ended = took.taken.reads ∙ ap (λ (t : Bytes). got took.value t) (drop_of_length-le field {i = f.end} (omega arith))

    whole : (k room : ℕ) → spell_read k room (whole_field field) ≡ spell_read k room (got took.value [])
    whole k room = ap (spell_read k room) (whole_end field took.value ended)

    pub judged_ring : {k : ℕ} → is_ring (modulo k) ≡ false → FieldJudged field k r f.terms NUMBER
    judged_ring {k} g =
        refused_as NUMBER (omega arith) (λ room. whole k room ∙ request_number k room took.value (ap (λ (x : Bool). x && in_range took.value) g))

    pub judged_read : {k v : ℕ} → is_ring (modulo k) ≡ true → v ≡ f.why → FieldJudged field k r f.terms v
    unfolding first
    judged_read {k} g q = subst (FieldJudged field k r f.terms) (sym q) (record {
      refused = λ z room. whole k room ∙ verdict room _ _ (sym (field_fine took.value)) refl (λ y. z (took.verdict ∙ y)) ∙ ap refuse (sym took.verdict);
      accepted = λ z. let w = field_holds took z in (record { value = took.value; reads = ended; ranged = w.ranged; short = w.short; ring = g }, w);
    })
      where
        verdict : (room : ℕ) (x y : Bool) → in_range took.value ≡ x → too_many_terms took.value ≡ y → (first ((NUMBER, not x) ∷ (TERMS, y) ∷ []) ≡ ACCEPTED → ⊥)
            → spell_read k room (got took.value []) ≡ refuse (first ((NUMBER, not x) ∷ (TERMS, y) ∷ []))
        verdict room false y a b z = request_number k room took.value (ap (λ (x : Bool). is_ring (modulo k) && x) a ∙ and-false (is_ring (modulo k)))
        verdict room true true a b z = request_terms k room took.value (and_both (is_ring (modulo k)) (in_range took.value) g a) b
        verdict room true false a b z = absurd (z refl)

-- ---- an accepted field
pub accepted_fitted : (field : Bytes) (k room : ℕ) (a : Accepts field k) → spell_read k room (whole_field field) ≡ fitted (spell k (reduced k a.value)) room
unfolding spell_read
accepted_fitted field k room a =
    ap (spell_read k room) (whole_end field a.value a.reads)
    ∙ request_fitted k room a.value (and_both (is_ring (modulo k)) (in_range a.value) a.ring a.ranged) a.short

-- no verdict of these is SHORT
pub not_short : (k room : ℕ) (r : Read Written) → eqb (spell_read k room r).verdict SHORT ≡ false
unfolding spell_read spelling_rules first
not_short k room (stuck s) = refl
not_short k room (got p s) =
    by_cond (λ (v : ℕ). P v) (not (is_ring (modulo k) && in_range p)) (λ _. refl)
    (λ _. by_cond (λ (v : ℕ). P v) (too_many_terms p) (λ _. refl)
    (λ _. by_cond (λ (v : ℕ). P v) (ltb room (length (spell k (reduced k p)))) (λ _. refl) (λ _. refl)))
  where
    done : Spelled
    done = record { verdict = ACCEPTED; spelling = spell k (reduced k p) }

    P : ℕ → Type 0
    P v = eqb (cond (eqb v ACCEPTED) done (refuse v)).verdict SHORT ≡ false
