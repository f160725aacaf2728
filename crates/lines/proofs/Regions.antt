-- Fields and pairs read into their regions. Assumes nothing.
use mathlib.Core.Path.{◌≡◌, refl, sym, ap, ap₂, ◌∙◌}
use mathlib.Core.Bool.{Bool, not}
use mathlib.Core.List.{List, [], ◌∷◌}
use Prim.Native.Nat.{ℕ, ◌+◌, ◌-◌, ◌*◌, ◌≤◌}
use native.Mathlib.Omega.{arith}
use lib.ListN.{length}
use borrow.Author.Tests.{ltb-false}
use Rattle.std.specs.Prelude.{Result}
use borrow.Rule.Slice.PartMut.{put_mid}
use Rattle.limits.specs.Limits.{field_terms, term_words, greatest_index, greatest_magnitude}
use Rattle.limits.specs.Verdicts.{NUMBER, TERMS}
use Rattle.words.specs.Parts.{part}
use Rattle.words.proofs.Parts.{put_part, put_within}
use Rattle.terms.specs.Terms.{decode}
use Rattle.terms.proofs.Decode.{decode_part}
use Rattle.paper.specs.Grammar.{Bytes, decimal, polynomial, tab, field, pair}
use Rattle.paper.specs.Statement.{Written, within, is_index, in_range, too_many_terms}
use Rattle.paper.specs.Rules.{first}
use Rattle.written.specs.Worded.{Holds}
use Rattle.scratch.specs.Scratch.{factor_at}
use Rattle.reader.specs.Places.{Got}
use Rattle.reader.specs.Fields.{FieldAt, FieldIs}
use Rattle.reader.specs.declared.stop.Stop.{Stop}
use Rattle.reader.specs.declared.field.FieldRead.{FieldRead}
use Rattle.reader.specs.Verdicts.{lesser_of}
use Rattle.reader.proofs.Verdicts.{not_not}
use Rattle.reader.proofs.Ranges.{field_fine, field_holds}
use Rattle.lines.specs.Parts.{always, few_terms, pair_ranged, pair_few, Taken, FieldPart}
use Rattle.lines.specs.declared.part.NumberRead.{NumberRead}
use Rattle.lines.proofs.Parts.{taken_behind, stops_behind, took_map, took_then}

-- ---- a field in a region that was lent, and came back as y
module _ (s : Bytes) (at base : ℕ) (words y : List ℕ) (l : base + field_terms * term_words ≤ length words) where
  abbrev e : ℕ
  e = base + field_terms * term_words

  abbrev x : List ℕ
  x = put_mid base (e - base) words y

  placed : {n : ℕ} {p : Written} → length y ≡ length (part base (e - base) words) → Holds p n 0 y → Holds p n base x
  unfolding too_many_terms
  placed {n} {p} q h =
      let few : n ≤ field_terms = omega (arith, h.terms, ltb-false field_terms (length p) h.short) in
      record {
        run = sym (decode_part n base (e - base) x (omega arith)) ∙ ap (decode n) (put_part words y base e (omega arith) l q) ∙ h.run;
        terms = h.terms;
        ranged = h.ranged;
        short = h.short;
      }

  took : (r : FieldRead) → length y ≡ length (part base (e - base) words) → FieldAt greatest_magnitude s at (part base (e - base) words) y r
      → Taken polynomial in_range few_terms (λ p. Holds p r.terms base x) s at r.end r.why
  unfolding few_terms
  took r q f =
      record {
        value = f.value;
        taken = f.taken;
        verdict = f.verdict ∙ ap₂ (λ (a b : Bool). first ((NUMBER, not a) ∷ (TERMS, b) ∷ [])) (field_fine f.value) (not_not (too_many_terms f.value));
        holds = λ a. placed q (field_holds f a);
      }

  pub field_behind : {m : ℕ} → Got tab s m tt at → (r : Result FieldRead Stop) → FieldIs greatest_magnitude s at (part base (e - base) words) y r → FieldPart s m base words x r
  unfolding field
  field_behind g r c = record {
    part = stops_behind polynomial tab g (λ f h. taken_behind tab g (took f c.within.same h)) r c.said;
    kept = put_within words y base e (omega arith) l c.within.same;
  }

-- ---- a pair
module _ {s : Bytes} {at : ℕ} {words : List ℕ} where
  pub pair_took : (i : NumberRead) → Taken decimal (within 1 greatest_index) always (λ n. i.value ≡ n) s at i.end i.why
      → (f : FieldRead) → Taken field in_range few_terms (λ p. Holds p f.terms factor_at words) s i.end f.end f.why
      → (why : ℕ) → why ≡ lesser_of i.why f.why
      → Taken pair pair_ranged pair_few (λ p. (i.value ≡ p.index) × Holds p.factor f.terms factor_at words) s at f.end why
  unfolding pair pair_ranged pair_few is_index took_map
  pair_took i t f g why q =
      let u = took_map field (λ q. in_range q.factor) pair_few (λ q. Holds q.factor f.terms factor_at words)
      (λ p. record { index = t.value; factor = p }) g refl refl (λ a. a) in
      took_then decimal pair_ranged pair_few (λ p. (i.value ≡ p.index) × Holds p.factor f.terms factor_at words) _ t u q refl refl (λ a b. (a, b))
