-- What the contracts of `named` decide: where a reader stops or ends and how it refuses; and, where no name is bad, numbers, names and terms. Those of
-- `skip_spaces`, `symbol_at` and `constant_at` decide all by laws of `reader` (`same_end`, `one_word`, `one_number`). Assumes nothing.
use mathlib.Core.Path.{◌≡◌, refl, sym, ap, ◌∙◌}
use mathlib.Core.Bool.{Bool, false, ◌&&◌, not, cond}
use mathlib.Core.List.{List, [], ◌∷◌}
use Prim.Native.Nat.{ℕ, ◌*◌}
use native.Mathlib.Omega.{arith}
use lib.Dec.{eqb}
use lib.ListN.{length, take}
use Rattle.std.specs.Prelude.{Option, Some, None, is_none, Result, Ok, Err}
use Rattle.ground.specs.Lists.{any}
use Rattle.limits.specs.Limits.{greatest_magnitude, term_words}
use Rattle.limits.specs.Verdicts.{ACCEPTED, NUMBER, TERMS}
use Rattle.words.proofs.Laws.{Words}
use Rattle.terms.specs.Terms.{decode}
use Rattle.terms.proofs.Decided.{one_term, one_run}
use Rattle.written.specs.Worded.{worded_term, worded}
use Rattle.paper.specs.Grammar.{Bytes, Reader}
use Rattle.paper.specs.Statement.{TermOf, WrittenOf, renamed_term, renamed_field, within, in_range, too_many_terms}
use Rattle.paper.specs.Rules.{first}
use Rattle.paper.specs.Published.{Name, name, monomial, poly}
use Rattle.paper.specs.Named.{names_of}
use Rattle.paper.proofs.Names.{never}
use Rattle.reader.specs.Places.{Got, StopsOr}
use Rattle.reader.specs.declared.stop.Stop.{Stop}
use Rattle.reader.proofs.Decided.{same_end, same_stop, not_both}
use Rattle.names.specs.Names.{number_by, bad_by, names_with}
use Rattle.names.specs.Numbered.{held_by}
use Rattle.names.specs.declared.numbering.Numbering.{Numbering}
use Rattle.names.proofs.Rooms.{length_held}
use Rattle.names.proofs.Decided.{SameNames, same_held}
use Rattle.named.specs.Reads.{NamesAre, NameAt, NameIs, MonomialAt, MonomialIs, PolyAt, PolyIs}
use Rattle.named.specs.declared.name.NameRead.{NameRead}
use Rattle.named.specs.declared.monomial.MonomialRead.{MonomialRead}
use Rattle.named.specs.declared.poly.PolyRead.{PolyRead}

-- two of one input stop at one place, or both are read, as same says
abbrev pub Alike : {B : Type 0} → (B → B → Type 0) → Result B Stop → Result B Stop → Type 0
Alike same (Ok v) (Ok w) = same v w
Alike same (Ok v) (Err e) = ⊥
Alike same (Err d) (Ok w) = ⊥
Alike same (Err d) (Err e) = d ≡ e

module _ {A B : Type 0} (read : Reader A) (s : Bytes) (at : ℕ) (place : B → ℕ) (P Q : B → Type 0) (same : B → B → Type 0) where
  alike : ((v : B) → P v → (x : A) × Got read s at x (place v)) → ((w : B) → Q w → (y : A) × Got read s at y (place w)) → ((v w : B) → P v → Q w → same v w)
      → (r q : Result B Stop) → StopsOr read s at P r → StopsOr read s at Q q → Alike same r q
  alike f g h (Ok v) (Ok w) x y = h v w x y
  alike f g h (Ok v) (Err e) x y = not_both (f v x).1 y
  alike f g h (Err d) (Ok w) x y = not_both (g w y).1 x
  alike f g h (Err d) (Err e) x y = λ i. record { at = same_stop x y i }

-- ---- names: whether one is bad; and, where none is, how many are held, which, and with which numbers
pub record HeldAlike (a b : Numbering) (c d : Bool) : Type 0 where
  pub bad : c ≡ d
  pub names : c ≡ false → a.names ≡ b.names
  pub holds : c ≡ false → held_by a ≡ held_by b
  pub plain : a.plain ≡ b.plain

one_names : {m m' a b : Numbering} {ns os : List Name} {c d : Bool} → SameNames m m' → ns ≡ os → NamesAre m a ns c → NamesAre m' b os d → HeldAlike a b c d
one_names {m} {m'} {a} {b} {ns} {os} {c} old e x y =
    let h : held_by m ≡ held_by m' = same_held old in
    let some : any (bad_by m.plain (names_with m.plain (held_by m) ns)) ns ≡ any (bad_by m'.plain (names_with m'.plain (held_by m') os)) os
    = λ i. any (bad_by (old.plain i) (names_with (old.plain i) (h i) (e i))) (e i) in
    let with : names_with m.plain (held_by m) ns ≡ names_with m'.plain (held_by m') os = λ i. names_with (old.plain i) (h i) (e i) in
    let same = x.some ∙ some ∙ sym y.some in
    let held_alike : c ≡ false → held_by a ≡ held_by b = λ f. x.holds f ∙ with ∙ sym (y.holds (sym same ∙ f)) in
    record {
      bad = same;
      names = λ f. sym (length_held a.names a.room.now) ∙ ap length (held_alike f) ∙ length_held b.names b.room.now;
      holds = held_alike;
      plain = x.plain ∙ old.plain ∙ sym y.plain;
    }

-- ---- `read_name`: all of it
module _ (m m' : Numbering) (old : SameNames m m') (s : Bytes) (at : ℕ) (a b : Numbering) where
  module _ (v w : NameRead) (x : NameAt m a s at v) (y : NameAt m' b s at w) where
    pub one_name_held : HeldAlike a b (is_none v.number) (is_none w.number)
    one_name_held = one_names old (ap (λ (n : Name). n ∷ []) (same_end name s at x.taken y.taken).0) x.names y.names

    number_alike : (o p : Option ℕ) → v.number ≡ o → w.number ≡ p → o ≡ p
    number_alike None None e f = refl
    number_alike None (Some j) e f = never (sym (ap is_none e) ∙ one_name_held.bad ∙ ap is_none f)
    number_alike (Some i) None e f = never (sym (ap is_none f) ∙ sym one_name_held.bad ∙ ap is_none e)
    number_alike (Some i) (Some j) e f =
        let h = one_name_held in
        let l : held_by a ≡ held_by b = h.holds (ap is_none e) in
        let n : x.value ≡ y.value = (same_end name s at x.taken y.taken).0 in
        let q : number_by a.plain (held_by a) x.value ≡ number_by b.plain (held_by b) y.value = λ i. number_by (h.plain i) (l i) (n i) in
        ap Some (x.number i e ∙ q ∙ sym (y.number j f))

    pub one_name_number : v.number ≡ w.number
    one_name_number = number_alike v.number w.number refl refl

    name_alike : v ≡ w
    name_alike = λ i. record { number = one_name_number i; end = (same_end name s at x.taken y.taken).1 i }

  same_name_read : (r q : Result NameRead Stop) → Alike (λ v w. v ≡ w) r q → r ≡ q
  same_name_read (Ok v) (Ok w) e = ap (λ (x : NameRead). Ok x) e
  same_name_read (Ok v) (Err e) q = absurd q
  same_name_read (Err d) (Ok w) q = absurd q
  same_name_read (Err d) (Err e) q = ap (λ (x : Stop). Err x) q

  pub one_name : (r q : Result NameRead Stop) → NameIs m a s at r → NameIs m' b s at q → r ≡ q
  one_name r q x y =
      same_name_read r q (alike name s at (λ v. v.end) (NameAt m a s at) (NameAt m' b s at) (λ v w. v ≡ w) (λ v x. (x.value, x.taken)) (λ w y. (y.value, y.taken)) name_alike r q x y)

-- ---- `read_monomial`: its term, where its numbers are in range and no name is bad
abbrev pub MonomialAlike : MonomialRead → MonomialRead → Type 0
MonomialAlike v w = (v.end ≡ w.end) × (v.why ≡ w.why)

module _ (m m' : Numbering) (old : SameNames m m') (negative : Bool) (s : Bytes) (at : ℕ) (a b : Numbering) where
  monomial_alike : (v w : MonomialRead) → MonomialAt m a negative s at v → MonomialAt m' b negative s at w → MonomialAlike v w
  monomial_alike v w x y =
      let b = same_end (monomial negative) s at x.taken y.taken in
      (b.1, x.verdict ∙ ap (λ (t : TermOf Name). cond (within 1 greatest_magnitude t.magnitude) ACCEPTED NUMBER) b.0 ∙ sym y.verdict)

  pub one_monomial : (r q : Result MonomialRead Stop) → MonomialIs m a negative s at r → MonomialIs m' b negative s at q → Alike MonomialAlike r q
  one_monomial =
      alike (monomial negative) s at (λ v. v.end) (MonomialAt m a negative s at) (MonomialAt m' b negative s at) MonomialAlike (λ v x. (x.value, x.taken)) (λ w y. (y.value, y.taken)) monomial_alike

  module _ (v w : MonomialRead) (x : MonomialAt m a negative s at v) (y : MonomialAt m' b negative s at w) where
    same : x.value ≡ y.value
    same = (same_end (monomial negative) s at x.taken y.taken).0

    pub one_monomial_held : HeldAlike a b v.bad w.bad
    one_monomial_held = one_names old (ap (λ (t : TermOf Name). t.variables) same) x.names y.names

    pub one_monomial_zero : v.zero ≡ w.zero
    one_monomial_zero = x.zero ∙ ap (λ (t : TermOf Name). eqb t.magnitude 0 && eqb (length t.variables) 0) same ∙ sym y.zero

    pub one_monomial_term : length v.term ≡ term_words → length w.term ≡ term_words → Words v.term → Words w.term → v.why ≡ ACCEPTED → v.bad ≡ false → v.term ≡ w.term
    one_monomial_term l n f g c d =
        let h = one_monomial_held in
        let k : held_by a ≡ held_by b = h.holds d in
        let q : worded_term (renamed_term (number_by a.plain (held_by a)) x.value) ≡ worded_term (renamed_term (number_by b.plain (held_by b)) y.value)
        = λ i. worded_term (renamed_term (number_by (h.plain i) (k i)) (same i)) in
        one_term v.term w.term (l ∙ sym n) (omega arith) f g (x.term c d ∙ q ∙ sym (y.term (sym (monomial_alike v w x y).1 ∙ c) (sym h.bad ∙ d)))

-- ---- `read_poly`: its run, where it is accepted and no name is bad
abbrev pub PolyAlike : PolyRead → PolyRead → Type 0
PolyAlike v w = (v.end ≡ w.end) × (v.why ≡ w.why)

module _ (m m' : Numbering) (old : SameNames m m') (s : Bytes) (at : ℕ) (out : List ℕ) (a b : Numbering) (out₁ out₂ : List ℕ) where
  poly_alike : (v w : PolyRead) → PolyAt m a s at out₁ v → PolyAt m' b s at out₂ w → PolyAlike v w
  poly_alike v w x y = let b = same_end poly s at x.taken y.taken in (b.1, x.verdict ∙ ap verdict_of b.0 ∙ sym y.verdict)
    where
      verdict_of : WrittenOf Name → ℕ
      verdict_of p = first ((NUMBER, not (in_range (renamed_field (λ n. 0) p))) ∷ (TERMS, too_many_terms (renamed_field (λ n. 0) p)) ∷ [])

  pub one_poly : (r q : Result PolyRead Stop) → PolyIs m a s at out out₁ r → PolyIs m' b s at out out₂ q → Alike PolyAlike r q
  one_poly r q x y =
      alike poly s at (λ v. v.end) (PolyAt m a s at out₁) (PolyAt m' b s at out₂) PolyAlike (λ v x. (x.value, x.taken)) (λ w y. (y.value, y.taken)) poly_alike r q x.said y.said

  module _ (v w : PolyRead) (x : PolyAt m a s at out₁ v) (y : PolyAt m' b s at out₂ w) where
    written : x.value ≡ y.value
    written = (same_end poly s at x.taken y.taken).0

    pub one_poly_held : HeldAlike a b v.bad w.bad
    one_poly_held = one_names old (ap names_of written) x.names y.names

    pub one_poly_terms : v.terms ≡ w.terms
    one_poly_terms = x.terms ∙ ap (λ (p : WrittenOf Name). length p) written ∙ sym y.terms

    pub one_poly_run : length out₁ ≡ length out₂ → Words out₁ → Words out₂ → v.why ≡ ACCEPTED → v.bad ≡ false → take (v.terms * term_words) out₁ ≡ take (v.terms * term_words) out₂
    one_poly_run l f g c d =
        let h = one_poly_held in
        let k : held_by a ≡ held_by b = h.holds d in
        let q : worded (renamed_field (number_by a.plain (held_by a)) x.value) ≡ worded (renamed_field (number_by b.plain (held_by b)) y.value)
        = λ i. worded (renamed_field (number_by (h.plain i) (k i)) (written i)) in
        one_run v.terms out₁ out₂ l f g
        (x.run c d ∙ q ∙ sym (y.run (sym (poly_alike v w x y).1 ∙ c) (sym h.bad ∙ d)) ∙ ap (λ (k : ℕ). decode k out₂) (sym one_poly_terms))
