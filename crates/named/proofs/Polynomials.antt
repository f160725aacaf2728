-- Monomials put behind each other, and a polynomial from its first monomial and those behind it. Assumes nothing.
use mathlib.Core.Path.{◌≡◌, refl, sym, ap, ap₂, subst, ◌∙◌}
use mathlib.Core.Bool.{Bool, true, false, ◌&&◌, ◌||◌, not, cond}
use mathlib.Core.List.{List, [], ◌∷◌, ◌++◌, map, append-nil, append_assoc}
use mathlib.Core.Logic.{⊎_elim}
use Prim.Native.Nat.{ℕ, suc, ◌+◌, ◌*◌, ◌≤◌, ◌<◌}
use native.Mathlib.Omega.{arith}
use lib.Dec.{eqb, ltb}
use lib.ListN.{length, drop, get_or, length-append, length-map}
use borrow.Author.Tests.{eqb-true, ne_eqb, ltb-false}
use Rattle.std.specs.Prelude.{Ok}
use Rattle.ground.specs.Lists.{every, any, gather}
use Rattle.ground.proofs.Lists.{every_append}
use Rattle.ground.proofs.Tests.{and_left, and_right, cond_yes, cond_no, or_none_left, or_none_right}
use Rattle.limits.specs.Limits.{greatest_magnitude, field_terms, term_words}
use Rattle.limits.specs.Verdicts.{ACCEPTED, NUMBER, TERMS}
use Rattle.algebra.specs.Polynomial.{Poly, Term}
use Rattle.words.specs.Parts.{Within}
use Rattle.words.proofs.Parts.{within_trans, within_wider}
use Rattle.terms.specs.Terms.{decode}
use Rattle.written.specs.Worded.{worded_term, worded}
use Rattle.paper.specs.Grammar.{Bytes, got, stuck, next, as_written}
use Rattle.paper.specs.Statement.{TermOf, WrittenOf, Written, renamed_term, renamed_field, within, is_variable, is_term, in_range, too_many_terms}
use Rattle.paper.specs.Rules.{first}
use Rattle.paper.specs.Published.{Name, spaces, minus, monomial, more_monomials, poly}
use Rattle.paper.specs.Named.{names_of}
use Rattle.paper.proofs.PublishedReading.{is_sign, monomials_more, monomials_stuck, monomials_stop, monomials_end}
use Rattle.reader.specs.Places.{Got, Fails}
use Rattle.reader.specs.Fields.{stands_at, first_of, PutBehind}
use Rattle.reader.proofs.Marks.{both_accepted, verdict_then, gather_last}
use Rattle.reader.proofs.Following.{got_then, got_give, fails_then, fails_first, ReadUpTo, read_none, read_more, read_stuck}
use Rattle.reader.proofs.Gathering.{worded_append}
use Rattle.reader.proofs.Polynomials.{verdict_first, few}
use Rattle.reader.proofs.Fields.{stands_inside}
use Rattle.names.specs.declared.numbering.Numbering.{Numbering}
use Rattle.named.specs.Reads.{is_at, NamesAre, number_in, MonomialAt, MonomialsOf, MonomialsAt, PolyIs}
use Rattle.named.specs.declared.monomial.MonomialRead.{MonomialRead}
use Rattle.named.specs.declared.poly.PolyRead.{PolyRead}
use Rattle.named.proofs.Tokens.{is_here, is_not, either_at}
use Rattle.named.proofs.Naming.{names_none, names_then, term_stays, field_stays}
use Rattle.std.proofs.Math.Bool.{and-true, and_assoc, and_comm}
use Rattle.named.proofs.Factors.{map_append}

-- ---- what is in range: with names for variables, a magnitude
abbrev unnumbered : Name → ℕ
unnumbered n = 0

zeros : (ns : List Name) → every is_variable (map unnumbered ns) ≡ true
unfolding every is_variable
zeros [] = refl
zeros (n ∷ ns) = zeros ns

term_range : (t : TermOf Name) → is_term (renamed_term unnumbered t) ≡ within 1 greatest_magnitude t.magnitude
unfolding is_term renamed_term
term_range t = ap (λ (b : Bool). within 1 greatest_magnitude t.magnitude && b) (zeros t.variables) ∙ and-true (within 1 greatest_magnitude t.magnitude)

range_append : (ms : WrittenOf Name) (t : TermOf Name) → (in_range (renamed_field unnumbered ms) && within 1 greatest_magnitude t.magnitude) ≡ in_range (renamed_field unnumbered (ms ++ (t ∷ [])))
unfolding in_range renamed_field every
range_append ms t =
    sym (ap (every is_term) (map_append (renamed_term unnumbered) ms (t ∷ []))
    ∙ every_append is_term (map (renamed_term unnumbered) ms) (renamed_term unnumbered t ∷ [])
    ∙ ap (λ (b : Bool). every is_term (map (renamed_term unnumbered) ms) && b) (and-true (is_term (renamed_term unnumbered t)) ∙ term_range t))

-- ---- monomials behind a first
rest_none : (m : Numbering) (out : List ℕ) → MonomialsOf m m out out 1 ACCEPTED false []
unfolding in_range renamed_field every worded names_of gather
rest_none m out = record { verdict = refl; count = refl; run = λ a b l. sym (append-nil (decode 1 out)); named = names_none m }

module _ {old x new : Numbering} {out mid out' : List ℕ} {terms why : ℕ} {bad : Bool} {ms : WrittenOf Name} (p : MonomialsOf old x out mid terms why bad ms)
    {negative : Bool} {s : Bytes} {at : ℕ} {m : MonomialRead} (h : MonomialAt x new negative s at m) (put : PutBehind terms m.why m.term mid out') where
  rest_more : (why' : ℕ) → why' ≡ first_of why m.why → MonomialsOf old new out out' (terms + 1) why' (bad || m.bad) (ms ++ (h.value ∷ []))
  unfolding renamed_field worded names_of
  rest_more why' ew = record {
    verdict =
        ew ∙ ap₂ first_of p.verdict h.verdict ∙ verdict_then (in_range (renamed_field unnumbered ms)) (within 1 greatest_magnitude h.value.magnitude)
        ∙ ap (λ (b : Bool). cond b ACCEPTED NUMBER) (range_append ms h.value);
    count = omega (arith, p.count, length-append ms (h.value ∷ []));
    run = λ a b l.
        let c = both_accepted why m.why (sym ew ∙ a) in
        let d = or_none_left bad m.bad b in
        let e = or_none_right bad m.bad b in
        let f = number_in new in
        let stayed : renamed_field (number_in x) ms ≡ renamed_field f ms = sym (field_stays ms p.named h.names d e) in
        put.run c.1 l
        ∙ ap₂ (λ (q : Poly) (u : Term). q ++ (u ∷ [])) (p.run c.0 d (omega arith) ∙ ap (λ (w : Written). decode 1 out ++ worded w) stayed) (h.term c.1 e)
        ∙ append_assoc (decode 1 out) (worded (renamed_field f ms)) (worded_term (renamed_term f h.value) ∷ [])
        ∙ ap (λ (q : Poly). decode 1 out ++ q) (sym (ap worded (map_append (renamed_term f) ms (h.value ∷ [])) ∙ worded_append (renamed_field f ms) (renamed_term f h.value ∷ [])));
    named = rw (gather_last (λ t. t.variables) ms h.value) (names_then p.named h.names);
  }

-- ---- a + or a - at a place
module _ (s : Bytes) (i : ℕ) (plus dash : Bool) (ep : plus ≡ stands_at s i 43) (ed : dash ≡ stands_at s i 45) where
  sign_at : {t : Bool} → (plus || dash) ≡ t → is_at is_sign s i ≡ t
  unfolding stands_at is_at
  sign_at e = either_at (λ b. eqb b 43) (λ b. eqb b 45) s i plus dash ep ed e

  pub sign_inside : (plus || dash) ≡ true → i < length s
  sign_inside e = (is_here is_sign s i (sign_at e)).0

  pub no_monomial_law : (plus || dash) ≡ false → more_monomials (drop i s) ≡ got [] (drop i s)
  no_monomial_law e = ⊎_elim (λ h. monomials_stop s i h.0 h.1) (λ h. monomials_end s i h) (is_not is_sign s i (sign_at e))

  module _ (here : (plus || dash) ≡ true) (j : ℕ) (g : Got spaces s (i + 1) tt j) where
    is_dash : {b : Bool} → b ≡ stands_at s i 45 → b ≡ eqb (get_or s i 0) 45
    is_dash e = e ∙ stands_inside s i 45 (sign_inside here)

    module _ (b : Bool) (q : b ≡ stands_at s i 45) where
      monomial_more : (t : TermOf Name) (e : ℕ) → Got (monomial b) s j t e → more_monomials (drop i s) ≡ next (more_monomials (drop e s)) (λ ms r. got (t ∷ ms) r)
      monomial_more t e m =
          let h = is_here is_sign s i (sign_at here) in
          monomials_more s i h.0 h.1 t (drop e s) (got_then spaces _ g (subst (λ (b : Bool). Got (monomial b) s j t e) (is_dash q) m)).reads

      monomial_stuck : (p : ℕ) → Fails (monomial b) s j p → more_monomials (drop i s) ≡ stuck (drop p s)
      monomial_stuck p f =
          let h = is_here is_sign s i (sign_at here) in
          monomials_stuck s i h.0 h.1 (drop p s) (fails_then spaces _ g (subst (λ (b : Bool). Fails (monomial b) s j p) (is_dash q) f)).reads

-- monomials stand from at up to i, and are put behind the first
abbrev pub MonomialsTo : Numbering → Numbering → Bytes → ℕ → List ℕ → List ℕ → ℕ → ℕ → Bool → ℕ → Type 0
MonomialsTo old new s at out out' terms why bad i = ReadUpTo more_monomials (MonomialsOf old new out out' terms why bad) s at i

module _ (old : Numbering) (s : Bytes) (at : ℕ) (out : List ℕ) where
  pub monomials_none : at ≤ length s → MonomialsTo old old s at out out 1 ACCEPTED false at
  monomials_none l = read_none more_monomials s at l (rest_none old out)

  module _ (x : Numbering) (mid : List ℕ) (terms why : ℕ) (bad : Bool) (i : ℕ) (p : MonomialsTo old x s at out mid terms why bad i)
      (plus dash : Bool) (ep : plus ≡ stands_at s i 43) (ed : dash ≡ stands_at s i 45) (here : (plus || dash) ≡ true) (j : ℕ) (g : Got spaces s (i + 1) tt j)
      (b : Bool) (q : b ≡ stands_at s i 45) where
    pub monomials_stops : {e : ℕ} → Fails (monomial b) s j e → Fails more_monomials s at e
    monomials_stops {e} f =
        let o = g.onward in
        let k = f.onward in
        read_stuck more_monomials s at i p (monomial_stuck s i plus dash ep ed here j g b q e f) (omega arith) f.inside

    pub monomials_one : (new : Numbering) (out' : List ℕ) (m : MonomialRead) → MonomialAt x new b s j m → PutBehind terms m.why m.term mid out'
        → (why' : ℕ) → why' ≡ first_of why m.why → MonomialsTo old new s at out out' (terms + 1) why' (bad || m.bad) m.end
    monomials_one new out' m h put why' ew =
        let o = g.onward in
        let k = h.taken.onward in
        read_more more_monomials s at i p h.value m.end (monomial_more s i plus dash ep ed here j g b q h.value m.end h.taken) (omega arith) h.taken.inside
        (λ ms r. rest_more r h put why' ew)

-- ---- the first monomial and the others
-- whether they are the zero polynomial
abbrev is_nothing : TermOf Name → WrittenOf Name → Bool
is_nothing t ms = eqb (suc (length ms)) 1 && (eqb t.magnitude 0 && eqb (length t.variables) 0) && not t.negative

none_of : (vs : List Name) → elim vs [ [] ↦ true | v ∷ vs ↦ false ] ≡ eqb (length vs) 0
none_of [] = refl
none_of (v ∷ vs) = sym (ne_eqb (suc (length vs)) 0 (λ z. omega arith))

sign_last : (n m v : Bool) → (not n && m && v) ≡ ((m && v) && not n)
sign_last n m v = and_assoc (not n) m v ∙ and_comm (not n) (m && v)

written_as : (t : TermOf Name) (ms : WrittenOf Name) → as_written t ms ≡ cond (is_nothing t ms) [] (t ∷ ms)
unfolding as_written
written_as t [] =
    ap (λ (b : Bool). cond b [] (t ∷ []))
    (ap (λ (b : Bool). not t.negative && eqb t.magnitude 0 && b) (none_of t.variables) ∙ sign_last t.negative (eqb t.magnitude 0) (eqb (length t.variables) 0))
written_as t (u ∷ ms) =
    let two : eqb (suc (suc (length ms))) 1 ≡ false = ne_eqb (suc (suc (length ms))) 1 (λ z. omega arith) in
    sym (cond_no (is_nothing t (u ∷ ms)) [] (t ∷ u ∷ ms) (ap (λ (b : Bool). b && (eqb t.magnitude 0 && eqb (length t.variables) 0) && not t.negative) two))

poly_got : {s : Bytes} {at i j e : ℕ} {negative : Bool} {t : TermOf Name} {ms : WrittenOf Name} → Got minus s at negative i → Got (monomial negative) s i t j → Got more_monomials s j ms e
    → Got poly s at (as_written t ms) e
unfolding poly
poly_got {negative = negative} g h k = got_then minus _ g (got_then (monomial negative) _ h (got_then more_monomials _ k (got_give _ k.inside)))

-- nothing is bad where there are no names
no_names : {old new : Numbering} {ns : List Name} {bad : Bool} → ns ≡ [] → NamesAre old new ns bad → NamesAre old new [] false
unfolding any
no_names {old} {new} {bad = bad} e p =
    let q : NamesAre old new [] bad = subst (λ (l : List Name). NamesAre old new l bad) e p in
    subst (λ (b : Bool). NamesAre old new [] b) q.some q

empty : {A : Type 0} (xs : List A) → length xs ≡ 0 → xs ≡ []
empty [] e = refl
empty (x ∷ xs) e = absurd (let z : ⊥ = omega arith in z)

module _ (old : Numbering) (s : Bytes) (at : ℕ) (out : List ℕ) (negative : Bool) (i : ℕ) (g : Got minus s at negative i) where
  pub poly_stops : {e : ℕ} → Fails (monomial negative) s i e → Fails poly s at e
  unfolding poly
  poly_stops f = fails_then minus _ g (fails_first (monomial negative) _ f)

  module _ (x : Numbering) (m : MonomialRead) (h : MonomialAt old x negative s i m) (mid out' : List ℕ) (put : PutBehind 0 m.why m.term out mid)
      (w : Within term_words (field_terms * term_words) mid out') where
    pub all : Within 0 (field_terms * term_words) out out'
    all = within_trans
        (within_wider 0 (0 * term_words) ((0 + 1) * term_words) (field_terms * term_words) out mid (omega arith) (omega arith) (put.kept (omega arith)))
        (within_wider 0 term_words (field_terms * term_words) (field_terms * term_words) mid out' (omega arith) (omega arith) w)

    pub rest_stops : {e : ℕ} → Fails more_monomials s m.end e → Fails poly s at e
    unfolding poly
    rest_stops f = fails_then minus _ g (fails_then (monomial negative) _ h.taken (fails_first more_monomials _ f))

    module _ (new : Numbering) (r : PolyRead) (y : MonomialsAt x new s m.end mid out' r) where
      -- what the code tells the zero polynomial by
      nothing : (eqb r.terms 1 && m.zero && not negative) ≡ is_nothing h.value y.value
      nothing =
          ap₂ (λ (a b : Bool). a && b && not negative) (ap (λ (k : ℕ). eqb k 1) y.holds.count) h.zero
          ∙ ap (λ (b : Bool). eqb (suc (length y.value)) 1 && (eqb h.value.magnitude 0 && eqb (length h.value.variables) 0) && not b) (sym h.sign)

      both : NamesAre old new (h.value.variables ++ names_of y.value) (m.bad || r.bad)
      both = names_then h.names y.holds.named

      pub poly_zero : (eqb r.terms 1 && m.zero && not negative) ≡ true → PolyIs old new s at out out' (Ok (record { why = ACCEPTED; end = r.end; terms = 0; bad = false }))
      unfolding first in_range renamed_field every too_many_terms decode worded names_of gather
      poly_zero z =
          let w = sym nothing ∙ z in
          let one = eqb (suc (length y.value)) 1 in
          let mv = eqb h.value.magnitude 0 && eqb (length h.value.variables) 0 in
          let a = and_left (one && mv) (not h.value.negative) w in
          let none : y.value ≡ [] = empty y.value (omega (arith, eqb-true (suc (length y.value)) 1 (and_left one mv a))) in
          let plain_term : h.value.variables ≡ [] = empty h.value.variables (eqb-true (length h.value.variables) 0 (and_right (eqb h.value.magnitude 0) (eqb (length h.value.variables) 0) (and_right one mv a))) in
          let e : as_written h.value y.value ≡ [] = written_as h.value y.value ∙ cond_yes _ [] (h.value ∷ y.value) w in
          record {
            said = record {
              value = [];
              taken = subst (λ (p : WrittenOf Name). Got poly s at p r.end) e (poly_got g h.taken y.taken);
              verdict = refl;
              terms = refl;
              run = λ a b. refl;
              names = no_names (ap₂ (λ (vs : List Name) (ms : WrittenOf Name). vs ++ names_of ms) plain_term none) both;
            };
            within = all;
          }

      pub poly_terms : (eqb r.terms 1 && m.zero && not negative) ≡ false → (pair why : ℕ) → pair ≡ first_of m.why r.why
          → why ≡ first_of pair (cond (ltb field_terms r.terms) TERMS ACCEPTED)
          → PolyIs old new s at out out' (Ok (record { why = why; end = r.end; terms = r.terms; bad = m.bad || r.bad }))
      unfolding in_range renamed_field every too_many_terms decode worded names_of gather
      poly_terms z pair why ep ew =
          let p = y.holds in
          let t = h.value in
          let ms = y.value in
          let e : as_written t ms ≡ t ∷ ms = written_as t ms ∙ cond_no _ [] (t ∷ ms) (sym nothing ∙ z) in
          let wide : pair ≡ cond (in_range (renamed_field unnumbered (t ∷ ms))) ACCEPTED NUMBER
          = ep ∙ ap₂ first_of h.verdict p.verdict ∙ verdict_then (within 1 greatest_magnitude t.magnitude) (in_range (renamed_field unnumbered ms))
          ∙ ap (λ (b : Bool). cond (b && in_range (renamed_field unnumbered ms)) ACCEPTED NUMBER) (sym (term_range t)) in
          let long : ltb field_terms r.terms ≡ too_many_terms (renamed_field unnumbered (t ∷ ms)) = ap (ltb field_terms) (p.count ∙ ap suc (sym (length-map ms (renamed_term unnumbered)))) in
          record {
            said = record {
              value = t ∷ ms;
              taken = subst (λ (p : WrittenOf Name). Got poly s at p r.end) e (poly_got g h.taken y.taken);
              verdict =
                  ew ∙ ap₂ (λ (a : ℕ) (b : Bool). first_of a (cond b TERMS ACCEPTED)) wide long
                  ∙ verdict_first (in_range (renamed_field unnumbered (t ∷ ms))) (too_many_terms (renamed_field unnumbered (t ∷ ms)));
              terms = p.count;
              run = λ a b.
                  let c = both_accepted pair (cond (ltb field_terms r.terms) TERMS ACCEPTED) (sym ew ∙ a) in
                  let w = both_accepted m.why r.why (sym ep ∙ c.0) in
                  let l = ltb-false field_terms r.terms (few (ltb field_terms r.terms) c.1) in
                  let d = or_none_left m.bad r.bad b in
                  let f = or_none_right m.bad r.bad b in
                  p.run w.1 f l
                  ∙ ap (λ (q : Poly). q ++ worded (renamed_field (number_in new) ms))
                  (put.run w.0 (omega arith) ∙ ap (λ (u : Term). u ∷ []) (h.term w.0 d ∙ ap worded_term (sym (term_stays t h.names p.named d f))));
              names = both;
            };
            within = all;
          }
