-- A field from its first term and the terms behind it, and the field `0`. Assumes nothing.
use mathlib.Core.Path.{◌≡◌, refl, sym, ap, ap₂, subst, ◌∙◌}
use mathlib.Core.Bool.{Bool, true, false, ◌&&◌, not, cond}
use mathlib.Core.Logic.{⊎_elim}
use mathlib.Core.List.{List, [], ◌∷◌, ◌++◌}
use Prim.Native.Nat.{ℕ, suc, ◌+◌, ◌-◌, ◌*◌, ◌≤◌, ◌<◌}
use Prim.Native.Char.{code}
use native.Mathlib.Numerals.{add-one}
use native.Mathlib.Omega.{arith}
use lib.Dec.{eqb, leb, ltb}
use lib.ListN.{length, take, drop, get_or, length-drop, take-append-drop}
use lib.Seq.{drop-cons}
use borrow.Author.Tests.{eqb-true, leb-true, le-leb, ltb-true, ltb-false, lt-ltb}
use Rattle.ground.specs.Lists.{every, total}
use Rattle.ground.proofs.Tests.{bool_ext, split, and_left, and_right}
use Rattle.limits.specs.Limits.{term_words, field_terms}
use Rattle.limits.specs.Verdicts.{ACCEPTED, NUMBER, TERMS}
use Rattle.algebra.specs.Polynomial.{Poly, Term}
use Rattle.words.specs.Parts.{Within}
use Rattle.words.proofs.Parts.{within_refl, within_trans, within_wider}
use Rattle.terms.specs.Terms.{decode}
use Rattle.written.specs.Worded.{worded}
use Rattle.paper.specs.Grammar.{Bytes, got, term, as_written, polynomial, more_terms}
use Rattle.paper.specs.Statement.{WrittenTerm, Written, too_many_terms}
use Rattle.paper.specs.Spelling.{spell_number, spell_digits}
use Rattle.paper.specs.Rules.{first}
use Rattle.paper.proofs.Reading.{takes_term, in_field, each_none}
use Rattle.paper.proofs.Pieces.{is_zero, each_empty, term_zero, zero_term}
use Rattle.reader.specs.Places.{Got, Fails}
use Rattle.reader.specs.Marks.{all_fine, span, first_outside, mark, term_marks, more_marks, field_marks, first_too_many}
use Rattle.std.proofs.Common.{Option, None, Some, Ok, Err, unwrap_or, is_none}
use Rattle.std.specs.Option.{option_or}
use Rattle.reader.specs.declared.stop.Stop.{Stop}
use Rattle.reader.specs.Fields.{first_of, Told, TermAt, PutBehind, more_too_many, RestAt, RestIs, FieldIs}
use Rattle.reader.specs.declared.term.TermRead.{TermRead}
use Rattle.reader.specs.declared.field.Rest.{Rest}
use Rattle.reader.proofs.Marks.{told_then, told_verdict, told_byte, accepted_none, neither_out, both_accepted, span_append}
use Rattle.reader.proofs.Following.{got_onward, got_then, got_give, fails_then, fails_first}

-- ---- the polynomial of a first term and others
module _ {s : Bytes} {at i e : ℕ} {t : WrittenTerm} {ts : List WrittenTerm} (g : Got term s at t i) (h : Got more_terms s i ts e) where
  polynomial_got : Got polynomial s at (as_written t ts) e
  unfolding polynomial
  polynomial_got = got_then term _ g (got_then more_terms _ h (got_give _ h.inside))

  -- the field is `0`
  as_zero : e ≡ at + 1 → get_or s at 0 ≡ 48 → (ts ≡ []) × (is_zero t ≡ true)
  unfolding in_field
  as_zero q b =
      let n = got_onward term takes_term g in
      let l : at < length s = omega (arith, g.inside) in
      let o = h.onward in
      let ei : e ≡ i = omega (arith, length-drop at s, length-drop i s) in
      let ia : i ≡ suc at = omega (arith, add-one at) in
      let d : code "0" ∷ drop (suc at) s ≡ drop at s = sym (drop-cons s at 0 l ∙ ap (λ (x : ℕ). x ∷ drop (suc at) s) b) in (
        each_none (code " ") term takes_term refl (drop i s) ts (h.reads ∙ ap (λ (k : ℕ). got ts (drop k s)) ei),
        zero_term (drop (suc at) s) t (ap term d ∙ g.reads ∙ ap (λ (k : ℕ). got t (drop k s)) ia),
      )

  -- the field is not `0`
  as_terms : (e ≡ at + 1 → get_or s at 0 ≡ 48 → ⊥) → as_written t ts ≡ t ∷ ts
  unfolding as_written
  as_terms q = go ts h.reads
    where
      one : term (drop at s) ≡ got t (drop i s) → i ≤ length s → more_terms (drop i s) ≡ got [] (drop e s) → is_zero t ≡ true → ⊥
      one r k m z =
          let d = term_zero (drop at s) t (drop i s) r z in
          let c = drop-cons s at 0 (omega (arith, got_onward term takes_term g)) in
          let o = h.inside in
          let b : get_or s at 0 ≡ 48 = cc in
          q (omega (arith, ap length (each_empty (code " ") term (drop i s) (drop e s) m), ap length d, length-drop at s, length-drop i s, length-drop e s)) b

      go : (us : List WrittenTerm) → more_terms (drop i s) ≡ got us (drop e s) → as_written t us ≡ t ∷ us
      go (u ∷ us) m = refl
      go [] m =
          ⊎_elim (λ z. absurd (one g.reads g.inside m z)) (λ z. ap (λ (z : Bool). cond z [] (t ∷ [])) z) (split (is_zero t))

zero_magnitude : (t : WrittenTerm) → is_zero t ≡ true → t.magnitude ≡ 0
zero_magnitude t z =
    eqb-true t.magnitude 0 (and_right (not t.negative) (eqb t.magnitude 0) (and_left (not t.negative && eqb t.magnitude 0) _ z))

-- the term 0 is out of its range
zero_outside : (greatest : ℕ) (t : WrittenTerm) {at e : ℕ} {o : Option ℕ} → is_zero t ≡ true → Told (term_marks greatest 0 t) at e o
    → cond (is_none o) ACCEPTED NUMBER ≡ ACCEPTED → ⊥
unfolding term_marks mark all_fine every
zero_outside greatest t z h a =
    let m = zero_magnitude t z in
    let v = told_verdict h in
    let w : is_none _ ≡ false = rw m at v in
    let y : NUMBER ≡ ACCEPTED = sym (ap (λ (b : Bool). cond b ACCEPTED NUMBER) w) ∙ a in
    omega arith

-- ---- counts
pub verdict_first : (a b : Bool) → first_of (cond a ACCEPTED NUMBER) (cond b TERMS ACCEPTED) ≡ first ((NUMBER, not a) ∷ (TERMS, b) ∷ [])
unfolding first_of first
verdict_first true b = refl
verdict_first false b = refl

pub few : (b : Bool) → cond b TERMS ACCEPTED ≡ ACCEPTED → b ≡ false
few true e = absurd (let z : ⊥ = omega arith in z)
few false e = refl

unchanged : (k : ℕ) (s r : List ℕ) → Within k k s r → r ≡ s
unchanged k s r w = sym (take-append-drop k r) ∙ ap₂ ◌++◌ w.before w.after ∙ take-append-drop k s

more_tests : (n : ℕ) → leb field_terms n ≡ ltb field_terms (suc n)
more_tests n =
    bool_ext (leb field_terms n) (ltb field_terms (suc n))
    (λ e. lt-ltb field_terms (suc n) (omega (arith, leb-true field_terms n e)))
    (λ e. le-leb field_terms n (omega (arith, ltb-true field_terms (suc n) e)))

excess_first : (greatest at i : ℕ) (t : WrittenTerm) (ts : List WrittenTerm) → i ≡ at + span (term_marks greatest 0 t)
    → unwrap_or (more_too_many greatest i ts) 0 ≡ first_too_many greatest at (t ∷ ts)
unfolding more_too_many first_too_many too_many_terms field_marks
excess_first greatest at i t ts h = go (leb field_terms (length ts)) ∙ ap (λ (b : Bool). cond b place 0) (more_tests (length ts))
  where
    place : ℕ
    place = at + span (term_marks greatest 0 t ++ more_marks greatest (take (field_terms - 1) ts)) + 2

    go : (b : Bool) → unwrap_or (cond b (Some (i + span (more_marks greatest (take (field_terms - 1) ts)) + 2)) None) 0 ≡ cond b place 0
    go true = omega (arith, span_append (term_marks greatest 0 t) (more_marks greatest (take (field_terms - 1) ts)))
    go false = refl

-- ---- the field
module _ (greatest : ℕ) (s : Bytes) (at : ℕ) (out : List ℕ) where
  pub field_stuck : {e : Stop} → Fails term s at e.at → FieldIs greatest s at out out (Err e)
  unfolding polynomial
  field_stuck f = record { within = within_refl; said = fails_first term _ f }

  module _ (t : TermRead) (x : TermAt greatest s at t) (mid out' : List ℕ) (why : ℕ) (w : why ≡ cond (is_none t.outside) ACCEPTED NUMBER)
      (put : PutBehind 0 why t.term out mid) where
    all : Within term_words (field_terms * term_words) mid out' → Within 0 (field_terms * term_words) out out'
    all l = within_trans
        (within_wider 0 (0 * term_words) ((0 + 1) * term_words) (field_terms * term_words) out mid (omega arith) (omega arith) (put.kept (omega arith)))
        (within_wider 0 term_words (field_terms * term_words) (field_terms * term_words) mid out' (omega arith) (omega arith) l)

    pub rest_stuck : {e : Stop} → RestIs greatest s t.end mid out' (Err e) → FieldIs greatest s at out out' (Err e)
    unfolding polynomial
    rest_stuck k = record { within = all k.within; said = fails_then term _ x.taken (fails_first more_terms _ k.said) }

    module _ (r : Rest) (k : RestIs greatest s t.end mid out' (Ok r)) where
      y : RestAt greatest s t.end mid out' r
      y = k.said

      pub field_zero : r.end ≡ at + 1 → get_or s at 0 ≡ 48 → FieldIs greatest s at out out' (Ok (record { why = ACCEPTED; end = r.end; terms = 0; outside = 0; extra = 0 }))
      unfolding as_written field_marks mark span total first_outside all_fine every first too_many_terms first_too_many spell_number spell_digits worded decode
      field_zero e b =
          let z = as_zero x.taken y.taken e b in
          let c : r.terms ≡ 1 = y.holds.count ∙ ap (λ (l : List WrittenTerm). suc (length l)) z.0 in
          let l : Within term_words term_words mid out' = rw c at (y.holds.kept (omega arith)) in
          let same : out' ≡ out = unchanged term_words mid out' l ∙ put.refused (λ q. zero_outside greatest x.value z.1 x.told (sym w ∙ q)) in
          let v : as_written x.value y.value ≡ [] = ap (as_written x.value) z.0 ∙ ap (λ (z : Bool). cond z [] (x.value ∷ [])) z.1 in
          record {
            within = all k.within;
            said = record {
              value = [];
              taken = subst (λ (p : Written). Got polynomial s at p r.end) v (polynomial_got x.taken y.taken);
              ends = omega arith;
              verdict = refl;
              outside = refl;
              excess = refl;
              terms = refl;
              run = λ a. refl;
              kept = λ l. rw same within_refl;
            };
          }

      pub field_terms_law : (r.end ≡ at + 1 → get_or s at 0 ≡ 48 → ⊥) → (numbers why' : ℕ) → numbers ≡ cond (is_none (option_or t.outside r.outside)) ACCEPTED NUMBER
          → why' ≡ first_of numbers (cond (ltb field_terms r.terms) TERMS ACCEPTED)
          → FieldIs greatest s at out out' (Ok (record {
            why = why';
            end = r.end;
            terms = r.terms;
            outside = unwrap_or (option_or t.outside r.outside) 0;
            extra = unwrap_or r.extra 0;
          }))
      unfolding field_marks too_many_terms worded decode
      field_terms_law z numbers why' ea ec =
          let p = y.holds in
          let v = as_terms x.taken y.taken z in
          let d = told_then x.told y.told in
          record {
            within = all k.within;
            said = record {
              value = x.value ∷ y.value;
              taken = subst (λ (p : Written). Got polynomial s at p r.end) v (polynomial_got x.taken y.taken);
              ends = d.ends;
              verdict =
                  ec ∙ ap₂ (λ (a b : ℕ). first_of a (cond (ltb field_terms b) TERMS ACCEPTED)) (ea ∙ ap (λ (b : Bool). cond b ACCEPTED NUMBER) (told_verdict d)) p.count
                  ∙ verdict_first (all_fine (term_marks greatest 0 x.value ++ more_marks greatest y.value)) (ltb field_terms (suc (length y.value)));
              outside = told_byte d;
              excess = ap (λ (o : Option ℕ). unwrap_or o 0) p.excess ∙ excess_first greatest at t.end x.value y.value x.told.ends;
              terms = p.count;
              run = λ a.
                  let c = both_accepted numbers (cond (ltb field_terms r.terms) TERMS ACCEPTED) (sym ec ∙ a) in
                  let n = neither_out t.outside r.outside (accepted_none (option_or t.outside r.outside) (sym ea ∙ c.0)) in
                  let l = ltb-false field_terms r.terms (few (ltb field_terms r.terms) c.1) in
                  p.run n.1 l
                  ∙ ap (λ (q : Poly). q ++ worded y.value)
                  (put.run (w ∙ ap (λ (o : Option ℕ). cond (is_none o) ACCEPTED NUMBER) n.0) (omega arith) ∙ ap (λ (u : Term). u ∷ []) (x.holds n.0));
              kept = λ l.
                  within_trans
                  (within_wider 0 (0 * term_words) ((0 + 1) * term_words) (r.terms * term_words) out mid (omega arith) (omega (arith, p.count)) (put.kept (omega arith)))
                  (within_wider 0 term_words (r.terms * term_words) (r.terms * term_words) mid out' (omega arith) (omega arith) (p.kept l));
            };
          }
