-- Terms put behind each other in a run. Assumes nothing.
use mathlib.Core.Path.{◌≡◌, refl, sym, ap, ap₂, ◌∙◌}
use mathlib.Core.Bool.{true, false, cond}
use mathlib.Core.Logic.{⊎_elim}
use mathlib.Core.List.{List, [], ◌∷◌, ◌++◌, append-nil, append_assoc}
use Prim.Native.Nat.{ℕ, suc, ◌+◌, ◌-◌, ◌*◌, ◌≤◌, ◌<◌}
use Prim.Native.Char.{code}
use Rattle.std.proofs.lemmas.List.{take-append-le}
use native.Mathlib.Omega.{arith}
use lib.Dec.{eqb, leb}
use lib.ListN.{length, take, length-append}
use lib.Seq.{paste, take_all}
use borrow.Author.Tests.{leb-true, leb-false, le-leb, lt-leb, eqb-true, eqb-false, eq-eqb, ne_eqb}
use Rattle.ground.specs.Lists.{gather}
use Rattle.ground.proofs.Tests.{split, cond_yes, cond_no}
use Rattle.limits.specs.Limits.{term_words, field_terms}
use Rattle.limits.specs.Verdicts.{ACCEPTED, NUMBER}
use Rattle.algebra.specs.Polynomial.{Term, Poly}
use Rattle.words.specs.Parts.{Within}
use Rattle.words.proofs.Parts.{within_refl, within_trans, within_wider}
use Rattle.terms.specs.Terms.{decode}
use Rattle.terms.proofs.Decode.{behind_within, decode_behind}
use Rattle.written.specs.Worded.{worded_term, worded}
use Rattle.paper.specs.Grammar.{Bytes, each, term}
use Rattle.paper.specs.Statement.{WrittenTerm, Written, within}
use Rattle.paper.proofs.Reading.{takes_term}
use Rattle.reader.specs.Places.{Fails}
use Rattle.reader.specs.Marks.{span, variable_marks, term_marks, more_marks}
use Rattle.reader.specs.declared.field.Rest.{Rest}
use Rattle.std.proofs.Common.{Option, None, Some, is_none}
use Rattle.std.specs.Option.{option_or}
use Rattle.reader.specs.Fields.{stands_at, Told, TermAt, PutBehind, more_too_many, RestOf}
use Rattle.reader.specs.declared.term.TermRead.{TermRead}
use Rattle.reader.proofs.Marks.{told_none, told_then, told_lead, neither_out, gather_last}
use Rattle.reader.proofs.Following.{ItemsUpTo, passed_none, passed_more, passed_stuck}
use Rattle.reader.proofs.Fields.{stands}

-- ---- one term more
pub put_written : (n why : ℕ) (t out out' : List ℕ) → why ≡ ACCEPTED → field_terms * term_words ≤ length out → n < field_terms → length t ≡ term_words
    → out' ≡ paste out (n * term_words) t term_words → PutBehind n why t out out'
put_written n why t out out' w h l lt e =
    let z : n * term_words ≡ 0 + n * term_words = omega arith in
    let y : (n + 1) * term_words ≡ n * term_words + term_words = omega arith in
    let f : out' ≡ paste out (0 + n * term_words) t term_words = rw (← z) e in
    record {
      run = λ a k. decode_behind 0 n out t out' (omega arith) lt f;
      kept = λ k. rw (y, z) (behind_within 0 n out t out' (omega arith) lt f);
      full = λ k. absurd (let q : ⊥ = omega arith in q);
      refused = λ q. absurd (q w);
    }

-- ---- the first term too many
module _ (greatest at i : ℕ) (ts : List WrittenTerm) (t : WrittenTerm) where
  excess_more : (extra : Option ℕ) → i ≡ at + span (more_marks greatest ts) → extra ≡ more_too_many greatest at ts
      → cond (eqb (suc (length ts)) field_terms) (Some (i + 2)) extra ≡ more_too_many greatest at (ts ++ (t ∷ []))
  unfolding more_too_many
  excess_more extra ei ex = ⊎_elim over under (split (leb field_terms (length (ts ++ (t ∷ [])))))
    where
      n : ℕ
      n = suc (length ts)

      more : length (ts ++ (t ∷ [])) ≡ n
      more = omega (arith, length-append ts (t ∷ []))

      place : List WrittenTerm → Option ℕ
      place us = Some (at + span (more_marks greatest (take (field_terms - 1) us)) + 2)

      over : leb field_terms (length (ts ++ (t ∷ []))) ≡ true → cond (eqb n field_terms) (Some (i + 2)) extra ≡ more_too_many greatest at (ts ++ (t ∷ []))
      over o =
          let l = leb-true field_terms (length (ts ++ (t ∷ []))) o in
          let f : take (field_terms - 1) (ts ++ (t ∷ [])) ≡ take (field_terms - 1) ts = take-append-le (field_terms - 1) ts (t ∷ []) (omega (arith, more)) in
          ⊎_elim
          (λ q.
          let e : i + 2 ≡ at + span (more_marks greatest (take (field_terms - 1) (ts ++ (t ∷ [])))) + 2
          = omega (arith, ap (λ (l : List WrittenTerm). span (more_marks greatest l)) (f ∙ take_all (field_terms - 1) ts (omega (arith, eqb-true n field_terms q)))) in
          cond_yes (eqb n field_terms) (Some (i + 2)) extra q ∙ ap (λ (k : ℕ). Some k) e)
          (λ q. cond_no (eqb n field_terms) (Some (i + 2)) extra q ∙ ex
          ∙ cond_yes (leb field_terms (length ts)) (place ts) None (le-leb field_terms (length ts) (omega (arith, more, eqb-false n field_terms q)))
          ∙ ap (λ (l : List WrittenTerm). Some (at + span (more_marks greatest l) + 2)) (sym f))
          (split (eqb n field_terms))
          ∙ sym (cond_yes (leb field_terms (length (ts ++ (t ∷ [])))) (place (ts ++ (t ∷ []))) None o)

      under : leb field_terms (length (ts ++ (t ∷ []))) ≡ false → cond (eqb n field_terms) (Some (i + 2)) extra ≡ more_too_many greatest at (ts ++ (t ∷ []))
      under u =
          let l = leb-false field_terms (length (ts ++ (t ∷ []))) u in
          cond_no (eqb n field_terms) (Some (i + 2)) extra (ne_eqb n field_terms (λ q. omega (arith, more))) ∙ ex
          ∙ cond_no (leb field_terms (length ts)) (place ts) None (lt-leb field_terms (length ts) (omega (arith, more)))
          ∙ sym (cond_no (leb field_terms (length (ts ++ (t ∷ [])))) (place (ts ++ (t ∷ []))) None u)

-- ---- terms behind a first
pub worded_append : (p q : Written) → worded (p ++ q) ≡ worded p ++ worded q
unfolding worded
worded_append [] q = refl
worded_append (t ∷ p) q = ap (λ (r : Poly). worded_term t ∷ r) (worded_append p q)

-- a term with one byte more before it
term_behind : (greatest : ℕ) (t : WrittenTerm) {i e : ℕ} {o : Option ℕ} → Told (term_marks greatest 0 t) (i + 1) e o → Told (term_marks greatest 1 t) i e o
unfolding term_marks
term_behind greatest t h = told_lead (within 1 greatest) (0 + cond t.negative 1 0) (1 + cond t.negative 1 0) 1 t.magnitude (variable_marks t.variables) (omega arith) h

-- terms stand from at up to the end of r, and are put behind the first
abbrev pub TermsTo : ℕ → Bytes → ℕ → List ℕ → List ℕ → Rest → Type 0
TermsTo greatest s at out out' r =
    ItemsUpTo (code " ") term (λ ts. Told (more_marks greatest ts) at r.end r.outside × RestOf greatest at out out' r ts) s at r.end

-- with the place of the next term, where it is the first too many
abbrev pub marked : Rest → Rest
marked r = record { terms = r.terms; end = r.end; outside = r.outside; extra = cond (eqb r.terms field_terms) (Some (r.end + 2)) r.extra }

pub marked_yes : (r : Rest) → r.terms ≡ field_terms → record { terms = r.terms; end = r.end; outside = r.outside; extra = Some (r.end + 2) } ≡ marked r
marked_yes r h =
    let e = cond_yes (eqb r.terms field_terms) (Some (r.end + 2)) r.extra (eq-eqb r.terms field_terms h) in
    λ i. record { terms = r.terms; end = r.end; outside = r.outside; extra = sym e i }

pub marked_no : (r : Rest) → (r.terms ≡ field_terms → ⊥) → r ≡ marked r
marked_no r h =
    let e = cond_no (eqb r.terms field_terms) (Some (r.end + 2)) r.extra (ne_eqb r.terms field_terms h) in
    λ i. record { terms = r.terms; end = r.end; outside = r.outside; extra = sym e i }

module _ (greatest : ℕ) (s : Bytes) (at : ℕ) (out : List ℕ) where
  pub terms_none : at ≤ length s → TermsTo greatest s at out out (record { terms = 1; end = at; outside = None; extra = None })
  unfolding more_marks gather worded more_too_many
  terms_none h = passed_none (code " ") term s at h
      (told_none at, record { count = refl; run = λ a l. sym (append-nil (decode 1 out)); kept = λ l. within_refl; excess = refl })

  module _ (mid : List ℕ) (r : Rest) (p : TermsTo greatest s at out mid r) (here : stands_at s r.end (code " ") ≡ true) where
    pub terms_stuck : {q : ℕ} → Fails term s (r.end + 1) q → Fails (each (code " ") term) s at q
    terms_stuck f = passed_stuck (code " ") term s at r.end p (stands s r.end (code " ") here).0 (stands s r.end (code " ") here).1 f

    module _ (t : TermRead) (x : TermAt greatest s (r.end + 1) t) (out' : List ℕ) (why : ℕ) (w : why ≡ cond (is_none t.outside) ACCEPTED NUMBER) where
      one_more : PutBehind r.terms why t.term mid out'
          → TermsTo greatest s at out out' (record { terms = r.terms + 1; end = t.end; outside = option_or r.outside t.outside; extra = (marked r).extra })
      unfolding more_marks worded
      one_more put =
          passed_more (code " ") term s at r.end p (stands s r.end (code " ") here).0 (stands s r.end (code " ") here).1 takes_term x.taken
          (λ ts q. (
            rw (gather_last (term_marks greatest 1) ts x.value) (told_then q.0 (term_behind greatest x.value x.told)),
            record {
              count = omega (arith, q.1.count, length-append ts (x.value ∷ []));
              run = λ a l.
                  let c = neither_out r.outside t.outside a in
                  put.run (w ∙ ap (λ (o : Option ℕ). cond (is_none o) ACCEPTED NUMBER) c.1) l
                  ∙ ap₂ (λ (p : Poly) (u : Term). p ++ (u ∷ [])) (q.1.run c.0 (omega arith)) (x.holds c.1)
                  ∙ append_assoc (decode 1 out) (worded ts) (worded_term x.value ∷ [])
                  ∙ ap (λ (p : Poly). decode 1 out ++ p) (sym (worded_append ts (x.value ∷ [])));
              kept = λ l.
                  within_trans
                  (within_wider term_words term_words (r.terms * term_words) ((r.terms + 1) * term_words) out mid (omega arith) (omega arith) (q.1.kept (omega arith)))
                  (within_wider term_words (r.terms * term_words) ((r.terms + 1) * term_words) ((r.terms + 1) * term_words) mid out' (omega (arith, q.1.count)) (omega arith) (put.kept l));
              excess =
                  ap (λ (n : ℕ). cond (eqb n field_terms) (Some (r.end + 2)) r.extra) q.1.count
                  ∙ excess_more greatest at r.end ts x.value r.extra q.0.ends q.1.excess;
            },
          ))

      pub terms_more : (m : Rest) → m ≡ marked r → PutBehind m.terms why t.term mid out'
          → TermsTo greatest s at out out' (record { terms = m.terms + 1; end = t.end; outside = option_or m.outside t.outside; extra = m.extra })
      terms_more m e put = rw e (one_more (rw e at put))

-- the words past the most terms of a field stay
pub put_within : {n why : ℕ} {t out out' : List ℕ} → 1 ≤ n → PutBehind n why t out out' → Within term_words (field_terms * term_words) out out'
put_within {n} {out = out} {out' = out'} h put =
    ⊎_elim
    (λ e. let l = leb-true (n + 1) field_terms e in
    within_wider term_words (n * term_words) ((n + 1) * term_words) (field_terms * term_words) out out' (omega arith) (omega arith) (put.kept l))
    (λ e. let l = leb-false (n + 1) field_terms e in rw (put.full (omega arith)) within_refl)
    (split (leb (n + 1) field_terms))
