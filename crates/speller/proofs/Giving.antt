-- Answers of the spelling writer put together: refused or written, the run that is written, and the scratch afterwards. Assumes nothing.
use mathlib.Core.Path.{◌≡◌, refl, sym, ap, ◌∙◌, subst}
use mathlib.Core.Bool.{true, false}
use mathlib.Core.List.{List, [], ◌∷◌, ◌++◌}
use Prim.Native.Nat.{ℕ, zero, suc, ◌^◌, ◌≤◌, ◌<◌}
use native.Mathlib.Nat.{zero-add}
use native.Mathlib.Omega.{arith}
use lib.Dec.{eqb, leb, ltb}
use lib.ListN.{length, drop, get_or, replicate}
use borrow.Author.Tests.{leb-true, leb-false, lt-ltb, le-ltb}
use Rattle.ground.proofs.Tests.{cond_yes, cond_no}
use Rattle.limits.specs.Limits.{line_bytes, least_spelling_scratch}
use Rattle.limits.specs.Verdicts.{ACCEPTED, SHORT, LONGLINE, FULL}
use Rattle.limits.specs.Refusals.{number_of}
use Rattle.limits.specs.declared.refusal.Refusal.{Refusal}
use Rattle.limits.specs.declared.refusal.Refusal.TheVariants.{Short, LongLine, Full}
use Rattle.std.specs.Prelude.{Ok, Err, IsErrAnd}
use Rattle.algebra.specs.Polynomial.{Poly, reduce, Reduced}
use Rattle.algebra.proofs.Reduced.{reduced_reduce}
use Rattle.algebra.proofs.Sums.{bound, below_bound}
use Rattle.terms.specs.Terms.{none, decode, Leaves}
use Rattle.paper.specs.Grammar.{Bytes}
use Rattle.paper.specs.Spelling.{Spelled, refuse, spell, spell_read, whole_field, spell_field, output_after, scratch_after}
use Rattle.paper.proofs.Ranges.{ring_most}
use Rattle.written.specs.Worded.{Holds}
use Rattle.written.proofs.Meaning.{worded_reduced}
use Rattle.writer.specs.Writing.{written, Wrote, Cut}
use Rattle.speller.specs.Spells.{Answer, Gives, Spells, fitted, Accepts}
use Rattle.speller.proofs.Judging.{accepted_fitted, not_short}

-- ---- refused, or written
pub gives_as : {x y : Spelled} {out out' : Bytes} {r : Answer} → x ≡ y → Gives x out out' r → Gives y out out' r
gives_as {out = out} {out' = out'} {r = r} e g = subst (λ (z : Spelled). Gives z out out' r) e g

pub gives_refused : {out : Bytes} (why : Refusal) → Gives (refuse (number_of why)) out out (Err why)
unfolding output_after
gives_refused why = record { verdict = refl; written = refl; output = refl }

-- as at a `?`
pub gives_on : {out : Bytes} (why : Refusal) (r : Answer) → IsErrAnd r (λ q. q ≡ why) → Gives (refuse (number_of why)) out out r
gives_on why (Ok n) h = absurd h
gives_on {out} why (Err q) h = subst (λ (y : Refusal). Gives (refuse (number_of y)) out out (Err q)) h (gives_refused q)

module _ (w : Bytes) {out : Bytes} where
  pub gives_full : leb (length w) (length out) ≡ false → Gives (fitted w (length out)) out out (Err Full)
  unfolding fitted
  gives_full f =
      gives_as (sym (cond_yes (ltb (length out) (length w)) (refuse FULL) (record { verdict = ACCEPTED; spelling = w }) (lt-ltb (length out) (length w) (leb-false (length w) (length out) f))))
      (gives_refused Full)

  pub gives_written : {out' : Bytes} {n : ℕ} → leb (length w) (length out) ≡ true → Wrote out 0 w out' n → Gives (fitted w (length out)) out out' (Ok n)
  unfolding fitted output_after written
  gives_written f h =
      gives_as (sym (cond_no (ltb (length out) (length w)) (refuse FULL) (record { verdict = ACCEPTED; spelling = w }) (le-ltb (length out) (length w) (leb-true (length w) (length out) f))))
      (record { verdict = refl; written = h.next ∙ zero-add (length w); output = h.bytes ∙ ap (λ (i : ℕ). w ++ drop i out) (zero-add (length w)) })

-- ---- the run
cut_reduced : (k b : ℕ) (p : Poly) → Reduced k b p → (i : ℕ) → i < length p → (get_or p i none).coef < 2 ^ k
cut_reduced k b [] r i h = absurd (let z : i < 0 = h in omega arith)
cut_reduced k b (t ∷ p) r zero h = r.2
cut_reduced k b (t ∷ p) r (suc i) h = cut_reduced k t.set p r.3 i (omega arith)

pub leaves_cut : (k : ℕ) (p : Poly) {n m : ℕ} {s words : List ℕ} → Leaves n (reduce k p) s words m → Cut k (decode m words)
leaves_cut k p l =
    subst (Cut k) (sym l.terms) (record { at = cut_reduced k (bound p) (reduce k p) (reduced_reduce k (bound p) p (below_bound (bound p) p (omega arith))) })

pub gives_same : (k : ℕ) {p q : Poly} {out out' : Bytes} {r : Answer} → p ≡ q → Gives (fitted (spell k p) (length out)) out out' r → Gives (fitted (spell k q) (length out)) out out' r
gives_same k {out = out} e g = gives_as (ap (λ (p : Poly). fitted (spell k p) (length out)) e) g

pub gives_field : {field : Bytes} {k n : ℕ} {words : List ℕ} {out out' : Bytes} {r : Answer} (a : Accepts field k) → Holds a.value n 0 words
    → Gives (fitted (spell k (reduce k (decode n words))) (length out)) out out' r → Gives (spell_read k (length out) (whole_field field)) out out' r
gives_field {field} {k} {out = out} a h g =
    gives_as (sym (accepted_fitted field k (length out) a))
    (gives_same k (ap (reduce k) h.run ∙ worded_reduced k (ring_most k a.ring) a.value a.ranged) g)

-- ---- the whole
module _ {field : Bytes} {k : ℕ} {scratch : List ℕ} {out : Bytes} where
  spells : {r : Answer} (x : Spelled) {scratch' : List ℕ} {out' : Bytes} → spell_field field k (length scratch) (length out) ≡ x → Gives x out out' r
      → scratch' ≡ scratch_after x.verdict scratch → Spells field k scratch out r scratch' out'
  spells x e g c = record { gives = gives_as (sym e) g; cleared = c ∙ ap (λ (y : Spelled). scratch_after y.verdict scratch) (sym e) }

  pub spells_short : length scratch < least_spelling_scratch → Spells field k scratch out (Err Short) scratch out
  unfolding spell_field scratch_after
  spells_short h = spells (refuse SHORT) (rw (lt-ltb (length scratch) least_spelling_scratch h)) (gives_refused Short) refl

  module _ {scratch' : List ℕ} (h : least_spelling_scratch ≤ length scratch) (z : scratch' ≡ replicate (length scratch) 0) where
    pub spells_long : line_bytes < length field → Spells field k scratch out (Err LongLine) scratch' out
    unfolding spell_field scratch_after
    spells_long l = spells (refuse LONGLINE) (rw (le-ltb (length scratch) least_spelling_scratch h, lt-ltb line_bytes (length field) l)) (gives_refused LongLine) z

    pub spells_read : {r : Answer} {out' : Bytes} → length field ≤ line_bytes → Gives (spell_read k (length out) (whole_field field)) out out' r → Spells field k scratch out r scratch' out'
    unfolding spell_field scratch_after
    spells_read l g =
        let x : Spelled = spell_read k (length out) (whole_field field) in
        spells x (rw (le-ltb (length scratch) least_spelling_scratch h, le-ltb line_bytes (length field) l)) g
        (z ∙ sym (cond_no (eqb x.verdict SHORT) scratch (replicate (length scratch) 0) (not_short k (length out) (whole_field field))))
