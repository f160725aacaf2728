-- Reducing a run in falling order, in its words: a term put behind, and all terms. Assumes nothing.
use Rattle.std.proofs.Common.{◌≡◌, ℕ, suc, ◌+◌, ◌-◌, ◌*◌, ◌%◌, ◌^◌, ◌<◌, ◌≤◌, Bool, true, false, cond, eqb, List, [], ◌∷◌, ◌++◌, length, get_or, drop, sym, refl, ap, ◌∙◌, ap₂, append_assoc, append-nil, arith, drop_of_length-le, eq-eqb, ne_eqb, eqb-true}
use lib.Seq.{paste}
use Rattle.limits.specs.Limits.{set_words, term_words}
use Rattle.algebra.specs.Polynomial.{Term, Poly, equal, put, reduce, Below}
use Rattle.words.specs.Parts.{part, Within}
use Rattle.words.proofs.Parts.{within_refl, within_trans, within_wider, above_kept}
use Rattle.terms.specs.Terms.{term_of, decode, Leaves}
use Rattle.terms.proofs.Decode.{decode_length, decode_rest, decode_above, behind_within, decode_behind}
use Rattle.reduction.specs.Order.{set_at, Falls}
use Rattle.reduction.specs.Reducing.{Sorted}
use Rattle.reduction.specs.Places.{Descends, gathered_to, gathered}
use Rattle.reduction.proofs.Reordered.{reduce_order}
use Rattle.reduction.proofs.Arranged.{set_read}
use Rattle.reduction.proofs.Gathering.{gathered_reduce}

-- ---- a term put behind n terms, or left away
module _ (k n : ℕ) (s t : List ℕ) (c d : ℕ) (ed : d ≡ c % 2 ^ k) where
  pub put_zero : d ≡ 0 → Leaves (n + 1) (decode n s ++ put k (term_of t).set c []) s s n
  unfolding put
  put_zero z = record { terms = rw (eq-eqb (c % 2 ^ k) 0 (sym ed ∙ z)) (sym (append-nil (decode n s))); few = omega arith; within = within_refl }

  pub put_one : (a : ℕ) (u r : List ℕ) → (d ≡ 0 → ⊥) → (n + 1) * term_words ≤ length s → a ≡ (term_of t).set → length u ≡ term_words → term_of u ≡ record { set = a; coef = d }
      → r ≡ paste s (n * term_words) u term_words → Leaves (n + 1) (decode n s ++ put k (term_of t).set c []) s r (n + 1)
  unfolding put
  put_one a u r z l ea lu eu er = record {
    terms = decode_behind 0 n s u r (omega arith) lu er0 ∙ ap (λ (x : Term). decode n s ++ (x ∷ [])) (eu ∙ new)
        ∙ rw (ne_eqb (c % 2 ^ k) 0 (λ e. z (ed ∙ e)));
    few = omega arith;
    within = within_wider 0 (0 + n * term_words) (0 + n * term_words + term_words) ((n + 1) * term_words) s r (omega arith) (omega arith) (behind_within 0 n s u r (omega arith) lu er0);
  }
    where
      er0 : r ≡ paste s (0 + n * term_words) u term_words
      er0 = let e : n * term_words ≡ 0 + n * term_words = omega arith in er ∙ ap (λ (w : ℕ). paste s w u term_words) e

      new : ◌≡◌ {A = Term} (record { set = a; coef = d }) (record { set = (term_of t).set; coef = c % 2 ^ k })
      new = λ i. record { set = ea i; coef = ed i }

put_behind : (k m c : ℕ) (q : Poly) → put k m c q ≡ put k m c [] ++ q
unfolding put
put_behind k m c q = go (eqb (c % 2 ^ k) 0)
  where
    go : (b : Bool) → cond b q (record { set = m; coef = c % 2 ^ k } ∷ q) ≡ cond b [] (record { set = m; coef = c % 2 ^ k } ∷ []) ++ q
    go true = refl
    go false = refl

-- ---- a run whose sets fall, term by term
below_at : (b : ℕ) (p : Poly) → ((j : ℕ) → j < length p → set_at p j < b) → Below b p
below_at b [] h = tt
below_at b (t ∷ p) h = (h 0 (omega arith), below_at b p (λ j l. h (suc j) (omega arith)))

descends : (p : Poly) → ((j c : ℕ) → j < c → c < length p → set_at p c ≤ set_at p j) → Descends p
descends [] f = tt
descends (t ∷ p) f = (below_at (suc t.set) p (λ j l. omega (arith, f 0 (suc j) (omega arith) (omega arith))), descends p (λ j c a l. f (suc j) (suc c) (omega arith) (omega arith)))

-- ---- all terms
-- how far a merge has come: the first terms, then c at the set of the i-th with the terms after it
pub record Summing (k n : ℕ) (s x : List ℕ) (c left i : ℕ) : Type 0 where
  pub few : left ≤ i
  pub inside : i < n
  pub within : Within 0 (i * term_words) s x
  pub rest : gathered k (decode n s) ≡ decode left x ++ gathered_to k (set_at (decode n s) i) c (drop (i + 1) (decode n s))

pub summing_none : (k : ℕ) {n : ℕ} {s : List ℕ} → n ≡ 0 → Leaves n (reduce k (decode n s)) s s 0
unfolding decode reduce
summing_none k {n} {s} e = record { terms = sym (ap (λ (m : ℕ). reduce k (decode m s)) e); few = omega arith; within = within_refl }

pub summing_start : {k n : ℕ} {s : List ℕ} → 0 < n → Summing k n s s (get_or s set_words 0) 0 0
unfolding decode gathered term_of
summing_start {k} {n} {s} h = record { few = omega arith; inside = h; within = within_refl; rest = rw e }
  where
    e : n ≡ suc (n - 1)
    e = omega arith

module _ {k n : ℕ} {s x t : List ℕ} {c left i : ℕ} (a : Summing k n s x c left i) (et : t ≡ part (i * term_words) term_words x) where
  -- as the words behind stand, so does the i-th term
  kept : (j : ℕ) → i ≤ j → part (j * term_words) term_words x ≡ part (j * term_words) term_words s
  kept j h = above_kept 0 (i * term_words) s x a.within (j * term_words) term_words (omega arith)

  rest_t : gathered k (decode n s) ≡ decode left x ++ gathered_to k (term_of t).set c (drop (i + 1) (decode n s))
  rest_t = a.rest ∙ ap (λ (m : ℕ). decode left x ++ gathered_to k m c (drop (i + 1) (decode n s))) (set_read n i s t a.inside (et ∙ kept i (omega arith)))

  -- u is the next term, and b tells whether it has the set of t
  module _ {u : List ℕ} {b : Bool} (h : i + 1 < n) (eu : u ≡ part ((i + 1) * term_words) term_words x) (eb : b ≡ eqb (term_of t).set (term_of u).set) where
    next : drop (i + 1) (decode n s) ≡ term_of u ∷ drop (i + 1 + 1) (decode n s)
    next = decode_rest n (i + 1) s u h (eu ∙ kept (i + 1) (omega arith))

    here : (term_of u).set ≡ set_at (decode n s) (i + 1)
    here = sym (set_read n (i + 1) s u h (eu ∙ kept (i + 1) (omega arith)))

    wider : Within 0 ((i + 1) * term_words) s x
    wider = within_wider 0 0 (i * term_words) ((i + 1) * term_words) s x (omega arith) (omega arith) a.within

    pub summing_same : {d : ℕ} → b ≡ true → d ≡ (c + get_or u set_words 0) % 2 ^ 64 → Summing k n s x d left (i + 1)
    unfolding gathered_to term_of
    summing_same f e = record {
      few = omega (arith, a.few);
      inside = h;
      within = wider;
      rest = rest_t ∙ ap (λ (p : Poly). decode left x ++ gathered_to k (term_of t).set c p) next ∙ rw (sym eb ∙ f)
          (ap₂ (λ (m d : ℕ). decode left x ++ gathered_to k m d (drop (i + 1 + 1) (decode n s))) (eqb-true (term_of t).set (term_of u).set (sym eb ∙ f) ∙ here) (sym e));
    }

    pub summing_other : {r : List ℕ} {m : ℕ} → b ≡ false → Leaves (left + 1) (decode left x ++ put k (term_of t).set c []) x r m
        → Summing k n s r (get_or u set_words 0) m (i + 1)
    unfolding gathered_to term_of
    summing_other {r} {m} f l = record {
      few = omega (arith, a.few, l.few);
      inside = h;
      within = within_trans wider (within_wider 0 0 ((left + 1) * term_words) ((i + 1) * term_words) x r (omega arith) (omega (arith, a.few)) l.within);
      rest = let q = gathered_to k (term_of u).set (get_or u set_words 0) (drop (i + 1 + 1) (decode n s)) in
          rest_t ∙ ap (λ (p : Poly). decode left x ++ gathered_to k (term_of t).set c p) next ∙ rw (sym eb ∙ f)
          (ap (λ (p : Poly). decode left x ++ p) (put_behind k (term_of t).set c q) ∙ sym (append_assoc (decode left x) (put k (term_of t).set c []) q)
          ∙ ap₂ (λ (p : Poly) (d : ℕ). p ++ gathered_to k d (get_or u set_words 0) (drop (i + 1 + 1) (decode n s))) (sym l.terms) here);
    }

  pub summing_end : {r : List ℕ} {m : ℕ} → k ≤ 64 → Falls 1 (decode n s) → n ≤ i + 1 → Leaves (left + 1) (decode left x ++ put k (term_of t).set c []) x r m
      → Leaves n (reduce k (decode n s)) s r m
  unfolding gathered_to
  summing_end {r} k64 f h l = record {
    terms = l.terms ∙ sym (rest_t ∙ ap (λ (p : Poly). decode left x ++ gathered_to k (term_of t).set c p) (drop_of_length-le (decode n s) {i = i + 1} (omega (arith, decode_length n s))))
        ∙ gathered_reduce k k64 (decode n s) (descends (decode n s) (λ j d jd dn. f.after j d jd (omega arith) dn));
    few = omega (arith, a.few, a.inside, l.few);
    within = within_trans (within_wider 0 0 (i * term_words) (n * term_words) s x (omega arith) (omega (arith, a.inside)) a.within)
        (within_wider 0 0 ((left + 1) * term_words) (n * term_words) x r (omega arith) (omega (arith, a.few, a.inside)) l.within);
  }

-- sorted, then merged
pub reduced_after : (k : ℕ) {n m : ℕ} {s x r : List ℕ} → Sorted n s x → Leaves n (reduce k (decode n x)) x r m → Leaves n (reduce k (decode n s)) s r m
reduced_after k {n} {m} {s} {x} a b = record {
  terms = b.terms ∙ sym (reduce_order k (decode n s) (decode n x) a.arranged.same);
  few = b.few;
  within = within_trans a.arranged.within b.within;
}

-- reduced in place, then compared with the n terms at word `at`, as b tells
module _ (k n m left at : ℕ) (s r : List ℕ) (h : m * term_words ≤ at) (a : Leaves m (reduce k (decode m s)) s r left) where
  pub reduced_within : Within 0 at s r
  reduced_within = within_wider 0 0 (m * term_words) at s r (omega arith) h a.within

  pub reduced_same : (b : Bool) → b ≡ equal (decode n (drop at r)) (decode left r) → b ≡ equal (decode n (drop at s)) (reduce k (decode m s))
  reduced_same b e = e ∙ ap₂ equal (decode_above n at 0 at s r reduced_within (omega arith)) a.terms
