-- Products of a term with a run, appended one by one. Assumes nothing.
use mathlib.Core.Path.{◌≡◌, refl, sym, ap, ap₂, ◌∙◌}
use mathlib.Core.List.{List, [], ◌∷◌, ◌++◌, append-nil, append_assoc}
use Prim.Native.Nat.{ℕ, ◌+◌, ◌*◌, ◌%◌, ◌^◌, ◌≤◌}
use native.Mathlib.Omega.{arith}
use lib.Bits.{bit_or}
use lib.ListN.{length, get_or, drop}
use lib.Seq.{paste}
use Rattle.limits.specs.Limits.{set_words, term_words}
use Rattle.algebra.specs.Polynomial.{Term, Poly, times}
use Rattle.words.specs.Parts.{part}
use Rattle.words.proofs.Parts.{within_refl, within_trans, within_wider}
use Rattle.terms.specs.Terms.{term_of, decode, rounded, product_of, Appended}
use Rattle.terms.proofs.Decode.{decode_last, behind_within, decode_behind}

-- a product of two terms, from its set m, the union of a and b, and its coefficient c
pub product_made : (t u v : List ℕ) (a b m c : ℕ) → a ≡ (term_of t).set → b ≡ (term_of u).set → m ≡ bit_or a b → c ≡ (get_or t set_words 0 * get_or u set_words 0) % 2 ^ 64
    → term_of v ≡ record { set = m; coef = c } → term_of v ≡ product_of (term_of t) (term_of u)
unfolding product_of term_of
product_made t u v a b m c ea eb em ec ev = ev ∙ (λ i. record { set = (em ∙ ap₂ bit_or ea eb) i; coef = ec i })

times_snoc : (t : Term) (p : Poly) (u : Term) → rounded (times t (p ++ (u ∷ []))) ≡ rounded (times t p) ++ (product_of t u ∷ [])
unfolding times rounded product_of
times_snoc t [] u = refl
times_snoc t (x ∷ p) u = ap (λ (q : Poly). product_of t x ∷ q) (times_snoc t p u)

-- ---- products behind a run
pub appended_start : (out n : ℕ) (t : Term) (b s : List ℕ) → Appended out n 0 (rounded (times t (decode 0 b))) s s
unfolding times rounded decode
appended_start out n t b s =
    let e : n + 0 ≡ n = omega arith in
    record { terms = ap (λ (k : ℕ). decode k (drop out s)) e ∙ sym (append-nil (decode n (drop out s))); within = within_refl }

-- u is the next term of b, and v its product with t, written at word w behind the others
pub appended_more : (out n i w : ℕ) (t : Term) (b s x u v r : List ℕ) → out + (n + i + 1) * term_words ≤ length s → w ≡ out + (n + i) * term_words
    → Appended out n i (rounded (times t (decode i b))) s x → u ≡ part (i * term_words) term_words b → length v ≡ term_words → term_of v ≡ product_of t (term_of u)
    → r ≡ paste x w v term_words → Appended out n (i + 1) (rounded (times t (decode (i + 1) b))) s r
appended_more out n i w t b s x u v r l ew a eu lv ev er = record {
  terms = ap (λ (k : ℕ). decode k (drop out r)) e ∙ decode_behind out (n + i) x v r lx lv er' ∙ ap₂ (λ (p : Poly) (y : Term). p ++ (y ∷ [])) a.terms ev
      ∙ append_assoc (decode n (drop out s)) (rounded (times t (decode i b))) (product_of t (term_of u) ∷ []) ∙ ap (λ (p : Poly). decode n (drop out s) ++ p) (sym more);
  within = within_trans (within_wider (out + n * term_words) (out + n * term_words) (out + (n + i) * term_words) (out + (n + (i + 1)) * term_words) s x (omega arith) (omega arith) a.within)
      (within_wider (out + n * term_words) (out + (n + i) * term_words) (out + (n + i) * term_words + term_words) (out + (n + (i + 1)) * term_words) x r (omega arith) (omega arith)
      (behind_within out (n + i) x v r lx lv er'));
}
  where
    e : n + (i + 1) ≡ n + i + 1
    e = omega arith

    lx : out + (n + i + 1) * term_words ≤ length x
    lx = omega (arith, a.within.same)

    er' : r ≡ paste x (out + (n + i) * term_words) v term_words
    er' = er ∙ ap (λ (k : ℕ). paste x k v term_words) ew

    more : rounded (times t (decode (i + 1) b)) ≡ rounded (times t (decode i b)) ++ (product_of t (term_of u) ∷ [])
    more = ap (λ (p : Poly). rounded (times t p)) (decode_last i b ∙ ap (λ (y : List ℕ). decode i b ++ (term_of y ∷ [])) (sym eu)) ∙ times_snoc t (decode i b) (term_of u)
