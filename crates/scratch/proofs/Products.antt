-- The products of one run with another, row by row. Assumes nothing.
use mathlib.Core.Path.{◌≡◌, sym, ap, subst, ◌∙◌}
use mathlib.Core.List.{List, [], ◌∷◌, ◌++◌, append-nil, append_assoc}
use Prim.Native.Nat.{ℕ, ◌+◌, ◌*◌, ◌≤◌}
use native.Mathlib.Omega.{arith}
use lib.ListN.{length, length-append}
use lib.Seq.{take-append-le, drop-append-le}
use Rattle.ground.proofs.Numbers.{row_more}
use Rattle.words.specs.Parts.{part}
use Rattle.words.proofs.Parts.{within_trans, within_wider}
use Rattle.limits.specs.Limits.{term_words}
use Rattle.algebra.specs.Polynomial.{Term, Poly, times, products}
use Rattle.terms.specs.Terms.{term_of, decode, rounded, Appended}
use Rattle.terms.proofs.Decode.{decode_last, decode_same}
use Rattle.terms.proofs.Products.{appended_start}
use Rattle.terms.proofs.Rounding.{rounded_append}

products_last : (p q : Poly) (t : Term) → products (p ++ (t ∷ [])) q ≡ products p q ++ times t q
unfolding products
products_last [] q t = append-nil (times t q)
products_last (u ∷ p) q t = ap (λ (r : Poly). times u q ++ r) (products_last p q t) ∙ sym (append_assoc (times u q) (products p q) (times t q))

one_row : (i : ℕ) (w : List ℕ) (q : Poly) → rounded (products (decode (i + 1) w) q) ≡ rounded (products (decode i w) q) ++ rounded (times (term_of (part (i * term_words) term_words w)) q)
one_row i w q =
    let t : Term = term_of (part (i * term_words) term_words w) in
    ap (λ (p : Poly). rounded (products p q)) (decode_last i w) ∙ ap rounded (products_last (decode i w) q t) ∙ rounded_append (products (decode i w) q) (times t q)

-- ---- what is appended twice
appended_then : (n a m : ℕ) (p q : Poly) (s x r : List ℕ) → Appended 0 n a p s x → Appended 0 (n + a) m q x r → Appended 0 n (a + m) (p ++ q) s r
appended_then n a m p q s x r u v =
    let e : n + (a + m) ≡ n + a + m = omega arith in
    record {
      terms = ap (λ (k : ℕ). decode k r) e ∙ v.terms ∙ ap (λ (z : Poly). z ++ q) u.terms ∙ append_assoc (decode n s) p q;
      within = within_trans (within_wider (0 + n * term_words) (0 + n * term_words) (0 + (n + a) * term_words) (0 + (n + (a + m)) * term_words) s x (omega arith) (omega arith) u.within)
          (within_wider (0 + n * term_words) (0 + (n + a) * term_words) (0 + (n + a + m) * term_words) (0 + (n + (a + m)) * term_words) x r (omega arith) (omega arith) v.within);
    }

-- ---- the products of the first i terms of a with those of b
module _ (n m : ℕ) (a b s : List ℕ) where
  abbrev pub ProductRows : ℕ → List ℕ → Type 0
  ProductRows i x = Appended 0 n (i * m) (rounded (products (decode i a) (decode m b))) s x

  pub rows_start : ProductRows 0 s
  unfolding products rounded decode times
  rows_start = let e : 0 * m ≡ 0 = omega arith in rw e (appended_start 0 n (record { set = 0; coef = 0 }) b s)

  -- t is the next of the terms, and its products stand behind the others
  pub rows_more : (i : ℕ) (x t r : List ℕ) → ProductRows i x → t ≡ part (i * term_words) term_words a
      → Appended 0 (n + i * m) m (rounded (times (term_of t) (decode m b))) x r → ProductRows (i + 1) r
  rows_more i x t r u e v =
      subst (λ (j : ℕ). Appended 0 n j (rounded (products (decode (i + 1) a) (decode m b))) s r) (sym (row_more i m))
      (subst (λ (p : Poly). Appended 0 n (i * m + m) p s r) (sym more) (appended_then n (i * m) m _ _ s x r u v))
    where
      more : rounded (products (decode (i + 1) a) (decode m b)) ≡ rounded (products (decode i a) (decode m b)) ++ rounded (times (term_of t) (decode m b))
      more = one_row i a (decode m b) ∙ ap (λ (y : List ℕ). rounded (products (decode i a) (decode m b)) ++ rounded (times (term_of y) (decode m b))) (sym e)

-- ---- words of which the first, f, were lent and came back as ys
pub front_appended : (n m : ℕ) (q : Poly) (s f b ys : List ℕ) → s ≡ f ++ b → (n + m) * term_words ≤ length f → Appended 0 n m q f ys → Appended 0 n m q s (ys ++ b)
front_appended n m q s f b ys e h a = subst (λ (x : List ℕ). Appended 0 n m q x (ys ++ b)) (sym e) (record {
  terms = decode_same (n + m) ys (ys ++ b) (take-append-le ((n + m) * term_words) ys b (omega (arith, a.within.same))) ∙ a.terms
      ∙ ap (λ (p : Poly). p ++ q) (sym (decode_same n f (f ++ b) (take-append-le (n * term_words) f b (omega arith))));
  within = record {
    before = take-append-le (0 + n * term_words) ys b (omega (arith, a.within.same)) ∙ a.within.before
        ∙ sym (take-append-le (0 + n * term_words) f b (omega arith));
    after = drop-append-le (0 + (n + m) * term_words) ys b (omega (arith, a.within.same)) ∙ ap (λ (z : List ℕ). z ++ b) a.within.after
        ∙ sym (drop-append-le (0 + (n + m) * term_words) f b (omega arith));
    same = length-append ys b ∙ ap (λ (k : ℕ). k + length b) a.within.same ∙ sym (length-append f b);
  };
})
