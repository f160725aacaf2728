-- Two runs compared term by term, and the variables of a run gathered term by term. Assumes nothing.
use mathlib.Core.Path.{◌≡◌, refl, sym, ap, ap₂, subst, ◌∙◌}
use mathlib.Core.Bool.{Bool, true, false, ◌&&◌}
use mathlib.Core.List.{List, [], ◌∷◌, ◌++◌}
use Prim.Native.Nat.{ℕ, zero, suc, ◌+◌, ◌-◌, ◌*◌, ◌<◌}
use native.Mathlib.Omega.{arith}
use lib.Bits.{bit_or, or_zero_r}
use lib.Dec.{eqb}
use lib.ListN.{length, get_or, drop}
use borrow.Author.Tests.{eqb-true, eq-eqb}
use Rattle.std.specs.Str.{bytes_eq}
use Rattle.std.proofs.lemmas.Slice.Eq.{bytes_eq-Decides}
use Rattle.std.specs.Bool.{MatchBool}
use Rattle.std.specs.List.{range_with_len, AllWithin, HoldsAt}
use Rattle.std.proofs.lemmas.List.FromFn.{length-range_with_len, get_or-range_with_len}
use Rattle.std.proofs.Common.{add-one}
use Rattle.words.specs.Words.{number_of}
use Rattle.words.proofs.Laws.{Words, number_inj}
use Rattle.algebra.proofs.Bit.{equal_true}
use Rattle.ground.proofs.Tests.{bool_ext}
use Rattle.limits.specs.Limits.{term_words}
use Rattle.algebra.specs.Polynomial.{Term, Poly, equal, vars}
use Rattle.algebra.proofs.Unions.{vars_append}
use Rattle.words.specs.Parts.{part}
use Rattle.words.proofs.Parts.{part_rest}
use Rattle.terms.specs.Terms.{term_of, none, decode}
use Rattle.terms.proofs.Decode.{decode_length, decode_at, decode_last}

-- ---- two sets, and two runs, by their words
pub sets_alike : (a b : List ℕ) → length a ≡ length b → Words a → Words b → bytes_eq a b ≡ eqb (number_of a) (number_of b)
sets_alike a b l f g =
    let d = bytes_eq-Decides a b in
    bool_ext (bytes_eq a b) (eqb (number_of a) (number_of b)) (λ e. eq-eqb _ _ (ap number_of (d.0 e)))
    (λ e. d.1 (number_inj a b l f g (eqb-true _ _ e)))

equal_itself : (p : Poly) → equal p p ≡ true
unfolding equal
equal_itself [] = refl
equal_itself (t ∷ p) = rw (eq-eqb t.set t.set refl, eq-eqb t.coef t.coef refl) (equal_itself p)

pub runs_longer : (m n : ℕ) (a b : List ℕ) → (m ≡ n → ⊥) → eqb m n ≡ equal (decode m a) (decode n b)
runs_longer m n a b h =
    bool_ext (eqb m n) (equal (decode m a) (decode n b)) (λ e. absurd (h (eqb-true m n e)))
    (λ e. absurd (h (sym (decode_length m a) ∙ ap length (equal_true _ _ e) ∙ decode_length n b)))

-- whether the i-th terms are the same
abbrev pub terms_alike : List ℕ → List ℕ → ℕ → Bool
terms_alike a b i =
    let t = term_of (part (i * term_words) term_words a) in
    let u = term_of (part (i * term_words) term_words b) in
    eqb t.set u.set && eqb t.coef u.coef

term_true : (t u : Term) → (eqb t.set u.set && eqb t.coef u.coef) ≡ true → t ≡ u
unfolding equal
term_true t u e = let l : (t ∷ []) ≡ (u ∷ []) = equal_true (t ∷ []) (u ∷ []) (rw e) in cc

module _ (a b : List ℕ) where
  all_alike : (n : ℕ) → ((i : ℕ) → i < n → terms_alike a b i ≡ true) → decode n a ≡ decode n b
  unfolding decode
  all_alike zero h = refl
  all_alike (suc n) h =
      subst (λ (k : ℕ). decode k a ≡ decode k b) (add-one n)
      (decode_last n a
      ∙ ap₂ (λ (p : Poly) (t : Term). p ++ (t ∷ [])) (all_alike n (λ i l. h i (omega arith))) (term_true _ _ (h n (omega arith)))
      ∙ sym (decode_last n b))

  one_alike : (n i : ℕ) → i < n → decode n a ≡ decode n b → terms_alike a b i ≡ true
  one_alike n i h e =
      let t : term_of (part (i * term_words) term_words a) ≡ term_of (part (i * term_words) term_words b)
      = sym (decode_at n i a h) ∙ ap (λ (p : Poly). get_or p i none) e ∙ decode_at n i b h in
      rw (eq-eqb _ _ (ap (λ (x : Term). x.set) t), eq-eqb _ _ (ap (λ (x : Term). x.coef) t))

  place : (m i : ℕ) → i < m → get_or (range_with_len 0 m) i 0 ≡ i
  place m i h = omega (arith, get_or-range_with_len 0 m i 0 h)

  -- two runs of one length, where r tells whether all terms are alike
  pub runs_told : (m n : ℕ) → m ≡ n → (r : Bool)
      → MatchBool r (AllWithin (λ i. terms_alike a b i ≡ true) (range_with_len 0 m) 0 (length (range_with_len 0 m)))
      ((k : ℕ) × (k < length (range_with_len 0 m)) × HoldsAt (λ i. terms_alike a b i ≡ false) (range_with_len 0 m) k)
      → r ≡ equal (decode m a) (decode n b)
  runs_told m n e true h =
      let same : decode n a ≡ decode n b
      = all_alike n (λ i l. subst (λ (x : ℕ). terms_alike a b x ≡ true) (place m i (omega arith)) (h i 0 (omega arith) (omega (arith, length-range_with_len 0 m)))) in
      rw (e, same) (sym (equal_itself (decode n b)))
  runs_told m n e false h =
      let k : h.0 < m = omega (arith, h.1, length-range_with_len 0 m) in
      let other : terms_alike a b h.0 ≡ false = subst (λ (x : ℕ). terms_alike a b x ≡ false) (place m h.0 k) (h.2 0) in
      rw e
      (bool_ext false (equal (decode n a) (decode n b)) (λ d. absurd (let z : false ≡ true = d in cc))
      (λ d. sym other ∙ one_alike n h.0 (omega arith) (equal_true _ _ d)))

-- which run comes first does not matter
pub equal_swap : (p q : Poly) → equal p q ≡ equal q p
unfolding equal
equal_swap [] [] = refl
equal_swap [] (t ∷ q) = refl
equal_swap (s ∷ p) [] = refl
equal_swap (s ∷ p) (t ∷ q) =
    ap₂ ◌&&◌ (ap₂ ◌&&◌ (eqb_swap s.set t.set) (eqb_swap s.coef t.coef)) (equal_swap p q)
  where
    eqb_swap : (x y : ℕ) → eqb x y ≡ eqb y x
    eqb_swap x y = bool_ext (eqb x y) (eqb y x) (λ e. eq-eqb y x (sym (eqb-true x y e))) (λ e. eq-eqb x y (sym (eqb-true y x e)))

-- a run in the rest of a slice, as r tells
module _ (n at : ℕ) (s : List ℕ) (q : Poly) (r : Bool) where
  pub rest_run : r ≡ equal (decode n (part at (length s - at) s)) q → r ≡ equal (decode n (drop at s)) q
  rest_run e = e ∙ ap (λ (w : List ℕ). equal (decode n w) q) (part_rest at s)

-- ---- the variables
pub variables_start : (s : List ℕ) → 0 ≡ vars (decode 0 s)
unfolding vars decode
variables_start s = refl

-- x is the set of the next term, t, and y its union with those before
pub variables_more : (n : ℕ) (s t : List ℕ) (x y z : ℕ) → x ≡ vars (decode n s) → t ≡ part (n * term_words) term_words s → z ≡ (term_of t).set → y ≡ bit_or x z
    → y ≡ vars (decode (n + 1) s)
unfolding vars
variables_more n s t x y z ex et ez ey =
    ey ∙ ap₂ bit_or ex (ez ∙ sym (or_zero_r (term_of t).set) ∙ ap (λ (w : List ℕ). bit_or (term_of w).set 0) et) ∙ sym (vars_append (decode n s) (term_of (part (n * term_words) term_words s) ∷ []))
    ∙ ap vars (sym (decode_last n s))
