-- Runs of terms: one by one, their beginnings and rests, and what a copy of words does to them. Assumes nothing.
use mathlib.Core.Path.{◌≡◌, refl, sym, ap, ap₂, subst, ◌∙◌}
use mathlib.Core.List.{List, [], ◌∷◌, ◌++◌}
use Prim.Native.Nat.{ℕ, zero, suc, ◌+◌, ◌-◌, ◌*◌, ◌≤◌, ◌<◌}
use native.Mathlib.Omega.{arith}
use native.Mathlib.Nat.{suc-add, not-suc-le-zero, le_of_suc-le-suc}
use native.Mathlib.Numerals.{add-one}
use lib.ListN.{length, take, drop, get_or, set}
use lib.Seq.{drop-cons, take-take, take_at, drop_at, get_or-take, get_or_at, drop-drop, paste, set_split}
use Rattle.ground.proofs.Lists.{take_fewer, drop_more, drop_take}
use Rattle.limits.specs.Limits.{set_words, term_words}
use Rattle.algebra.specs.Polynomial.{Term, Poly}
use Rattle.words.specs.Parts.{part, Within}
use Rattle.words.specs.Words.{number_of}
use Rattle.words.proofs.Parts.{below_kept, part_paste, paste_within}
use Rattle.terms.specs.Terms.{term_of, none, decode}

pub decode_length : (n : ℕ) (s : List ℕ) → length (decode n s) ≡ n
unfolding decode
decode_length zero s = refl
decode_length (suc n) s = ap suc (decode_length n (drop term_words s))

-- the words past i terms
past : (i : ℕ) (s : List ℕ) → drop (i * term_words) (drop term_words s) ≡ drop (suc i * term_words) s
past i s = let e : term_words + i * term_words ≡ suc i * term_words = omega arith in drop-drop (i * term_words) term_words s ∙ ap (λ (k : ℕ). drop k s) e

-- a term is a matter of its own words
pub term_part : (s : List ℕ) → term_of (take term_words s) ≡ term_of s
unfolding term_of
term_part s = rw (take-take set_words term_words s (omega arith), get_or-take term_words s set_words 0 (omega arith))

-- a term from its set and its coefficient
pub term_made : (a : List ℕ) (c : ℕ) → length a ≡ set_words → term_of (a ++ (c ∷ [])) ≡ record { set = number_of a; coef = c }
unfolding term_of
term_made a c h = rw (take_at a (c ∷ []) set_words h, get_or_at a c [] 0 set_words h)

pub decode_at : (n i : ℕ) (s : List ℕ) → i < n → get_or (decode n s) i none ≡ term_of (part (i * term_words) term_words s)
unfolding decode
decode_at zero i s h = absurd (not-suc-le-zero h)
decode_at (suc n) zero s h = sym (term_part s)
decode_at (suc n) (suc i) s h = decode_at n i (drop term_words s) (le_of_suc-le-suc h) ∙ ap (λ (l : List ℕ). term_of (take term_words l)) (past i s)

-- t is the i-th term as it was read
module _ (n i : ℕ) (s t : List ℕ) (h : i < n) (e : t ≡ part (i * term_words) term_words s) where
  pub decode_read : get_or (decode n s) i none ≡ term_of t
  decode_read = decode_at n i s h ∙ ap term_of (sym e)

  pub decode_rest : drop i (decode n s) ≡ term_of t ∷ drop (i + 1) (decode n s)
  decode_rest = drop-cons (decode n s) i none (rw (decode_length n s) h) ∙ ap₂ ◌∷◌ decode_read (ap (λ (k : ℕ). drop k (decode n s)) (sym (add-one i)))

pub decode_add : (i m : ℕ) (s : List ℕ) → decode (i + m) s ≡ decode i s ++ decode m (drop (i * term_words) s)
unfolding decode
decode_add zero m s = let e : 0 + m ≡ m = omega arith in rw e
decode_add (suc i) m s =
    rw (suc-add) (ap (λ (p : Poly). term_of s ∷ p) (decode_add i m (drop term_words s) ∙ ap (λ (l : List ℕ). decode i (drop term_words s) ++ decode m l) (past i s)))

pub decode_take : (n i : ℕ) (s : List ℕ) → i ≤ n → take i (decode n s) ≡ decode i s
decode_take n i s h =
    let e : i + (n - i) ≡ n = omega arith in
    rw (← e, decode_add i (n - i) s) (take_at (decode i s) (decode (n - i) (drop (i * term_words) s)) i (decode_length i s))

decode_drop : (n i : ℕ) (s : List ℕ) → i ≤ n → drop i (decode n s) ≡ decode (n - i) (drop (i * term_words) s)
decode_drop n i s h =
    let e : i + (n - i) ≡ n = omega arith in
    ap (λ (m : ℕ). drop i (decode m s)) (sym e) ∙ rw (decode_add i (n - i) s) (drop_at (decode i s) (decode (n - i) (drop (i * term_words) s)) i (decode_length i s))

-- n terms are a matter of their own words
pub decode_same : (n : ℕ) (s r : List ℕ) → take (n * term_words) r ≡ take (n * term_words) s → decode n r ≡ decode n s
unfolding decode
decode_same zero s r e = refl
decode_same (suc n) s r e =
    let w : suc n * term_words ≡ term_words + n * term_words = omega arith in
    let f : take (term_words + n * term_words) r ≡ take (term_words + n * term_words) s = rw w at e in
    ap₂ ◌∷◌ (sym (term_part r) ∙ ap term_of (take_fewer term_words (suc n * term_words) s r (omega arith) e) ∙ term_part s)
    (decode_same n (drop term_words s) (drop term_words r) (sym (drop_take term_words (n * term_words) r) ∙ ap (drop term_words) f ∙ drop_take term_words (n * term_words) s))

-- a run in a region that holds it
pub decode_part : (n a k : ℕ) (s : List ℕ) → n * term_words ≤ k → decode n (part a k s) ≡ decode n (drop a s)
decode_part n a k s h = decode_same n (drop a s) (part a k s) (take-take (n * term_words) k (drop a s) h)

-- a run before a change elsewhere, and one beyond it
pub decode_below : (n a e : ℕ) (s r : List ℕ) → Within a e s r → n * term_words ≤ a → decode n r ≡ decode n s
decode_below n a e s r w h = decode_same n s r (take_fewer (n * term_words) a s r h w.before)

pub decode_above : (n b a e : ℕ) (s r : List ℕ) → Within a e s r → e ≤ b → decode n (drop b r) ≡ decode n (drop b s)
decode_above n b a e s r w h = ap (decode n) (drop_more e b s r h w.after)

-- the i-th term, those before it and those after
decode_split : (n i : ℕ) (s : List ℕ) → i < n → decode n s ≡ decode i s ++ (term_of (drop (i * term_words) s) ∷ decode (n - suc i) (drop (suc i * term_words) s))
unfolding decode
decode_split n i s h =
    let e : n ≡ i + suc (n - suc i) = omega arith in
    let f : i * term_words + term_words ≡ suc i * term_words = omega arith in
    ap (λ (m : ℕ). decode m s) e ∙ decode_add i (suc (n - suc i)) s
    ∙ ap (λ (l : List ℕ). decode i s ++ (term_of (drop (i * term_words) s) ∷ decode (n - suc i) l)) (drop-drop term_words (i * term_words) s ∙ ap (λ (k : ℕ). drop k s) f)

-- one term more
pub decode_last : (n : ℕ) (s : List ℕ) → decode (n + 1) s ≡ decode n s ++ (term_of (part (n * term_words) term_words s) ∷ [])
unfolding decode
decode_last n s = decode_add n 1 s ∙ ap (λ (t : Term). decode n s ++ (t ∷ [])) (sym (term_part (drop (n * term_words) s)))

-- a term written over the i-th
pub decode_write : (n i : ℕ) (s t : List ℕ) → i < n → n * term_words ≤ length s → length t ≡ term_words
    → decode n (paste s (i * term_words) t term_words) ≡ set (decode n s) i (term_of t)
decode_write n i s t h l lt =
    let r : List ℕ = paste s (i * term_words) t term_words in
    let w : Within (i * term_words) (i * term_words + term_words) s r = paste_within s (i * term_words) t term_words (omega arith) (omega arith) in
    let e : term_of (drop (i * term_words) r) ≡ term_of t
    = sym (term_part (drop (i * term_words) r)) ∙ ap term_of (part_paste s (i * term_words) t term_words (omega arith) (omega arith)) ∙ term_part t in
    let a : decode i r ≡ decode i s = decode_below i (i * term_words) (i * term_words + term_words) s r w (omega arith) in
    let b : decode (n - suc i) (drop (suc i * term_words) r) ≡ decode (n - suc i) (drop (suc i * term_words) s)
    = decode_above (n - suc i) (suc i * term_words) (i * term_words) (i * term_words + term_words) s r w (omega arith) in
    let d : i < length (decode n s) = rw (decode_length n s) h in
    decode_split n i r h ∙ rw (a, e, b)
    (sym (set_split (decode n s) i (term_of t) d
    ∙ rw (decode_take n i s (omega arith), decode_drop n (suc i) s h)))

-- a term written behind n terms that start at word `out`
module _ (out n : ℕ) (s u r : List ℕ) (l : out + (n + 1) * term_words ≤ length s) (lu : length u ≡ term_words) (e : r ≡ paste s (out + n * term_words) u term_words) where
  pub behind_within : Within (out + n * term_words) (out + n * term_words + term_words) s r
  behind_within = subst (Within (out + n * term_words) (out + n * term_words + term_words) s) (sym e) (paste_within s (out + n * term_words) u term_words (omega arith) (omega arith))

  pub decode_behind : decode (n + 1) (drop out r) ≡ decode n (drop out s) ++ (term_of u ∷ [])
  decode_behind = decode_last n (drop out r) ∙ ap₂ (λ (p : Poly) (t : Term). p ++ (t ∷ [])) front last
    where
      front : decode n (drop out r) ≡ decode n (drop out s)
      front = decode_same n (drop out s) (drop out r)
          (below_kept (out + n * term_words) (out + n * term_words + term_words) s r behind_within out (n * term_words) (omega arith))

      last : term_of (part (n * term_words) term_words (drop out r)) ≡ term_of u
      last = ap (λ (w : List ℕ). term_of (take term_words w)) (drop-drop (n * term_words) out r) ∙ ap (λ (w : List ℕ). term_of (part (out + n * term_words) term_words w)) e
          ∙ ap term_of (part_paste s (out + n * term_words) u term_words (omega arith) (omega arith)) ∙ term_part u

-- a run copied to at
pub decode_paste : (n at : ℕ) (d s : List ℕ) → at + n * term_words ≤ length d → n * term_words ≤ length s
    → decode n (drop at (paste d at s (n * term_words))) ≡ decode n s
decode_paste n at d s hd hs =
    decode_same n s (drop at (paste d at s (n * term_words))) (part_paste d at s (n * term_words) hd hs)
