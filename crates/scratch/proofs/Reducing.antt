-- A run that was reduced in a lent region: a field as written, and -v + p. Assumes nothing.
use mathlib.Core.Path.{◌≡◌, sym, ap, ◌∙◌}
use mathlib.Core.Bool.{Bool, true, false}
use mathlib.Core.List.{List, [], ◌∷◌, ◌++◌}
use Prim.Native.Nat.{ℕ, ◌+◌, ◌-◌, ◌*◌, ◌^◌, ◌≤◌, ◌<◌}
use native.Mathlib.Nat.{mul-one}
use native.Mathlib.Omega.{arith}
use lib.Bits.{bit_or, or_zero_r}
use lib.ListN.{length, drop, replicate}
use lib.Seq.{paste}
use borrow.Rule.Slice.PartMut.{put_mid}
use Rattle.ground.proofs.Congruence.{Same, same_refl, same_eq, same_add, ◌⊳◌}
use Rattle.words.specs.Parts.{part, Within}
use Rattle.words.proofs.Parts.{within_trans, within_wider, length_part, put_part, put_within}
use Rattle.limits.specs.Limits.{field_terms, set_words, term_words}
use Rattle.algebra.specs.Polynomial.{Term, Poly, sum_if, vars, reduce, extension}
use Rattle.algebra.proofs.Values.{keep, sum_if_append}
use Rattle.algebra.proofs.Sums.{reduce_sums}
use Rattle.words.specs.Words.{number_of}
use Rattle.words.proofs.Wrap.{same_negative}
use Rattle.terms.specs.Terms.{term_of, decode, Leaves}
use Rattle.terms.proofs.Decode.{decode_part, behind_within, decode_behind}
use Rattle.paper.specs.Statement.{Written, reduced}
use Rattle.paper.specs.Rules.{shows}
use Rattle.written.specs.Worded.{Holds}
use Rattle.written.proofs.Meaning.{worded_reduced, holds_few}
use Rattle.scratch.specs.Scratch.{stated_at, factor_at, RunAt, ReducedAt}

-- the region of s from a up to e was lent, and y came back with the terms q at its front
module _ (a e n m : ℕ) (q : Poly) (s y : List ℕ) (h : a ≤ e) (l : e ≤ length s) (f : n * term_words ≤ e - a) (c : Leaves n q (part a (e - a) s) y m) where
  lent_run : decode m (drop a (put_mid a (e - a) s y)) ≡ q
  lent_run = sym (decode_part m a (e - a) (put_mid a (e - a) s y) (omega (arith, c.few))) ∙ ap (decode m) (put_part s y a e h l c.within.same) ∙ c.terms

  lent_within : Within a e s (put_mid a (e - a) s y)
  lent_within = put_within s y a e h l c.within.same

-- ---- a field as written
pub region_room : (base n : ℕ) (s : List ℕ) → base + field_terms * term_words ≤ length s → {w : Written} → Holds w n base s
    → n * term_words ≤ length (part base (base + field_terms * term_words - base) s)
region_room base n s l h = omega (arith, holds_few h, length_part base (base + field_terms * term_words - base) s (omega arith))

-- the n terms of the region of s from base on were reduced, and the region came back as y
module _ (k base n m : ℕ) (s y : List ℕ) (kk : k ≤ 64) (l : base + field_terms * term_words ≤ length s)
    (c : Leaves n (reduce k (decode n (part base (base + field_terms * term_words - base) s))) (part base (base + field_terms * term_words - base) s) y m) where
  abbrev e : ℕ
  e = base + field_terms * term_words

  abbrev x : List ℕ
  x = put_mid base (e - base) s y

  module _ {w : Written} (h : Holds w n base s) where
    region : n * term_words ≤ e - base
    region = omega (arith, holds_few h)

    reduced_run : RunAt base (reduced k w) s x m
    reduced_run = record {
      run = lent_run base e n m _ s y (omega arith) l region c
          ∙ ap (reduce k) (decode_part n base (e - base) s region ∙ h.run) ∙ worded_reduced k kk w h.ranged;
      few = omega (arith, c.few, holds_few h);
      within = lent_within base e n m _ s y (omega arith) l region c;
    }

    pub reduced_room : m * term_words ≤ length (part base (length x - base) x)
    reduced_room = let r = reduced_run in omega (arith, r.few, r.within.same, length_part base (length x - base) x (omega (arith, r.within.same)))

    pub reduced_field : (set : List ℕ) → number_of set ≡ vars (decode m (part base (length x - base) x)) → ReducedAt k w base s x (record { terms = m; shown = set })
    unfolding shows
    reduced_field set v =
        let r = reduced_run in
        record { at = r; shown = v ∙ ap vars (decode_part m base (length x - base) x (omega (arith, r.few, r.within.same)) ∙ r.run) }

-- ---- -v + p
-- 2 ^ 64 - 1 is -1
last_first : (k : ℕ) → k ≤ 64 → (m : ℕ) (p : Poly) → reduce k (p ++ (record { set = m; coef = 2 ^ 64 - 1 } ∷ [])) ≡ reduce k (record { set = m; coef = 2 ^ k - 1 } ∷ p)
last_first k h m p = reduce_sums k (p ++ (record { set = m; coef = 2 ^ 64 - 1 } ∷ [])) (record { set = m; coef = 2 ^ k - 1 } ∷ p) same
  where
    one : (b : Bool) → Same (2 ^ k) (keep b (2 ^ 64 - 1)) (keep b (2 ^ k - 1))
    one true = same_negative k h 1 (omega arith) ⊳ same_eq (mul-one (2 ^ k - 1))
    one false = same_refl

    same : (f : ℕ → Bool) → Same (2 ^ k) (sum_if f (p ++ (record { set = m; coef = 2 ^ 64 - 1 } ∷ []))) (keep (f m) (2 ^ k - 1) + sum_if f p)
    same f =
        same_eq (sum_if_append f p (record { set = m; coef = 2 ^ 64 - 1 } ∷ []) ∙ omega arith)
        ⊳ same_add {a = keep (f m) (2 ^ 64 - 1)} {c = sum_if f p} (one (f m)) same_refl

-- the term t written behind p, and the stated region reduced
pub defined : (k v n m a : ℕ) (s t x y : List ℕ) → k ≤ 64 → n < field_terms → factor_at ≤ length s → a ≡ bit_or (2 ^ v) (number_of (replicate set_words 0))
    → length t ≡ term_words → term_of t ≡ record { set = a; coef = 2 ^ 64 - 1 } → x ≡ paste s (stated_at + n * term_words) t term_words
    → Leaves (n + 1) (reduce k (decode (n + 1) (part stated_at (factor_at - stated_at) x))) (part stated_at (factor_at - stated_at) x) y m
    → RunAt stated_at (extension k v (decode n (drop stated_at s))) s (put_mid stated_at (factor_at - stated_at) x y) m
unfolding extension number_of
defined k v n m a s t x y h hn l ea lt et ex c = record {
  run = lent_run stated_at factor_at (n + 1) m _ x y (omega arith) long room c ∙ ap (reduce k) terms ∙ last_first k h (2 ^ v) (decode n (drop stated_at s));
  few = omega (arith, c.few);
  within = within_trans change (lent_within stated_at factor_at (n + 1) m _ x y (omega arith) long room c);
}
  where
    room : (n + 1) * term_words ≤ factor_at - stated_at
    room = omega arith

    change : Within stated_at factor_at s x
    change = within_wider stated_at (stated_at + n * term_words) (stated_at + n * term_words + term_words) factor_at s x (omega arith) (omega arith)
        (behind_within stated_at n s t x (omega arith) lt ex)

    long : factor_at ≤ length x
    long = omega (arith, change.same)

    term : term_of t ≡ record { set = 2 ^ v; coef = 2 ^ 64 - 1 }
    term = et ∙ ap (λ (w : ℕ). record { set = w; coef = 2 ^ 64 - 1 }) (ea ∙ or_zero_r (2 ^ v))

    terms : decode (n + 1) (part stated_at (factor_at - stated_at) x) ≡ decode n (drop stated_at s) ++ (record { set = 2 ^ v; coef = 2 ^ 64 - 1 } ∷ [])
    terms = decode_part (n + 1) stated_at (factor_at - stated_at) x room ∙ decode_behind stated_at n s t x (omega arith) lt ex
        ∙ ap (λ (u : Term). decode n (drop stated_at s) ++ (u ∷ [])) term
