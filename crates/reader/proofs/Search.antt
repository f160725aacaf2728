-- What a byte ends in a text where its first place is known. Assumes nothing.
use mathlib.Core.Path.{◌≡◌, refl, sym, ap, ap₂, ◌∙◌}
use mathlib.Core.Bool.{Bool, true, false}
use mathlib.Core.List.{[], ◌∷◌, ◌++◌}
use Prim.Native.Nat.{ℕ, suc, ◌+◌, ◌-◌, ◌≤◌, ◌<◌}
use native.Mathlib.Nat.{not-suc-le-zero}
use native.Mathlib.Numerals.{add-one}
use native.Mathlib.Omega.{arith}
use lib.Dec.{ltb}
use lib.ListN.{length, drop, get_or, length-drop, take-append-drop, drop_of_length-le}
use lib.Seq.{drop-cons, drop-drop, take_all, get_or-take, get_or-drop}
use borrow.Author.Tests.{eq-eqb, ne_eqb, ltb-true, ltb-false}
use Rattle.words.specs.Parts.{part}
use Rattle.words.proofs.Parts.{length_part}
use Rattle.paper.specs.Grammar.{Bytes, on_first, ended_by, lines}
use Rattle.reader.specs.Search.{Without, FirstOrEnd, LineEnd}

-- ---- parts
module _ (s : Bytes) (at : ℕ) where
  part_then : (i : ℕ) → at ≤ i → part at (i - at) s ++ drop i s ≡ drop at s
  part_then i h =
      let k : at + (i - at) ≡ i = omega arith in
      let e : drop (i - at) (drop at s) ≡ drop i s = rw (drop-drop (i - at) at s, k) in
      rw (← e) (take-append-drop (i - at) (drop at s))

  part_without : (b i : ℕ) → Without b s at i → (k : ℕ) → k < length (part at (i - at) s) → get_or (part at (i - at) s) k 0 ≡ b → ⊥
  part_without b i w k h e =
      let o = w.onward in
      let n = w.inside in
      let l : k < i - at = omega (arith, length_part at (i - at) s (omega arith)) in
      w.none (at + k) (omega arith) (omega arith) (sym (get_or-take (i - at) (drop at s) k 0 l ∙ get_or-drop at s k 0) ∙ e)

-- ---- what the byte c ends
module _ (c : ℕ) where
  ended_first : (w t : Bytes) → ((k : ℕ) → k < length w → get_or w k 0 ≡ c → ⊥) → ended_by c (w ++ (c ∷ t)) ≡ record { content = w; ended = true } ∷ ended_by c t
  unfolding ended_by on_first
  ended_first [] t n = rw (eq-eqb c c refl)
  ended_first (b ∷ w) t n = rw (ne_eqb b c (n 0 (omega arith)), ended_first w t (λ k h. n (suc k) (omega arith)))

  unended : (w : Bytes) → 0 < length w → ((k : ℕ) → k < length w → get_or w k 0 ≡ c → ⊥) → ended_by c w ≡ record { content = w; ended = false } ∷ []
  unfolding ended_by on_first
  unended [] h n = absurd (not-suc-le-zero h)
  unended (b ∷ []) h n = rw (ne_eqb b c (n 0 (omega arith)))
  unended (b ∷ d ∷ w) h n = rw (ne_eqb b c (n 0 (omega arith)), unended (d ∷ w) (omega arith) (λ k l. n (suc k) (omega arith)))

-- ---- the same by places, where its first place from at on is known
module _ (c : ℕ) (text : Bytes) (at r : ℕ) where
  module _ (f : FirstOrEnd c text at r) where
    pub ended_at : r < length text → ended_by c (drop at text) ≡ record { content = part at (r - at) text; ended = true } ∷ ended_by c (drop (r + 1) text)
    ended_at h =
        let d : drop r text ≡ c ∷ drop (r + 1) text = drop-cons text r 0 h ∙ ap₂ ◌∷◌ (f.found h) (ap (λ (n : ℕ). drop n text) (sym (add-one r))) in
        ap (ended_by c) (sym (part_then text at r f.without.onward) ∙ ap (λ (l : Bytes). part at (r - at) text ++ l) d)
        ∙ ended_first c (part at (r - at) text) (drop (r + 1) text) (part_without text at c r f.without)

    pub unended_at : at < length text → length text ≤ r → ended_by c (drop at text) ≡ record { content = part at (r - at) text; ended = false } ∷ []
    unended_at h l =
        let p : part at (r - at) text ≡ drop at text = take_all (r - at) (drop at text) (omega (arith, length-drop at text)) in
        ap (ended_by c) (sym p) ∙ unended c (part at (r - at) text) (omega (arith, ap length p, length-drop at text)) (part_without text at c r f.without)

  -- ended or not, it is the first
  pub next_ended : (r < length text → ended_by c (drop at text) ≡ record { content = part at (r - at) text; ended = true } ∷ ended_by c (drop (r + 1) text))
      → (length text ≤ r → ended_by c (drop at text) ≡ record { content = part at (r - at) text; ended = false } ∷ [])
      → ended_by c (drop at text) ≡ record { content = part at (r - at) text; ended = ltb r (length text) } ∷ ended_by c (drop (r + 1) text)
  unfolding ended_by
  next_ended first last = go (ltb r (length text)) refl
    where
      go : (b : Bool) → ltb r (length text) ≡ b → ended_by c (drop at text) ≡ record { content = part at (r - at) text; ended = b } ∷ ended_by c (drop (r + 1) text)
      go true q = first (ltb-true r (length text) q)
      go false q =
          let m : length text ≤ r = ltb-false r (length text) q in
          let d : length text ≤ r + 1 = omega arith in
          rw (drop_of_length-le text d) (last m)

pub line_end : (text : Bytes) (at r : ℕ) → FirstOrEnd 10 text at r → LineEnd text at r
unfolding lines
line_end text at r f =
    record { onward = f.without.onward; inside = f.without.inside; ended = ended_at 10 text at r f; last = unended_at 10 text at r f }
