-- The contracts of `words` that are no equations of their results decide them. Assumes nothing.
use Rattle.std.proofs.Common.{◌≡◌, refl, Bool, true, false, Option, Some, None, ℕ, ◌+◌, ◌-◌, ◌^◌, ◌<◌, ◌≤◌, List, ◌++◌, length, take, drop, sym, ap, ◌∙◌, ap₂, arith, take-append-drop, drop-drop}
use lib.Count.{count_trailing_zeros}
use Rattle.limits.specs.Limits.{set_words}
use Rattle.ground.proofs.Decided.{one_first}
use Rattle.algebra.specs.Polynomial.{bit}
use Rattle.words.specs.Parts.{part, Within}
use Rattle.words.specs.Search.{FirstFrom, FindsFrom}
use Rattle.words.specs.Words.{number_of, Lowest}
use Rattle.words.proofs.Laws.{Words, number_inj, trailing_lowest}

-- a set by its number: `union`, `with`, and what other crates give as a set
pub one_set : (a b : List ℕ) → length a ≡ set_words → length b ≡ set_words → Words a → Words b → number_of a ≡ number_of b → a ≡ b
one_set a b l m f g e = number_inj a b (l ∙ sym m) f g e

-- `lowest`
pub one_lowest : {n m u v : ℕ} → Lowest n m u → Lowest n m v → u ≡ v
one_lowest {m = m} {u = u} {v = v} a b =
    one_first (λ (i : ℕ). bit m i ≡ 1) u v a.here b.here (λ i h e. omega (arith, a.none i h, e)) (λ i h e. omega (arith, b.none i h, e))

-- `without_lowest`: every word but 0 has a lowest variable
pub one_without : (w r q : ℕ) → 0 < w → w < 2 ^ 64 → ((v : ℕ) → Lowest 64 w v → r + 2 ^ v ≡ w) → ((v : ℕ) → Lowest 64 w v → q + 2 ^ v ≡ w) → r ≡ q
one_without w r q h b f g =
    let l : Lowest 64 w (count_trailing_zeros 64 w) = trailing_lowest 64 w h b in
    omega (arith, f (count_trailing_zeros 64 w) l, g (count_trailing_zeros 64 w) l)

-- `search::find_from`
clash : {b : Bool} → b ≡ true → b ≡ false → ⊥
clash e f = cc

module _ {A : Type 0} (same : A → A → Bool) (s : List A) (at : ℕ) (x : A) where
  not_before : (i j : ℕ) → FirstFrom same s at x i → FirstFrom same s at x j → i < j → ⊥
  not_before i j a b l = clash (a.here x) (b.earlier i x a.onward l)

  pub one_found_from : (r q : Option ℕ) → FindsFrom same s at x r → FindsFrom same s at x q → r ≡ q
  one_found_from (Some i) (Some j) a b =
      let l : i < j → ⊥ = not_before i j a b in
      let m : j < i → ⊥ = not_before j i b a in
      let e : i ≡ j = omega arith in
      ap Some e
  one_found_from (Some i) None a b = absurd (clash (a.here x) (b i x a.onward a.inside))
  one_found_from None (Some j) a b = absurd (clash (b.here x) (a j x b.onward b.inside))
  one_found_from None None a b = refl

-- a buffer that changes within a region alone, by that region
pub one_within : (a e : ℕ) (s r q : List ℕ) → a ≤ e → Within a e s r → Within a e s q → part a (e - a) r ≡ part a (e - a) q → r ≡ q
one_within a e s r q h v w d =
    let same : part a (e - a) r ++ drop e r ≡ part a (e - a) q ++ drop e q = ap₂ ◌++◌ d (v.after ∙ sym w.after) in
    sym (whole r) ∙ ap₂ ◌++◌ (v.before ∙ sym w.before) same ∙ whole q
  where
    whole : (l : List ℕ) → take a l ++ (part a (e - a) l ++ drop e l) ≡ l
    whole l =
        let f : a + (e - a) ≡ e = omega arith in
        let g : drop (e - a) (drop a l) ≡ drop e l = drop-drop (e - a) a l ∙ ap (λ (k : ℕ). drop k l) f in
        ap (λ (t : List ℕ). take a l ++ (part a (e - a) l ++ t)) (sym g)
        ∙ ap (λ (t : List ℕ). take a l ++ t) (take-append-drop (e - a) (drop a l))
        ∙ take-append-drop a l
