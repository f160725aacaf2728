-- Digits, decimals and numbers in a range, as the code finds them. Assumes nothing.
use mathlib.Core.Path.{◌≡◌, refl, sym, ap, ◌∙◌}
use mathlib.Core.Bool.{Bool, true, false, ◌&&◌, cond}
use Rattle.std.proofs.Common.{Option, Some, None}
use Prim.Native.Nat.{ℕ, suc, ◌+◌, ◌-◌, ◌*◌, ◌^◌, ◌≤◌, ◌<◌}
use native.Mathlib.Omega.{arith}
use lib.Dec.{leb}
use lib.ListN.{length, drop, get_or, length-drop}
use borrow.Author.Tests.{leb-true, le-leb, lt-leb}
use Rattle.ground.proofs.Tests.{and_left, and_right}
use Rattle.limits.specs.Limits.{greatest_ring}
use Rattle.paper.specs.Grammar.{Bytes, Reader, got, stuck, is_digit, digits, decimal}
use Rattle.paper.specs.Statement.{modulo, within, is_ring}
use Rattle.paper.proofs.Pieces.{digits_more, digits_low, digits_high, digits_least, decimal_low, decimal_high}
use Rattle.std.specs.Char.{is_ascii_digit, IsNotAsciiDigit}
use Rattle.std.specs.List.{prefix_len, take_while}
use Rattle.std.proofs.lemmas.List.{drop-drop}
use Rattle.std.proofs.lemmas.List.Sums.{prefix_len-le-length}
use Rattle.std.proofs.lemmas.List.Folds.{length-prefix_len}
use mathlib.Core.List.{[], ◌∷◌}
use mathlib.Core.Logic.{⊎_elim}
use Rattle.reader.specs.Places.{Got}
use Rattle.reader.specs.Numbers.{TooLarge, ValueAt, DecimalAt, kept, clipped, InRange, OutOfRange, RangedAt, NumberAt}
use Rattle.reader.specs.declared.number.Number.{Number}

-- ---- digits
module _ (s : Bytes) (i : ℕ) (l : i < length s) (n : IsNotAsciiDigit (get_or s i 0)) where
  pub digits_stop : (v : ℕ) → digits v (drop i s) ≡ got v (drop i s)
  digits_stop v = ⊎_elim (λ h. digits_low v s i l h) (λ h. digits_high v s i l h) n

  pub decimal_stop : decimal (drop i s) ≡ stuck (drop i s)
  decimal_stop = ⊎_elim (λ h. decimal_low s i l h) (λ h. decimal_high s i l h) n

-- the value of the digits that a list begins with, behind v
run_value : ℕ → Bytes → ℕ
run_value v [] = v
run_value v (b ∷ s) = cond (is_digit b) (run_value (v * 10 + (b - 48)) s) v

digits_run : (v : ℕ) (s : Bytes) → digits v s ≡ got (run_value v s) (drop (prefix_len is_ascii_digit s) s)
unfolding digits run_value is_digit
digits_run v [] = refl
digits_run v (b ∷ s) = go (is_digit b) refl (digits_run (v * 10 + (b - 48)) s)
  where
    go : (t : Bool) → is_digit b ≡ t → digits (v * 10 + (b - 48)) s ≡ got (run_value (v * 10 + (b - 48)) s) (drop (prefix_len is_ascii_digit s) s)
        → cond t (digits (v * 10 + (b - 48)) s) (got v (b ∷ s))
        ≡ got (cond t (run_value (v * 10 + (b - 48)) s) v) (drop (cond t (1 + prefix_len is_ascii_digit s) 0) (b ∷ s))
    go true e q =
        let n : 1 + prefix_len is_ascii_digit s ≡ suc (prefix_len is_ascii_digit s) = omega arith in
        rw n q
    go false e q = refl

pub digits_large : (s : Bytes) (at i first v : ℕ) → digits first (drop at s) ≡ digits v (drop i s) → at ≤ i → i < length s → 48 ≤ get_or s i 0 → get_or s i 0 ≤ 57
    → 2 ^ 64 ≤ v * 10 + (get_or s i 0 - 48) → TooLarge (digits first) s at (i + length (take_while is_ascii_digit (drop i s)))
digits_large s at i first v q h l a b x =
    let n : ℕ = prefix_len is_ascii_digit (drop i s) in
    let w : ℕ = v * 10 + (get_or s i 0 - 48) in
    let k : ℕ = run_value v (drop i s) in
    let z : length (take_while is_ascii_digit (drop i s)) ≡ n = length-prefix_len is_ascii_digit (drop i s) in
    let r : digits v (drop i s) ≡ got k (drop (i + n) s) = digits_run v (drop i s) ∙ ap (got k) (drop-drop n i s) in
    let d : digits w (drop (i + 1) s) ≡ got k (drop (i + n) s) = sym (digits_more v s i l a b) ∙ r in
    rw z (record {
      value = k;
      large = omega (arith, x, digits_least w (drop (i + 1) s) k (drop (i + n) s) d);
      taken = record { reads = q ∙ r; onward = omega arith; inside = omega (arith, prefix_len-le-length is_ascii_digit (drop i s), length-drop i s) };
    })

-- a decimal read from at as another is from i on
pub value_by : (f g : Reader ℕ) (s : Bytes) (at i e : ℕ) → f (drop at s) ≡ g (drop i s) → at ≤ i → (v : Option ℕ) → ValueAt g s i e v → ValueAt f s at e v
value_by f g s at i e q h (Some n) d = let o = d.onward in record { reads = q ∙ d.reads; onward = omega arith; inside = d.inside }
value_by f g s at i e q h None d =
    let o = d.taken.onward in
    record { value = d.value; large = d.large; taken = record { reads = q ∙ d.taken.reads; onward = omega arith; inside = d.taken.inside } }

-- ---- ranges
module _ (low high v : ℕ) where
  pub within_yes : low ≤ v → v ≤ high → within low high v ≡ true
  within_yes l h = rw (le-leb low v l, le-leb v high h)

  pub within_below : v < low → within low high v ≡ false
  within_below l = rw (lt-leb low v l)

  pub within_above : high < v → within low high v ≡ false
  within_above h = go (leb low v)
    where
      go : (b : Bool) → (b && leb v high) ≡ false
      go true = lt-leb v high h
      go false = refl

-- k of a ring
module _ (k : ℕ) where
  pub ring_low : k < 1 → is_ring (modulo k) ≡ false
  unfolding is_ring
  ring_low h = within_below 1 greatest_ring k h

  pub ring_high : greatest_ring < k → is_ring (modulo k) ≡ false
  unfolding is_ring
  ring_high h = within_above 1 greatest_ring k h

  pub ring_inside : 1 ≤ k → k ≤ greatest_ring → is_ring (modulo k) ≡ true
  unfolding is_ring
  ring_inside h l = within_yes 1 greatest_ring k h l

-- a decimal whose value is dropped where it is out of the range
pub ranged : (f : Reader ℕ) (low high : ℕ) (s : Bytes) (at : ℕ) → high < 2 ^ 64 → (n : Number) → DecimalAt f s at n → NumberAt f low high s at (clipped low high n)
ranged f low high s at h n d = go n.value d
  where
    inside : (v : ℕ) (b : Bool) → within low high v ≡ b → Got f s at v n.end → RangedAt f low high s at n.end (cond b (Some v) None)
    inside v true q g = record { above = leb-true low v (and_left (leb low v) (leb v high) q); below = leb-true v high (and_right (leb low v) (leb v high) q); taken = g }
    inside v false q g = record { value = v; outside = q; taken = g }

    go : (v : Option ℕ) → ValueAt f s at n.end v → RangedAt f low high s at n.end (kept low high v)
    go (Some v) g = inside v (within low high v) refl g
    go None t = let l = t.large in record { value = t.value; outside = within_above low high t.value (omega arith); taken = t.taken }

-- ---- a number's answer taken apart
module _ (read : Reader ℕ) (low high : ℕ) (s : Bytes) (at : ℕ) where
  pub number_some : {n : Number} {v : ℕ} → NumberAt read low high s at n → n.value ≡ Some v → InRange read low high s at v n.end
  number_some h q = rw q at h

  pub number_none : {n : Number} → NumberAt read low high s at n → n.value ≡ None → OutOfRange read low high s at n.end
  number_none h q = rw q at h

  pub number_takes : (n : Number) → NumberAt read low high s at n → (v : ℕ) × Got read s at v n.end
  number_takes n h = go n.value h
    where
      go : (v : Option ℕ) → RangedAt read low high s at n.end v → (v : ℕ) × Got read s at v n.end
      go (Some v) r = (v, r.taken)
      go None r = (r.value, r.taken)
