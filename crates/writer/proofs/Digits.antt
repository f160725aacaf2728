-- The digits of a word counted by powers of ten, and written from the last to the first. Assumes nothing.
use mathlib.Core.Path.{◌≡◌, refl, sym, ap, ap₂, ◌∙◌}
use mathlib.Core.List.{[], ◌∷◌}
use Prim.Native.Nat.{ℕ, ◌+◌, ◌-◌, ◌*◌, ◌/◌, ◌%◌, ◌^◌, ◌≤◌, ◌<◌}
use Prim.Native.Char.{code}
use Rattle.std.proofs.Common.{⊎_elim, ltb, ltb-true, ltb-false, pow-suc}
use Rattle.ground.proofs.Tests.{split}
use native.Mathlib.Omega.{arith}
use lib.ListN.{length, set, length-append, length-set}
use Rattle.paper.specs.Grammar.{Bytes}
use Rattle.paper.specs.Spelling.{spell_number}
use Rattle.paper.proofs.Numbers.{number_some, number_small, number_more, number_least, number_most}
use Rattle.writer.specs.Writing.{written}
use Rattle.writer.proofs.Written.{written_byte, written_later}

pub word_digits : (n : ℕ) → n < 2 ^ 64 → length (spell_number n) ≤ 20
word_digits n h = number_most 19 n (omega arith)

-- ---- how many there are
pub digits_are : (d n : ℕ) → 10 ^ d ≤ n → n < 10 * 10 ^ d → d + 1 ≡ length (spell_number n)
digits_are d n h k = omega (arith, number_least d n h, number_most d n (omega (arith, pow-suc 10 d)))

-- ---- from the last to the first
-- e, once left is written from `at` on, is d with n written there; left's last digit stands before the place i, and none is left at `at`
pub record Back (d : Bytes) (at n : ℕ) (e : Bytes) (i left : ℕ) : Type 0 where
  pub bytes : at < i → written e at (spell_number left) ≡ written d at (spell_number n)
  pub place : at < i → i ≡ at + length (spell_number left)
  pub all : i ≤ at → e ≡ written d at (spell_number n)
  pub same : length e ≡ length d

pub back_start : (d : Bytes) (at n m : ℕ) → m ≡ length (spell_number n) → Back d at n d (at + m) n
back_start d at n m e = record {
  bytes = λ l. refl;
  place = λ l. omega arith;
  all = λ l. absurd (omega (arith, number_some n));
  same = refl;
}

-- the next digit is written
module _ (d : Bytes) (at n : ℕ) (e : Bytes) (i left : ℕ) (h : Back d at n e i left) (l : at < i) (w : i ≤ length e) where
  abbrev pub next : Bytes
  next = set e (i - 1) (code "0" + left % 10)

  long : length next ≡ length d
  long = length-set e (i - 1) (code "0" + left % 10) ∙ h.same

  -- more are left
  back_more : 10 ≤ left → Back d at n next (i - 1) (left / 10)
  back_more m = record {
    bytes = λ _. ap (λ (x : Bytes). written x at (spell_number (left / 10))) put
        ∙ written_later e at (spell_number (left / 10)) digit (omega (arith, here))
        ∙ ap (written e at) (sym (number_more left m)) ∙ h.bytes l;
    place = λ _. here;
    all = λ k. absurd (omega (arith, here, number_some (left / 10)));
    same = long;
  }
    where
      digit : Bytes
      digit = (code "0" + left % 10) ∷ []

      here : i - 1 ≡ at + length (spell_number (left / 10))
      here = omega (arith, ap length (number_more left m), length-append (spell_number (left / 10)) digit, h.place l)

      put : next ≡ written e (at + length (spell_number (left / 10))) digit
      put = written_byte e (i - 1) (code "0" + left % 10) (omega arith) ∙ ap (λ (x : ℕ). written e x digit) here

  -- it was the last
  back_end : left < 10 → Back d at n next (i - 1) (left / 10)
  back_end m =
      let one : length (spell_number left) ≡ 1 = ap length (number_small left m) in
      let here : i - 1 ≡ at = omega (arith, h.place l) in
      let f : left % 10 ≡ left = omega arith in
      record {
        bytes = λ k. absurd (omega arith);
        place = λ k. absurd (omega arith);
        all = λ _. written_byte e (i - 1) (code "0" + left % 10) (omega arith)
            ∙ ap₂ (λ (x : ℕ) (y : Bytes). written e x y) here (ap (λ (x : ℕ). (code "0" + x) ∷ []) f ∙ sym (number_small left m)) ∙ h.bytes l;
        same = long;
      }

  pub back_next : Back d at n next (i - 1) (left / 10)
  back_next = ⊎_elim (λ x. back_end (ltb-true left 10 x)) (λ x. back_more (ltb-false left 10 x)) (split (ltb left 10))
