-- What is left modulo 2 ^ k, for k up to 64, of a number that was cut to 2 ^ 64; the product of two words by halves.
-- Assumes nothing.
use Rattle.std.proofs.Common.{◌≡◌, ℕ, ◌+◌, ◌-◌, ◌*◌, ◌/◌, ◌%◌, ◌^◌, ◌≤◌, sym, ap, ◌∙◌, subst, ap₂, mul_assoc, mul_comm, add-mul, div-add-mod', mul-add, arith, pow_pos, pow-add}
use native.Mathlib.Nat.{mul-mod_left, mul-add-mod_self_right, zero-mod}
use lib.Bits.{bit_and, and_mask}
use lib.Pow.{mod-mod-pow, ones_split, ones_lt, high}
use Rattle.ground.proofs.Congruence.{Same, same_refl, same_eq, same_sym, same_mod, same_add, same_mul, same_cancel, ◌⊳◌}

module _ (k : ℕ) (h : k ≤ 64) where
  rest : 64 - k + k ≡ 64
  rest = omega arith

  -- first 2 ^ 64, then 2 ^ k
  pub cut_cut : (x : ℕ) → x % 2 ^ 64 % 2 ^ k ≡ x % 2 ^ k
  cut_cut x = subst (λ (n : ℕ). x % 2 ^ n % 2 ^ k ≡ x % 2 ^ k) rest (mod-mod-pow x (64 - k) k)

  pub same_cut : {x y : ℕ} → Same (2 ^ 64) x y → Same (2 ^ k) x y
  same_cut {x} {y} e = record { same = sym (cut_cut x) ∙ ap (λ (z : ℕ). z % 2 ^ k) e.same ∙ cut_cut y }

  multiple : (x : ℕ) → Same (2 ^ k) (x * 2 ^ k) 0
  multiple x = record { same = mul-mod_left x (2 ^ k) ∙ sym (zero-mod (2 ^ k)) }

  -- what c lacks to 2 ^ 64 is -1 times c
  pub same_negative : (c : ℕ) → c ≤ 2 ^ 64 → Same (2 ^ k) (2 ^ 64 - c) ((2 ^ k - 1) * c)
  same_negative c l =
      same_cancel (pow_pos k) {x = c} {y = c} same_refl
      (same_eq (all ∙ ap (λ (n : ℕ). 2 ^ n) (sym rest) ∙ pow-add 2 (64 - k) k)
      ⊳ multiple (2 ^ (64 - k)) ⊳ same_sym (multiple c) ⊳ same_eq once_more)
    where
      all : c + (2 ^ 64 - c) ≡ 2 ^ 64
      all = omega arith

      once_more : c * 2 ^ k ≡ c + (2 ^ k - 1) * c
      once_more =
          mul_comm c (2 ^ k)
          ∙ ap (λ (n : ℕ). n * c) (let e : 2 ^ k ≡ 1 + (2 ^ k - 1) = omega (arith, pow_pos k) in e)
          ∙ add-mul 1 (2 ^ k - 1) c
          ∙ omega arith

  -- k digits of 1 are what a shift by 64 - k leaves of 64, and they mask the lowest k digits
  pub and_ones : (c : ℕ) → bit_and c ((2 ^ 64 - 1) / 2 ^ (64 - k)) ≡ c % 2 ^ k
  and_ones c = ap (bit_and c) ones ∙ and_mask c k
    where
      turn : 64 ≡ k + (64 - k)
      turn = omega arith

      ones : (2 ^ 64 - 1) / 2 ^ (64 - k) ≡ 2 ^ k - 1
      ones =
          ap (λ (n : ℕ). (2 ^ n - 1) / 2 ^ (64 - k)) turn
          ∙ ap (λ (x : ℕ). x / 2 ^ (64 - k)) (ones_split k (64 - k))
          ∙ high (2 ^ k - 1) (64 - k) (ones_lt (64 - k))

-- ---- the product by halves
by_low : (c b : ℕ) → c * b ≡ c * (b / 2 ^ 32) * 2 ^ 32 + c * (b % 2 ^ 32)
by_low c b = ap (λ (x : ℕ). c * x) (sym (div-add-mod' b (2 ^ 32))) ∙ rw (mul-add, ← mul_assoc)

weigh : (ab h l r o : ℕ) → ab ≡ (h * 2 ^ 32 + l) * 2 ^ 32 + (r * 2 ^ 32 + o) → ab ≡ h * 2 ^ 64 + (o + (l + r) * 2 ^ 32)
weigh ab h l r o e = omega arith

by_halves : (a b : ℕ) → a * b
    ≡ a / 2 ^ 32 * (b / 2 ^ 32) * 2 ^ 64
    + (a % 2 ^ 32 * (b % 2 ^ 32) + (a / 2 ^ 32 * (b % 2 ^ 32) + a % 2 ^ 32 * (b / 2 ^ 32)) * 2 ^ 32)
by_halves a b =
    weigh (a * b) (a / 2 ^ 32 * (b / 2 ^ 32)) (a / 2 ^ 32 * (b % 2 ^ 32)) (a % 2 ^ 32 * (b / 2 ^ 32)) (a % 2 ^ 32 * (b % 2 ^ 32))
    (mul_comm a b ∙ by_low b a
    ∙ ap₂ (λ (x y : ℕ). x * 2 ^ 32 + y) (mul_comm b (a / 2 ^ 32) ∙ by_low (a / 2 ^ 32) b) (mul_comm b (a % 2 ^ 32) ∙ by_low (a % 2 ^ 32) b))

-- the product of the high halves weighs 2 ^ 64, and so does what the sum of the other two carries
pub halves : (a b cross : ℕ) → cross ≡ (a / 2 ^ 32 * bit_and b (2 ^ 32 - 1) + bit_and a (2 ^ 32 - 1) * (b / 2 ^ 32)) % 2 ^ 64
    → (bit_and a (2 ^ 32 - 1) * bit_and b (2 ^ 32 - 1) + (cross * 2 ^ 32) % 2 ^ 64) % 2 ^ 64 ≡ (a * b) % 2 ^ 64
halves a b cross e =
    rw (e, and_mask a 32, and_mask b 32)
    (same_add same_refl (same_mod _ ⊳ same_mul (same_mod _) same_refl)
    ⊳ record { same = sym (mul-add-mod_self_right (a / 2 ^ 32 * (b / 2 ^ 32)) (2 ^ 64) _) }
    ⊳ same_eq (sym (by_halves a b))).same
