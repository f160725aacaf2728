-- The digits of a set, when a set holds at an assignment, and one variable changed. Assumes nothing.
use mathlib.Core.Path.{◌≡◌, refl, sym, ap, ◌∙◌, subst}
use mathlib.Core.Bool.{true, false, ◌&&◌}
use mathlib.Core.Logic.{⊎_elim}
use Prim.Native.Nat.{ℕ, zero, suc, ◌-◌, ◌/◌, ◌%◌, ◌^◌, ◌≤◌, ◌<◌, min, max}
use native.Mathlib.Nat.{mod-lt, pow-suc, div-one, zero-div}
use native.Mathlib.Numerals.{one-add}
use native.Mathlib.Omega.{arith}
use lib.Arith.{bin_ind, digits_mod}
use lib.Bits.{bit_or, bit_and, bit_xor, differ, or_step, and_step, xor_step, or_shr, and_shr, xor_shr, and_le_r}
use lib.Pow.{shr-shr}
use lib.Dec.{eqb}
use borrow.Author.Tests.{eqb-true, eqb-false, eq-eqb, ne_eqb}
use Rattle.ground.proofs.Tests.{split, bool_ext, and_left, and_right, and_both}
use Rattle.algebra.specs.Polynomial.{bit, has, holds, DifferOnlyAt, Apart}

-- ---- digits
pub bit_lt : (m v : ℕ) → bit m v < 2
unfolding bit
bit_lt m v = mod-lt (m / 2 ^ v) (omega arith)

pub bit_or_law : (a b v : ℕ) → bit (bit_or a b) v ≡ max (bit a v) (bit b v)
unfolding bit
bit_or_law a b v = ap (λ (x : ℕ). x % 2) (or_shr a b v) ∙ ap (λ (x : ℕ). x % 2) (or_step (a / 2 ^ v) (b / 2 ^ v)) ∙ digits_mod _ (omega (arith, bit_lt a v, bit_lt b v))

bit_and_law : (a b v : ℕ) → bit (bit_and a b) v ≡ min (bit a v) (bit b v)
unfolding bit
bit_and_law a b v = ap (λ (x : ℕ). x % 2) (and_shr a b v) ∙ ap (λ (x : ℕ). x % 2) (and_step (a / 2 ^ v) (b / 2 ^ v)) ∙ digits_mod _ (omega (arith, bit_lt a v, bit_lt b v))

pub bit_zero : (m : ℕ) → bit m 0 ≡ m % 2
unfolding bit
bit_zero m = ap (λ (x : ℕ). x % 2) (div-one m)

pub bit_suc : (m v : ℕ) → bit m (suc v) ≡ bit (m / 2) v
unfolding bit
bit_suc m v = ap (λ (x : ℕ). m / 2 ^ x % 2) (sym (one-add v)) ∙ ap (λ (x : ℕ). x % 2) (sym (shr-shr m 1 v))

pub bit_of_zero : (v : ℕ) → bit 0 v ≡ 0
unfolding bit
bit_of_zero v = ap (λ (x : ℕ). x % 2) (zero-div (2 ^ v))

pub bit_ext : (a b : ℕ) → ((v : ℕ) → bit a v ≡ bit b v) → a ≡ b
bit_ext =
    bin_ind (λ (a : ℕ). (b : ℕ) → ((v : ℕ) → bit a v ≡ bit b v) → a ≡ b)
    (bin_ind (λ (b : ℕ). ((v : ℕ) → bit 0 v ≡ bit b v) → 0 ≡ b) (λ h. refl)
    (λ b ih h. omega (arith, ih (λ v. bit_of_zero v ∙ sym (bit_of_zero (suc v)) ∙ h (suc v) ∙ bit_suc b v), h 0, bit_of_zero 0, bit_zero b)))
    (λ a ih b h. omega (arith, ih (b / 2) (λ v. sym (bit_suc a v) ∙ h (suc v) ∙ bit_suc b v), h 0, bit_zero a, bit_zero b))

-- ---- sets
holds_bits : (m a : ℕ) → holds m a ≡ true → (v : ℕ) → bit m v ≤ bit a v
unfolding holds
holds_bits m a e v = omega (arith, bit_and_law m a v, ap (λ (x : ℕ). bit x v) (eqb-true (bit_and m a) m e))

bits_holds : (m a : ℕ) → ((v : ℕ) → bit m v ≤ bit a v) → holds m a ≡ true
unfolding holds
bits_holds m a h = eq-eqb (bit_and m a) m (bit_ext (bit_and m a) m (λ v. omega (arith, bit_and_law m a v, h v)))

pub holds_refl : (m : ℕ) → holds m m ≡ true
holds_refl m = bits_holds m m (λ v. omega arith)

pub holds_le : (m a : ℕ) → holds m a ≡ true → m ≤ a
unfolding holds
holds_le m a e = omega (arith, and_le_r m a, eqb-true (bit_and m a) m e)

pub holds_or : (m n a : ℕ) → holds (bit_or m n) a ≡ (holds m a && holds n a)
holds_or m n a = bool_ext (holds (bit_or m n) a) (holds m a && holds n a)
    (λ e. and_both (holds m a) (holds n a)
    (bits_holds m a (λ v. omega (arith, bit_or_law m n v, holds_bits (bit_or m n) a e v)))
    (bits_holds n a (λ v. omega (arith, bit_or_law m n v, holds_bits (bit_or m n) a e v))))
    (λ e. bits_holds (bit_or m n) a (λ v. omega (arith, bit_or_law m n v, holds_bits m a (and_left (holds m a) (holds n a) e) v, holds_bits n a (and_right (holds m a) (holds n a) e) v)))

-- ---- one variable changed
differ_one : (x : ℕ) → x < 2 → differ x 1 ≡ 1 - x
differ_one zero h = refl
differ_one (suc zero) h = refl
differ_one (suc (suc x)) h = absurd (omega arith)

differ_none : (x : ℕ) → differ x 0 ≡ x
differ_none zero = refl
differ_none (suc x) = refl

differ_lt : (x y : ℕ) → x < 2 → y < 2 → differ x y < 2
differ_lt zero y h l = l
differ_lt (suc zero) zero h l = h
differ_lt (suc zero) (suc y) h l = omega arith
differ_lt (suc (suc x)) y h l = absurd (omega arith)

bit_xor_law : (a b v : ℕ) → bit (bit_xor a b) v ≡ differ (bit a v) (bit b v)
unfolding bit
bit_xor_law a b v = ap (λ (x : ℕ). x % 2) (xor_shr a b v) ∙ ap (λ (x : ℕ). x % 2) (xor_step (a / 2 ^ v) (b / 2 ^ v)) ∙ digits_mod _ (differ_lt _ _ (bit_lt a v) (bit_lt b v))

half_pow : (v : ℕ) → 2 ^ suc v / 2 ≡ 2 ^ v
half_pow v = omega (arith, pow-suc 2 v)

pub bit_pow : (v : ℕ) → bit (2 ^ v) v ≡ 1
bit_pow zero = bit_zero 1
bit_pow (suc v) = bit_suc (2 ^ suc v) v ∙ ap (λ (x : ℕ). bit x v) (half_pow v) ∙ bit_pow v

pub bit_pow_other : (v w : ℕ) → (w ≡ v → ⊥) → bit (2 ^ v) w ≡ 0
bit_pow_other zero zero h = absurd (h refl)
bit_pow_other zero (suc w) h = bit_suc 1 w ∙ bit_of_zero w
bit_pow_other (suc v) zero h = bit_zero (2 ^ suc v) ∙ omega (arith, pow-suc 2 v)
bit_pow_other (suc v) (suc w) h = bit_suc (2 ^ suc v) w ∙ ap (λ (x : ℕ). bit x w) (half_pow v) ∙ bit_pow_other v w (λ e. h (ap suc e))

pub holds_pow : (v a : ℕ) → holds (2 ^ v) a ≡ eqb (bit a v) 1
holds_pow v a = bool_ext (holds (2 ^ v) a) (eqb (bit a v) 1)
    (λ e. eq-eqb (bit a v) 1 (omega (arith, holds_bits (2 ^ v) a e v, bit_pow v, bit_lt a v)))
    (λ e. bits_holds (2 ^ v) a (λ w. ⊎_elim
    (λ f. subst (λ (x : ℕ). bit (2 ^ v) x ≤ bit a x) (sym (eqb-true w v f)) (omega (arith, bit_pow v, eqb-true (bit a v) 1 e)))
    (λ f. omega (arith, bit_pow_other v w (eqb-false w v f))) (split (eqb w v))))

-- b is a but for variable v, which is d
pub record Changed (a v d b : ℕ) : Type 0 where
  pub here : bit b v ≡ d
  pub there : (w : ℕ) → (w ≡ v → ⊥) → bit b w ≡ bit a w

pub change : (a v d : ℕ) → d < 2 → (b : ℕ) × Changed a v d b
change a v d h = ⊎_elim
    (λ e. (a, record { here = eqb-true (bit a v) d e; there = λ w n. refl }))
    (λ e. (
      bit_xor a (2 ^ v),
      record {
        here = bit_xor_law a (2 ^ v) v ∙ ap (differ (bit a v)) (bit_pow v) ∙ differ_one (bit a v) (bit_lt a v) ∙ omega (arith, bit_lt a v, eqb-false (bit a v) d e);
        there = λ w n. bit_xor_law a (2 ^ v) w ∙ ap (differ (bit a w)) (bit_pow_other v w n) ∙ differ_none (bit a w);
      },
    ))
    (split (eqb (bit a v) d))

-- a and b give the variables of m the same values
pub record AgreeOn (m a b : ℕ) : Type 0 where
  pub at : (v : ℕ) → bit m v ≡ 1 → bit a v ≡ bit b v

pub agree_left : (s t : ℕ) {a b : ℕ} → AgreeOn (bit_or s t) a b → AgreeOn s a b
agree_left s t h = record { at = λ w e. h.at w (omega (arith, bit_or_law s t w, bit_lt t w)) }

pub agree_right : (s t : ℕ) {a b : ℕ} → AgreeOn (bit_or s t) a b → AgreeOn t a b
agree_right s t h = record { at = λ w e. h.at w (omega (arith, bit_or_law s t w, bit_lt s w)) }

agree_sym : {s a b : ℕ} → AgreeOn s a b → AgreeOn s b a
agree_sym h = record { at = λ w e. sym (h.at w e) }

holds_agree_to : (m a b : ℕ) → AgreeOn m a b → holds m a ≡ true → holds m b ≡ true
holds_agree_to m a b h e = bits_holds m b (λ w. ⊎_elim
    (λ f. omega (arith, h.at w (eqb-true (bit m w) 1 f), holds_bits m a e w))
    (λ f. omega (arith, bit_lt m w, eqb-false (bit m w) 1 f)) (split (eqb (bit m w) 1)))

pub holds_agree : (m a b : ℕ) → AgreeOn m a b → holds m a ≡ holds m b
holds_agree m a b h = bool_ext (holds m a) (holds m b) (holds_agree_to m a b h) (holds_agree_to m b a (agree_sym h))

-- ---- what a set lacks
pub has_false : (m v : ℕ) → has m v ≡ false → bit m v ≡ 0
unfolding has
has_false m v e = omega (arith, bit_lt m v, eqb-false (bit m v) 1 e)

pub has_none : (m v : ℕ) → bit m v ≡ 0 → has m v ≡ false
unfolding has
has_none m v e = ne_eqb (bit m v) 1 (λ f. omega arith)

pub changed_agree : {a v d b m : ℕ} → Changed a v d b → bit m v ≡ 0 → AgreeOn m a b
changed_agree {v} {m} c z = record { at = λ w e. sym (c.there w (λ q. omega (arith, ap (λ (x : ℕ). bit m x) q))) }

pub apart_agree : {m n a b : ℕ} → Apart m n → DifferOnlyAt m a b → AgreeOn n a b
apart_agree {m} {n} h d = record { at = λ v e. d.at v (omega (arith, bit_lt m v, clash v e)) }
  where
    clash : (v : ℕ) → bit n v ≡ 1 → bit m v ≡ 1 → ⊥
    clash v e f = omega (arith, h.at v f)
