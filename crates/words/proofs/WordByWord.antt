-- Sets word by word: what `union`, `with`, `has`, `compare` and `count` do at one word, said of the whole number.
-- Assumes nothing.
use Rattle.std.proofs.Common.{◌≡◌, ℕ, zero, suc, ◌+◌, ◌*◌, ◌/◌, ◌%◌, ◌^◌, ◌<◌, ◌≤◌, eqb, List, [], ◌∷◌, length, get_or, take, drop, set, sym, ap, ◌∙◌, subst, ap₂, le_of_suc-le-suc, not-suc-le-zero, add-zero, mod-lt, mul_assoc, one-mul, add-one, arith, drop-cons, pow_pos, pow-add, shl_exact}
use lib.Bits.{bit_and, bit_or, and_mask, or_block, or_lt, or_zero_l, or_zero_r, or_shifted, or_comm}
use lib.Count.{ones, ones_cat, ones-le}
use Rattle.std.specs.List.{sum_by}
use Rattle.std.proofs.lemmas.Cmp.{ranked}
use Rattle.std.proofs.lemmas.List.Sums.{sum_by-cons}
use Rattle.algebra.specs.Polynomial.{bit, has, members}
use Rattle.algebra.proofs.Sets.{bit_or_law, bit_ext}
use Rattle.words.specs.Words.{number_of, order_of}
use Rattle.std.specs.declared.cmp.Ordering.{Ordering}
use Rattle.std.specs.declared.cmp.Ordering.TheVariants.{Less, Equal, Greater}
use Rattle.words.proofs.Laws.{Words, words_set, pow_words, number_lt, number_take, number_take_lt, is_order, number_less, number_bit, length_members}

-- ---- union
or_left_comm : (a b c : ℕ) → bit_or a (bit_or b c) ≡ bit_or b (bit_or a c)
or_left_comm a b c = bit_ext _ _ (λ v. omega (arith, bit_or_law a (bit_or b c) v, bit_or_law b c v, bit_or_law b (bit_or a c) v, bit_or_law a c v))

-- x united with word i
number_or : (ws : List ℕ) (i x : ℕ) → Words ws → x < 2 ^ 64 → i < length ws
    → number_of (set ws i (bit_or (get_or ws i 0) x)) ≡ bit_or (x * 2 ^ (64 * i)) (number_of ws)
unfolding number_of
number_or [] i x f h l = absurd (not-suc-le-zero l)
number_or (w ∷ ws) zero x f h l =
    ap₂ (λ (y z : ℕ). y * 2 ^ 64 + z) (sym (or_zero_l (number_of ws))) (or_comm w x)
    ∙ sym (or_block 64 0 (number_of ws) x w h (f 0).fits)
    ∙ ap (λ (y : ℕ). bit_or y (number_of ws * 2 ^ 64 + w)) (let e : 0 * 2 ^ 64 + x ≡ x * 1 = omega arith in e)
number_or (w ∷ ws) (suc i) x f h l =
    ap₂ (λ (y z : ℕ). y * 2 ^ 64 + z) (number_or ws i x (λ j. f (suc j)) h (le_of_suc-le-suc l)) (sym (or_zero_l w))
    ∙ sym (or_block 64 (x * 2 ^ (64 * i)) (number_of ws) 0 w (pow_pos 64) (f 0).fits)
    ∙ ap (λ (y : ℕ). bit_or y (number_of ws * 2 ^ 64 + w))
    (add-zero (x * 2 ^ (64 * i) * 2 ^ 64) ∙ mul_assoc x (2 ^ (64 * i)) (2 ^ 64) ∙ ap (λ (y : ℕ). x * y) (sym (pow_words i)))

-- the union with the lowest words, word by word
pub union_start : (m : ℕ) (ws : List ℕ) → m ≡ bit_or m (number_of (take 0 ws))
unfolding number_of
union_start m ws = sym (or_zero_r m)

pub union_words : (us ws : List ℕ) (i : ℕ) → Words us → Words ws → Words (set us i (bit_or (get_or us i 0) (get_or ws i 0)))
union_words us ws i f g =
    words_set us i (bit_or (get_or us i 0) (get_or ws i 0)) f (or_lt 64 (get_or us i 0) (get_or ws i 0) (f i).fits (g i).fits)

pub union_more : (us : List ℕ) (m : ℕ) (ws : List ℕ) (i : ℕ) → Words us → Words ws → i < length us → i < length ws
    → number_of us ≡ bit_or m (number_of (take i ws))
    → number_of (set us i (bit_or (get_or us i 0) (get_or ws i 0))) ≡ bit_or m (number_of (take (i + 1) ws))
union_more us m ws i f g hu hw e =
    number_or us i (get_or ws i 0) f (g i).fits hu
    ∙ ap (bit_or (get_or ws i 0 * 2 ^ (64 * i))) e
    ∙ or_left_comm (get_or ws i 0 * 2 ^ (64 * i)) m (number_of (take i ws))
    ∙ ap (bit_or m) (or_shifted (get_or ws i 0) (64 * i) (number_of (take i ws)) (number_take_lt ws i g (omega arith))
    ∙ sym (number_take ws i) ∙ ap (λ (n : ℕ). number_of (take n ws)) (sym (add-one i)))

-- variable v, as a shift gives it, united with its word
pub number_with : (ws : List ℕ) (v : ℕ) → Words ws → v / 64 < length ws
    → number_of (set ws (v / 64) (bit_or (get_or ws (v / 64) 0) ((1 * 2 ^ (v % 64)) % 2 ^ 64))) ≡ bit_or (2 ^ v) (number_of ws)
number_with ws v f h =
    number_or ws (v / 64) ((1 * 2 ^ (v % 64)) % 2 ^ 64) f (mod-lt (1 * 2 ^ (v % 64)) (pow_pos 64)) h
    ∙ ap (λ (x : ℕ). bit_or x (number_of ws))
    (ap (λ (x : ℕ). x * 2 ^ (64 * (v / 64))) (shl_exact {a = 1} 1 (v % 64) 64 (omega arith) (omega arith) ∙ one-mul (2 ^ (v % 64)))
    ∙ sym (pow-add 2 (v % 64) (64 * (v / 64)))
    ∙ ap (λ (x : ℕ). 2 ^ x) (let e : v % 64 + 64 * (v / 64) ≡ v = omega arith in e))

-- the digit as a shift and a mask give it
pub number_has : (ws : List ℕ) (v : ℕ) → Words ws → eqb (bit_and (get_or ws (v / 64) 0 / 2 ^ (v % 64)) 1) 1 ≡ has (number_of ws) v
unfolding has bit
number_has ws v f = ap (λ (x : ℕ). eqb x 1) (and_mask (get_or ws (v / 64) 0 / 2 ^ (v % 64)) 1 ∙ sym (number_bit ws v f))

-- ---- order
-- two sets of as many words
pub record Sets (us ws : List ℕ) : Type 0 where
  pub same : length us ≡ length ws
  pub left : Words us
  pub right : Words ws

-- from the highest word down: the words above i are equal, and word i comes next
module _ (us ws : List ℕ) (same : length us ≡ length ws) (i : ℕ) (inside : i < length us) (above : drop (suc i) us ≡ drop (suc i) ws) where
  pub order_next : get_or us i 0 ≡ get_or ws i 0 → drop i us ≡ drop i ws
  order_next e = drop-cons us i 0 inside ∙ ap₂ ◌∷◌ e above ∙ sym (drop-cons ws i 0 (omega (arith, same)))

module _ {us ws : List ℕ} (a : Sets us ws) (i : ℕ) (inside : i < length us) (above : drop (suc i) us ≡ drop (suc i) ws) where
  -- it decides, where it differs
  pub order_decides : (get_or us i 0 ≡ get_or ws i 0 → ⊥) → (r : Ordering) → r ≡ order_of (get_or us i 0) (get_or ws i 0)
      → r ≡ order_of (number_of us) (number_of ws)
  order_decides differ Less e = is_order Less _ _ (number_less i us ws a.same a.left inside above (ranked _ _ Less e))
  order_decides differ Equal e = absurd (differ (ranked _ _ Equal e))
  order_decides differ Greater e =
      is_order Greater _ _ (number_less i ws us (sym a.same) a.right (omega (arith, a.same)) (sym above) (ranked _ _ Greater e))

-- ---- count
pub ones_words : (ws : List ℕ) → Words ws → sum_by ones ws ≡ ones (number_of ws)
unfolding number_of
ones_words [] f = sym (let e : ones 0 ≡ 0 = omega (arith, ones-le 0 0 (omega arith)) in e)
ones_words (w ∷ ws) f =
    omega (arith, sum_by-cons ones w ws, ones_words ws (λ i. f (suc i)), ones_cat 64 (number_of ws) w (f 0).fits)

pub ones_fit : (ws : List ℕ) → Words ws → sum_by ones ws ≤ 64 * length ws
ones_fit ws f = omega (arith, ones_words ws f, ones-le (64 * length ws) (number_of ws) (number_lt ws f))

pub ones_members : (ws : List ℕ) (n v : ℕ) → Words ws → n ≡ 64 * length ws → sum_by ones ws ≡ length (members n v (number_of ws))
ones_members ws n v f e =
    ones_words ws f ∙ sym (length_members n v (number_of ws) (subst (λ (x : ℕ). number_of ws < 2 ^ x) (sym e) (number_lt ws f)))
