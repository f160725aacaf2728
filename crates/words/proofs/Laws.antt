-- The number of words: its bound, its parts, its order, its digits and its variables; the lowest variable of a set.
-- Assumes nothing.
use Rattle.std.proofs.Common.{◌≡◌, ℕ, zero, suc, ◌+◌, ◌-◌, ◌*◌, ◌/◌, ◌%◌, ◌^◌, ◌<◌, ◌≤◌, Bool, true, false, cond, eqb, ltb, List, [], ◌∷◌, ◌++◌, length, get_or, take, drop, set, sym, refl, ap, ◌∙◌, subst, ap₂, ⊎_elim, le_of_suc-le-suc, not-suc-le-zero, add-zero, add-suc, mul_assoc, suc-add, pow-suc, zero-add, mul-suc, div-one, add-one, one-add, arith, length-take-le, get_or-drop, drop-cons, pow-add, shr-shr, w64, Fits, ltb-false, ltb-true, le-ltb, lt-ltb, eq-eqb, ne_eqb, eqb-true}
use lib.Arith.{digits_lt}
use lib.Bits.{bit_and, and_step, and_self}
use lib.Count.{ones, ones_step, ones-le, count_trailing_zeros, under}
use lib.Pow.{high, low, field, mod-mod-pow}
use lib.Seq.{take-nil}
use borrow.Author.Tests.{eqb-false}
use Rattle.ground.proofs.Tests.{split}
use Rattle.algebra.specs.Polynomial.{bit, members}
use Rattle.algebra.proofs.Sets.{bit_zero, bit_suc, bit_of_zero}
use Rattle.words.specs.Words.{number_of, order_of, Lowest}
use Rattle.std.specs.Ordering.{MatchOrdering}
use Rattle.std.specs.declared.cmp.Ordering.{Ordering}
use Rattle.std.specs.declared.cmp.Ordering.TheVariants.{Less, Equal, Greater}

-- each is below 2 ^ 64
abbrev pub Words : List ℕ → Type 0
Words ws = (i : ℕ) → Fits w64 (get_or ws i 0)

pub words_drop : (n : ℕ) (ws : List ℕ) → Words ws → Words (drop n ws)
words_drop n ws f i = subst (λ (x : ℕ). Fits w64 x) (sym (get_or-drop n ws i 0)) (f (n + i))

pub words_take : (n : ℕ) (ws : List ℕ) → Words ws → Words (take n ws)
words_take zero ws f i = record { fits = omega arith }
words_take (suc n) [] f i = f i
words_take (suc n) (w ∷ ws) f zero = f 0
words_take (suc n) (w ∷ ws) f (suc i) = words_take n ws (λ j. f (suc j)) i

pub words_set : (ws : List ℕ) (i x : ℕ) → Words ws → x < 2 ^ 64 → Words (set ws i x)
words_set [] i x f h j = f j
words_set (w ∷ ws) zero x f h zero = record { fits = h }
words_set (w ∷ ws) zero x f h (suc j) = f (suc j)
words_set (w ∷ ws) (suc i) x f h zero = f 0
words_set (w ∷ ws) (suc i) x f h (suc j) = words_set ws i x (λ k. f (suc k)) h j

-- ---- bound and parts
-- word n + 1 weighs 2 ^ 64 times what word n weighs
pub pow_words : (n : ℕ) → 2 ^ (64 * suc n) ≡ 2 ^ (64 * n) * 2 ^ 64
pow_words n = ap (λ (x : ℕ). 2 ^ x) (mul-suc 64 n) ∙ pow-add 2 (64 * n) 64

pub number_lt : (ws : List ℕ) → Words ws → number_of ws < 2 ^ (64 * length ws)
unfolding number_of
number_lt [] f = omega arith
number_lt (w ∷ ws) f = rw (pow_words (length ws)) (digits_lt (number_lt ws (λ i. f (suc i))) (f 0).fits)

pub number_inj : (us ws : List ℕ) → length us ≡ length ws → Words us → Words ws → number_of us ≡ number_of ws → us ≡ ws
unfolding number_of
number_inj [] [] l f g e = refl
number_inj [] (w ∷ ws) l f g e = absurd (let z : 0 ≡ suc (length ws) = l in omega arith)
number_inj (u ∷ us) [] l f g e = absurd (let z : suc (length us) ≡ 0 = l in omega arith)
number_inj (u ∷ us) (w ∷ ws) l f g e =
    let fu : u < 2 ^ 64 = (f 0).fits in
    let gw : w < 2 ^ 64 = (g 0).fits in
    ap₂ ◌∷◌ (omega arith) (number_inj us ws (omega arith) (λ i. f (suc i)) (λ i. g (suc i)) (omega arith))

-- the lowest i + 1 words are the lowest i and word i above them
pub number_take : (ws : List ℕ) (i : ℕ) → number_of (take (suc i) ws) ≡ get_or ws i 0 * 2 ^ (64 * i) + number_of (take i ws)
unfolding number_of
number_take [] i = omega (arith, ap number_of (take-nil {A = ℕ} i))
number_take (w ∷ ws) zero = omega arith
number_take (w ∷ ws) (suc i) =
    omega (arith, number_take ws i, ap (λ (x : ℕ). get_or ws i 0 * x) (pow_words i), mul_assoc (get_or ws i 0) (2 ^ (64 * i)) (2 ^ 64))

pub number_take_lt : (ws : List ℕ) (i : ℕ) → Words ws → i ≤ length ws → number_of (take i ws) < 2 ^ (64 * i)
number_take_lt ws i f l =
    subst (λ (n : ℕ). number_of (take i ws) < 2 ^ (64 * n)) (length-take-le i ws l) (number_lt (take i ws) (words_take i ws f))

-- ---- order
pub is_order : (o : Ordering) (m n : ℕ) → MatchOrdering o (m < n) (m ≡ n) (n < m) → o ≡ order_of m n
is_order Less m n h = rw (lt-ltb m n h)
is_order Equal m n h = rw (le-ltb m n (omega arith), eq-eqb m n h)
is_order Greater m n h = rw (le-ltb m n (omega arith), ne_eqb m n (λ e. omega arith))

-- the highest words that differ decide
pub number_less : (n : ℕ) (us ws : List ℕ) → length us ≡ length ws → Words us → n < length us
    → drop (suc n) us ≡ drop (suc n) ws → get_or us n 0 < get_or ws n 0 → number_of us < number_of ws
unfolding number_of
number_less n [] ws l f h t o = absurd (not-suc-le-zero h)
number_less n (u ∷ us) [] l f h t o = absurd (let z : suc (length us) ≡ 0 = l in omega arith)
number_less zero (u ∷ us) (w ∷ ws) l f h t o = let e : number_of us ≡ number_of ws = ap number_of t in omega arith
number_less (suc n) (u ∷ us) (w ∷ ws) l f h t o =
    let fu : u < 2 ^ 64 = (f 0).fits in
    let ih : number_of us < number_of ws = number_less n us ws (omega arith) (λ i. f (suc i)) (omega arith) t o in
    omega arith

-- ---- digits
bit_high : (m n v : ℕ) → bit (m / 2 ^ n) v ≡ bit m (n + v)
unfolding bit
bit_high m n v = ap (λ (x : ℕ). x % 2) (shr-shr m n v)

bit_low : (m n v : ℕ) → v < n → bit (m % 2 ^ n) v ≡ bit m v
unfolding bit
bit_low m n v h =
    subst (λ (x : ℕ). m % 2 ^ x / 2 ^ v % 2 ≡ m / 2 ^ v % 2) (let e : n - v - 1 + 1 + v ≡ n = omega arith in e)
    (ap (λ (x : ℕ). x % 2) (field m (n - v - 1 + 1) v) ∙ mod-mod-pow (m / 2 ^ v) (n - v - 1) 1)

block_low : (m w v : ℕ) → w < 2 ^ 64 → v < 64 → bit (m * 2 ^ 64 + w) v ≡ bit w v
block_low m w v h l = sym (bit_low (m * 2 ^ 64 + w) 64 v l) ∙ ap (λ (x : ℕ). bit x v) (low m 64 h)

block_high : (m w v : ℕ) → w < 2 ^ 64 → bit (m * 2 ^ 64 + w) (64 + v) ≡ bit m v
block_high m w v h = sym (bit_high (m * 2 ^ 64 + w) 64 v) ∙ ap (λ (x : ℕ). bit x v) (high m 64 h)

-- digit v is digit v % 64 of word v / 64
pub number_bit : (ws : List ℕ) (v : ℕ) → Words ws → bit (number_of ws) v ≡ bit (get_or ws (v / 64) 0) (v % 64)
unfolding number_of
number_bit [] v f = bit_of_zero v ∙ sym (bit_of_zero (v % 64))
number_bit (w ∷ ws) v f =
    ⊎_elim
    (λ l. let h : v < 64 = ltb-true v 64 l in
    block_low (number_of ws) w v (f 0).fits h
    ∙ ap₂ (λ (i u : ℕ). bit (get_or (w ∷ ws) i 0) u) (let e : 0 ≡ v / 64 = omega arith in e) (let e : v ≡ v % 64 = omega arith in e))
    (λ l. let h : 64 ≤ v = ltb-false v 64 l in
    ap (bit (number_of (w ∷ ws))) (let e : v ≡ 64 + (v - 64) = omega arith in e)
    ∙ block_high (number_of ws) w (v - 64) (f 0).fits
    ∙ number_bit ws (v - 64) (λ i. f (suc i))
    ∙ ap₂ (λ (i u : ℕ). bit (get_or (w ∷ ws) i 0) u)
    (let e : suc ((v - 64) / 64) ≡ v / 64 = omega arith in e) (let e : (v - 64) % 64 ≡ v % 64 = omega arith in e))
    (split (ltb v 64))

-- ---- the variables of a set
pub members_none : (n v : ℕ) → members n v 0 ≡ []
unfolding members
members_none zero v = refl
members_none (suc n) v = members_none n (suc v)

-- digit by digit
members_odd : (n v m : ℕ) → m % 2 ≡ 1 → members (suc n) v m ≡ v ∷ members n (suc v) (m / 2)
unfolding members
members_odd n v m e = rw e

members_even : (n v m : ℕ) → m % 2 ≡ 0 → members (suc n) v m ≡ members n (suc v) (m / 2)
unfolding members
members_even n v m e = rw e

cond_append : (b : Bool) (v : ℕ) (us ws : List ℕ) → cond b (v ∷ (us ++ ws)) (us ++ ws) ≡ cond b (v ∷ us) us ++ ws
cond_append true v us ws = refl
cond_append false v us ws = refl

-- the first n digits, then the next
members_append : (n k v m : ℕ) → members (n + k) v m ≡ members n v (m % 2 ^ n) ++ members k (v + n) (m / 2 ^ n)
unfolding members
members_append zero k v m = rw (zero-add, add-zero, div-one)
members_append (suc n) k v m =
    let digit : m % 2 ^ suc n % 2 ≡ m % 2 = subst (λ (x : ℕ). m % 2 ^ x % 2 ≡ m % 2) (add-one n) (mod-mod-pow m n 1) in
    let next : m % 2 ^ suc n / 2 ≡ m / 2 % 2 ^ n = subst (λ (x : ℕ). m % 2 ^ x / 2 ≡ m / 2 % 2 ^ n) (add-one n) (field m n 1) in
    let above : m / 2 ^ suc n ≡ m / 2 / 2 ^ n = sym (shr-shr m 1 n ∙ ap (λ (x : ℕ). m / 2 ^ x) (one-add n)) in
    rw (suc-add n k, digit, next, above, add-suc v n, ← suc-add v n, members_append n k (suc v) (m / 2))
    (cond_append (eqb (m % 2) 1) v (members n (suc v) (m / 2 % 2 ^ n)) (members k (suc v + n) (m / 2 / 2 ^ n)))

half_lt : (n m : ℕ) → m < 2 ^ suc n → m / 2 < 2 ^ n
half_lt n m h = omega (arith, pow-suc 2 n)

-- as many variables as digits of 1
pub length_members : (n v m : ℕ) → m < 2 ^ n → length (members n v m) ≡ ones m
unfolding members
length_members zero v m h = omega (arith, ones-le 0 m h)
length_members (suc n) v m h =
    let ih : length (members n (suc v) (m / 2)) ≡ ones (m / 2) = length_members n (suc v) (m / 2) (half_lt n m h) in
    ⊎_elim
    (λ t. omega (arith, ones_step m, eqb-true (m % 2) 1 t, ap length (members_odd n v m (eqb-true (m % 2) 1 t))))
    (λ t. let e : m % 2 ≡ 0 = omega (arith, eqb-false (m % 2) 1 t) in omega (arith, ones_step m, ap length (members_even n v m e)))
    (split (eqb (m % 2) 1))

-- the lowest word, then the others
members_word : (n v w : ℕ) (ws : List ℕ) → w < 2 ^ 64
    → members (64 * suc n) v (number_of (w ∷ ws)) ≡ members 64 v w ++ members (64 * n) (v + 64) (number_of ws)
unfolding number_of
members_word n v w ws h =
    ap (λ (x : ℕ). members x v (number_of ws * 2 ^ 64 + w)) (let e : 64 * suc n ≡ 64 + 64 * n = omega arith in e)
    ∙ members_append 64 (64 * n) v (number_of ws * 2 ^ 64 + w)
    ∙ ap₂ (λ (x y : ℕ). members 64 v x ++ members (64 * n) (v + 64) y) (low (number_of ws) 64 h) (high (number_of ws) 64 h)

-- the variables of the words from i on are those of word i, then those of the words from i + 1 on
pub members_drop : (ws : List ℕ) (i : ℕ) → Words ws → i < length ws
    → members (64 * (length ws - i)) (64 * i) (number_of (drop i ws))
    ≡ members 64 (64 * i) (get_or ws i 0) ++ members (64 * (length ws - (i + 1))) (64 * (i + 1)) (number_of (drop (i + 1) ws))
members_drop ws i f h =
    ap₂ (λ (n : ℕ) (us : List ℕ). members (64 * n) (64 * i) (number_of us))
    (let e : length ws - i ≡ suc (length ws - (i + 1)) = omega arith in e) (drop-cons ws i 0 h)
    ∙ members_word (length ws - (i + 1)) (64 * i) (get_or ws i 0) (drop (suc i) ws) (f i).fits
    ∙ ap₂ (λ (v : ℕ) (us : List ℕ). members 64 (64 * i) (get_or ws i 0) ++ members (64 * (length ws - (i + 1))) v (number_of us))
    (let e : 64 * i + 64 ≡ 64 * (i + 1) = omega arith in e) (ap (λ (n : ℕ). drop n ws) (sym (add-one i)))

-- ---- the lowest variable
lowest_half : {n m u : ℕ} → Lowest (suc n) m (suc u) → Lowest n (m / 2) u
lowest_half {m} {u} l = record {
  inside = omega arith;
  here = sym (bit_suc m u) ∙ l.here;
  none = λ j h. sym (bit_suc m j) ∙ l.none (suc j) (omega arith);
}

-- a set is its lowest variable and the rest
pub members_lowest : {n m u : ℕ} (v r : ℕ) → Lowest n m u → r + 2 ^ u ≡ m → members n v m ≡ (v + u) ∷ members n v r
members_lowest {n = zero} v r l e = absurd (not-suc-le-zero l.inside)
members_lowest {n = suc n} {m = m} {u = zero} v r l e =
    let odd : m % 2 ≡ 1 = sym (bit_zero m) ∙ l.here in
    members_odd n v m odd
    ∙ ap₂ ◌∷◌ (sym (add-zero v)) (ap (members n (suc v)) (let d : m / 2 ≡ r / 2 = omega arith in d) ∙ sym (members_even n v r (omega arith)))
members_lowest {n = suc n} {m = m} {u = suc u} v r l e =
    let even : m % 2 ≡ 0 = sym (bit_zero m) ∙ l.none 0 (omega arith) in
    let p : 2 ^ suc u ≡ 2 ^ u * 2 = pow-suc 2 u in
    members_even n v m even
    ∙ members_lowest {n = n} (suc v) (r / 2) (lowest_half l) (omega arith)
    ∙ ap₂ ◌∷◌ (let d : suc v + u ≡ v + suc u = omega arith in d) (sym (members_even n v r (omega arith)))

-- m & (m - 1) is m without its lowest variable
pub and_lowest : {n m u : ℕ} → 0 < m → Lowest n m u → bit_and m (m - 1) + 2 ^ u ≡ m
and_lowest {n = zero} h l = absurd (not-suc-le-zero l.inside)
and_lowest {n = suc n} {m = m} {u = zero} h l =
    let odd : m % 2 ≡ 1 = sym (bit_zero m) ∙ l.here in
    let d : (m - 1) / 2 ≡ m / 2 = omega arith in
    omega (arith, and_step m (m - 1), ap (bit_and (m / 2)) d, and_self (m / 2))
and_lowest {n = suc n} {m = m} {u = suc u} h l =
    let even : m % 2 ≡ 0 = sym (bit_zero m) ∙ l.none 0 (omega arith) in
    let d : (m - 1) / 2 ≡ m / 2 - 1 = omega arith in
    omega (arith, and_step m (m - 1), ap (bit_and (m / 2)) d, and_lowest {n = n} (omega arith) (lowest_half l), pow-suc 2 u)

-- the zeros below the lowest variable are counted digit by digit
below : (n m d t : ℕ) → m % 2 ≡ d → (m % 2 ≡ 0 → Lowest n (m / 2) t) → Lowest (suc n) m (under d t)
below n m zero t e f =
    let l = f e in
    record {
      inside = omega arith;
      here = bit_suc m t ∙ l.here;
      none = up l.none;
    }
  where
    up : ((u : ℕ) → u < t → bit (m / 2) u ≡ 0) → (u : ℕ) → u < suc t → bit m u ≡ 0
    up g zero h = bit_zero m ∙ e
    up g (suc u) h = bit_suc m u ∙ g u (le_of_suc-le-suc h)
below n m (suc d) t e f = record {
  inside = omega arith;
  here = bit_zero m ∙ omega arith;
  none = λ u h. absurd (not-suc-le-zero h);
}

pub trailing_lowest : (n m : ℕ) → 0 < m → m < 2 ^ n → Lowest n m (count_trailing_zeros n m)
unfolding count_trailing_zeros
trailing_lowest zero m h b = absurd (let z : m < 1 = b in omega arith)
trailing_lowest (suc n) m h b =
    below n m (m % 2) (count_trailing_zeros n (m / 2)) refl (λ e. trailing_lowest n (m / 2) (omega arith) (half_lt n m b))
