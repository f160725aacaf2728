-- How long numbers and sets are when spelled, and that a reader takes as many bytes at least. Assumes nothing.
use mathlib.Core.Path.{◌≡◌, refl, sym, ap, ap₂, ◌∙◌, subst}
use mathlib.Core.Bool.{Bool, true, false, cond}
use mathlib.Core.Logic.{⊎_elim}
use mathlib.Core.List.{List, [], ◌∷◌}
use Prim.Native.Nat.{ℕ, zero, suc, ◌+◌, ◌-◌, ◌*◌, ◌/◌, ◌%◌, ◌^◌, ◌≤◌, ◌<◌}
use Prim.Native.Char.{code}
use native.Mathlib.Nat.{not-suc-le-zero, pow-suc, pow-le-pow_right, mul-le-mul_left, mul-le-mul_right, zero-add, add-zero, add-suc, suc-add}
use native.Mathlib.Omega.{arith}
use lib.Bits.{bit_or, or_step}
use lib.Dec.{eqb, leb, ltb}
use lib.ListN.{length, length-append}
use lib.Pow.{pow-add}
use borrow.Author.Tests.{ltb-true, ltb-false, leb-true}
use Rattle.ground.specs.Lists.{total}
use Rattle.ground.proofs.Tests.{split, by_cond, and_right}
use Rattle.limits.specs.Limits.{variables}
use Rattle.algebra.specs.Polynomial.{members}
use Rattle.words.proofs.Laws.{members_none}
use Rattle.paper.specs.Grammar.{Bytes, got, stuck, Reader, next, end, up_to, is_digit, digits, decimal, sign, term, as_written, polynomial}
use Rattle.paper.specs.Statement.{WrittenTerm, Written, set_of}
use Rattle.paper.specs.Spelling.{spell_number, whole_field}
use Rattle.paper.proofs.Numbers.{number_small, number_more, number_some, number_least, number_most}
use Rattle.paper.proofs.Reading.{clash, parted}
use Rattle.paper.proofs.Pieces.{is_zero, term_parts, polynomial_parts}

-- ---- numbers
abbrev pub digit_count : ℕ → ℕ
digit_count n = length (spell_number n)

number_below : (n : ℕ) → n < 10 ^ digit_count n
number_below n =
    ⊎_elim (λ l. ltb-true n (10 ^ digit_count n) l)
    (λ l. absurd (omega (arith, number_least (digit_count n) n (ltb-false n (10 ^ digit_count n) l))))
    (split (ltb n (10 ^ digit_count n)))

number_fits : (d n : ℕ) → 0 < d → n < 10 ^ d → digit_count n ≤ d
number_fits zero n h l = absurd (not-suc-le-zero h)
number_fits (suc d) n h l = number_most d n l

pub number_le : (m n : ℕ) → m ≤ n → digit_count m ≤ digit_count n
number_le m n h = number_fits (digit_count n) m (number_some n) (omega (arith, number_below n))

sum_le : (x y : ℕ) → 2 ≤ x → 2 ≤ y → x + y ≤ x * y
sum_le x y h l = omega (arith, mul-le-mul_right {m = 2} {n = x} y h, mul-le-mul_left {m = 2} {n = y} x l)

tens : (d : ℕ) → 0 < d → 10 ≤ 10 ^ d
tens d h = pow-le-pow_right {n = 10} (omega arith) {i = 1} {j = d} h

-- the digits of a sum are no more than those of its parts
pub number_sum : (n a b : ℕ) → n ≤ a + b → digit_count n ≤ digit_count a + digit_count b
number_sum n a b h =
    let p : 10 ^ (digit_count a + digit_count b) ≡ 10 ^ digit_count a * 10 ^ digit_count b = pow-add 10 (digit_count a) (digit_count b) in
    let x = tens (digit_count a) (number_some a) in
    let y = tens (digit_count b) (number_some b) in
    let z = sum_le (10 ^ digit_count a) (10 ^ digit_count b) (omega arith) (omega arith) in
    number_fits (digit_count a + digit_count b) n (omega (arith, number_some a)) (omega (arith, number_below a, number_below b))

-- one digit more
digit_lt : (b : ℕ) → is_digit b ≡ true → b - 48 < 10
unfolding is_digit
digit_lt b e = omega (arith, leb-true b 57 (and_right (leb 48 b) (leb b 57) e))

number_digit : (v x : ℕ) → x < 10 → digit_count (v * 10 + x) ≤ digit_count v + 1
number_digit v x h =
    ⊎_elim
    (λ l. omega (arith, ap length (number_small (v * 10 + x) (ltb-true (v * 10 + x) 10 l))))
    (λ l. let q : (v * 10 + x) / 10 ≡ v = omega arith in
    omega (arith, ap length (number_more (v * 10 + x) (ltb-false (v * 10 + x) 10 l)), length-append (spell_number ((v * 10 + x) / 10)) ((code "0" + (v * 10 + x) % 10) ∷ []), ap digit_count q))
    (split (ltb (v * 10 + x) 10))

-- ---- sets: each variable behind a dot
abbrev pub variable_length : ℕ → ℕ
variable_length v = suc (digit_count v)

-- the variables of m as `members` has them
abbrev pub set_length : ℕ → ℕ → ℕ → ℕ
set_length n v m = total variable_length (members n v m)

module _ (n v : ℕ) where
  set_none : (m : ℕ) → set_length 0 v m ≡ 0
  unfolding members total
  set_none m = refl

  -- the lowest digit, and those above it
  set_most : (m : ℕ) → set_length (suc n) v m ≤ variable_length v + set_length n (suc v) (m / 2)
  unfolding members total
  set_most m = by_cond (λ (l : List ℕ). total variable_length l ≤ variable_length v + set_length n (suc v) (m / 2)) (eqb (m % 2) 1) (λ e. omega arith) (λ e. omega arith)

  set_least : (m : ℕ) → set_length n (suc v) (m / 2) ≤ set_length (suc n) v m
  unfolding members total
  set_least m = by_cond (λ (l : List ℕ). set_length n (suc v) (m / 2) ≤ total variable_length l) (eqb (m % 2) 1) (λ e. omega arith) (λ e. omega arith)

  set_alike : (w a b : ℕ) → a % 2 ≡ b % 2 → set_length n (suc v) (a / 2) ≤ w + set_length n (suc v) (b / 2) → set_length (suc n) v a ≤ w + set_length (suc n) v b
  unfolding members total
  set_alike w a b e h = subst (λ (d : ℕ). total variable_length (cond (eqb d 1) (v ∷ above a) (above a)) ≤ w + set_length (suc n) v b) (sym e) (go (eqb (b % 2) 1))
    where
      above : ℕ → List ℕ
      above m = members n (suc v) (m / 2)

      go : (t : Bool) → total variable_length (cond t (v ∷ above a) (above a)) ≤ w + total variable_length (cond t (v ∷ above b) (above b))
      go true = omega arith
      go false = h

-- united with one variable more
set_or : (n v j m : ℕ) → set_length n v (bit_or (2 ^ j) m) ≤ variable_length (v + j) + set_length n v m
set_or zero v j m = omega (arith, set_none 0 v (bit_or (2 ^ j) m))
set_or (suc n) v zero m =
    let o : bit_or 1 m / 2 ≡ m / 2 = omega (arith, or_step 1 m) in
    omega (arith, set_most n v (bit_or 1 m), ap (set_length n (suc v)) o, set_least n v m, ap variable_length (add-zero v))
set_or (suc n) v (suc j) m =
    let p : 2 ^ suc j ≡ 2 ^ j * 2 = pow-suc 2 j in
    let s = or_step (2 ^ suc j) m in
    let h : 2 ^ suc j / 2 ≡ 2 ^ j = omega arith in
    let o : bit_or (2 ^ suc j) m / 2 ≡ bit_or (2 ^ j) (m / 2) = omega (arith, ap (λ (x : ℕ). bit_or x (m / 2)) h) in
    set_alike n v (variable_length (v + suc j)) (bit_or (2 ^ suc j) m) m (omega arith)
    (rw (o, add-suc v j, ← suc-add v j) (set_or n (suc v) j (m / 2)))

pub set_length_law : (vs : List ℕ) → set_length variables 0 (set_of vs) ≤ total variable_length vs
unfolding set_of total
set_length_law [] = omega (arith, ap (total variable_length) (members_none variables 0))
set_length_law (v ∷ vs) = omega (arith, set_or variables 0 v (set_of vs), ap variable_length (zero-add v), set_length_law vs)

-- ---- readers
digits_length : (v : ℕ) (s : Bytes) (n : ℕ) (r : Bytes) → digits v s ≡ got n r → digit_count n + length r ≤ length s + digit_count v
unfolding digits
digits_length v [] n r e = let q : v ≡ n = cc in let z : [] ≡ r = cc in omega (arith, ap digit_count q, ap length z)
digits_length v (b ∷ s) n r e = go (is_digit b) refl e (digits_length (v * 10 + (b - code "0")) s n r)
  where
    go : (t : Bool) → is_digit b ≡ t → cond t (digits (v * 10 + (b - code "0")) s) (got v (b ∷ s)) ≡ got n r
        → (digits (v * 10 + (b - code "0")) s ≡ got n r → digit_count n + length r ≤ length s + digit_count (v * 10 + (b - code "0")))
        → digit_count n + length r ≤ suc (length s) + digit_count v
    go true d e ih = let h = ih e in omega (arith, number_digit v (b - 48) (digit_lt b d))
    go false d e ih = let q : v ≡ n = cc in let z : (b ∷ s) ≡ r = cc in omega (arith, ap digit_count q, ap length z)

decimal_length : (s : Bytes) (n : ℕ) (r : Bytes) → decimal s ≡ got n r → digit_count n + length r ≤ length s
unfolding decimal
decimal_length [] n r e = absurd (clash e)
decimal_length (b ∷ s) n r e = go (eqb b (code "0")) (is_digit b) refl e
  where
    go : (t u : Bool) → is_digit b ≡ u → cond t (got 0 s) (cond u (digits (b - code "0") s) (stuck (b ∷ s))) ≡ got n r → digit_count n + length r ≤ suc (length s)
    go true u d e = let q : 0 ≡ n = cc in let z : s ≡ r = cc in omega (arith, ap digit_count q, ap length z, ap length (number_small 0 (omega arith)))
    go false true d e = omega (arith, digits_length (b - 48) s n r e, ap length (number_small (b - 48) (digit_lt b d)))
    go false false d e = absurd (clash e)

-- as many items as follow, each of which takes w bytes at least
module _ {A : Type 0} (c : ℕ) (item : Reader A) (w : A → ℕ) (takes : (s : Bytes) (x : A) (r : Bytes) → item s ≡ got x r → w x + length r ≤ length s) where
  up_to_length : (m : ℕ) (s : Bytes) (xs : List A) (r : Bytes) → up_to m c item s ≡ got xs r → total (λ x. suc (w x)) xs + length r ≤ length s
  unfolding up_to total
  up_to_length zero s xs r e = let q : [] ≡ xs = cc in let z : s ≡ r = cc in rw (← q, ← z) (omega arith)
  up_to_length (suc m) [] xs r e = let q : [] ≡ xs = cc in let z : [] ≡ r = cc in rw (← q, ← z) (omega arith)
  up_to_length (suc m) (b ∷ s) xs r e = go (eqb b c) e (up_to_length m)
    where
      go : (t : Bool) → cond t (next (item s) (λ x r. next (up_to m c item r) (λ xs r'. got (x ∷ xs) r'))) (got [] (b ∷ s)) ≡ got xs r
          → ((s : Bytes) (xs : List A) (r : Bytes) → up_to m c item s ≡ got xs r → total (λ x. suc (w x)) xs + length r ≤ length s)
          → total (λ x. suc (w x)) xs + length r ≤ suc (length s)
      go true e ih =
          let p = parted (item s) (λ x r. next (up_to m c item r) (λ xs r'. got (x ∷ xs) r')) e in
          let q = parted (up_to m c item p.rest) (λ xs r'. got (p.value ∷ xs) r') p.second in
          let y : (p.value ∷ q.value) ≡ xs = (let u = q.second in cc) in
          let z : q.rest ≡ r = (let u = q.second in cc) in
          omega (arith, takes s p.value p.rest p.first, ih p.rest q.value q.rest q.first, ap (total (λ x. suc (w x))) y, ap length z)
      go false e ih = let q : [] ≡ xs = cc in let z : (b ∷ s) ≡ r = cc in rw (← q, ← z) (omega arith)

sign_length : (s : Bytes) (n : Bool) (r : Bytes) → sign s ≡ got n r → length r ≤ length s
unfolding sign
sign_length [] n r e = let z : [] ≡ r = cc in omega (arith, ap length z)
sign_length (b ∷ s) n r e = go (eqb b (code "-")) e
  where
    go : (t : Bool) → cond t (got true s) (got false (b ∷ s)) ≡ got n r → length r ≤ suc (length s)
    go true e = let z : s ≡ r = cc in omega (arith, ap length z)
    go false e = let z : (b ∷ s) ≡ r = cc in omega (arith, ap length z)

-- a written term without its sign
abbrev pub term_length : WrittenTerm → ℕ
term_length t = digit_count t.magnitude + total variable_length t.variables

term_length_law : (s : Bytes) (t : WrittenTerm) (r : Bytes) → term s ≡ got t r → term_length t + length r ≤ length s
term_length_law s t r e =
    let p = term_parts s t r e in
    omega (
      arith,
      sign_length s t.negative p.unsigned p.signed,
      decimal_length p.unsigned t.magnitude p.plain p.sized,
      up_to_length (code ".") decimal digit_count decimal_length (length p.plain) p.plain t.variables r p.named,
    )

-- the field `0` aside, what is written is what was read
written_length : (f : WrittenTerm → ℕ) (t : WrittenTerm) (ts : List WrittenTerm) → total f (as_written t ts) ≤ f t + total f ts
unfolding as_written total
written_length f t [] = by_cond (λ (p : Written). total f p ≤ f t + 0) (is_zero t) (λ e. omega arith) (λ e. omega arith)
written_length f t (u ∷ ts) = omega arith

pub whole_polynomial : (s : Bytes) (f : Written) (r : Bytes) → whole_field s ≡ got f r → (polynomial s ≡ got f []) × (r ≡ [])
unfolding whole_field end
whole_polynomial s f r e =
    let p = parted (polynomial s) _ e in
    let q = parted (end p.rest) _ p.second in
    let y : p.value ≡ f = (let u = q.second in cc) in
    let z : q.rest ≡ r = (let u = q.second in cc) in
    let n = ended p.rest q.first in
    (p.first ∙ ap₂ (λ (g : Written) (t : Bytes). got g t) y n.0, sym z ∙ n.1)
  where
    ended : (t : Bytes) {u : Unit {0}} {r : Bytes} → end t ≡ got u r → (t ≡ []) × (r ≡ [])
    ended [] {r = r} e = (refl, (let z : [] ≡ r = cc in sym z))
    ended (b ∷ t) e = absurd (clash e)

pub field_length : (s : Bytes) (f : Written) → whole_field s ≡ got f [] → (total (λ t. suc (term_length t)) f ≤ suc (length s)) × (0 < length s)
field_length s f e =
    let p = polynomial_parts s f [] (whole_polynomial s f [] e).0 in
    let h = term_length_law s p.head p.behind p.first in
    let l = up_to_length (code " ") term term_length term_length_law (length p.behind) p.behind p.tail [] p.others in
    let w = written_length (λ t. suc (term_length t)) p.head p.tail in
    (omega (arith, ap (total (λ t. suc (term_length t))) p.whole), omega (arith, number_some p.head.magnitude))
