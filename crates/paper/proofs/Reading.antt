-- Readers: one after the other, what they take of their bytes, and that a bound past the bytes left changes nothing.
-- Assumes nothing.
use mathlib.Core.Path.{◌≡◌, refl, sym, ap, ap₂, ◌∙◌}
use mathlib.Core.Bool.{Bool, true, false, not, cond}
use mathlib.Core.List.{List, [], ◌∷◌}
use Prim.Native.Nat.{ℕ, zero, suc, ◌+◌, ◌-◌, ◌*◌, ◌≤◌, ◌<◌}
use Prim.Native.Char.{code}
use native.Mathlib.Nat.{not-suc-le-zero}
use native.Mathlib.Numerals.{add-one}
use native.Mathlib.Omega.{arith}
use lib.Dec.{eqb, leb}
use lib.ListN.{length, take, drop, get_or, length-drop, drop_of_length-le}
use lib.Seq.{drop-cons, drop-drop, take-add}
use borrow.Author.Tests.{leb-true, eqb-true, eq-eqb, ne_eqb}
use Rattle.ground.proofs.Lists.{every_append}
use Rattle.ground.specs.Lists.{every}
use Rattle.ground.proofs.Tests.{and_left, and_both}
use Rattle.paper.specs.Grammar.{Bytes, bytes, Read, got, stuck, Reader, next, give, literal, up_to, each, is_digit, digits, decimal, sign, term, polynomial, tab, field, pair}

pub clash : {A : Type 0} {x : A} {s t : Bytes} → stuck s ≡ got x t → ⊥
clash e = let z : ◌≡◌ {A = ℕ} 0 1 = cc in omega arith

-- ---- one reader after the other
pub next_give : {A : Type 0} (r : Read A) → r ≡ next r (λ x s. got x s)
next_give (got x s) = refl
next_give (stuck s) = refl

module _ {A B : Type 0} where
  pub next_assoc : {C : Type 0} (r : Read A) (f : A → Reader B) (g : B → Reader C) → next (next r f) g ≡ next r (λ x s. next (f x s) g)
  next_assoc (got x s) f g = refl
  next_assoc (stuck s) f g = refl

  pub next_got : {r : Read A} (f : A → Reader B) {x : A} {s : Bytes} {y : B} {t : Bytes} → r ≡ got x s → f x s ≡ got y t → next r f ≡ got y t
  next_got f e d = ap (λ (q : Read A). next q f) e ∙ d

  -- what two readers in a row read, taken apart
  pub record Parted (r : Read A) (f : A → Reader B) (y : B) (t : Bytes) : Type 0 where
    pub value : A
    pub rest : Bytes
    pub first : r ≡ got value rest
    pub second : f value rest ≡ got y t

  pub parted : (r : Read A) (f : A → Reader B) {y : B} {t : Bytes} → next r f ≡ got y t → Parted r f y t
  parted (got x s) f e = record { value = x; rest = s; first = refl; second = e }
  parted (stuck s) f e = absurd (clash e)

-- ---- what a reader takes
-- r is what s leaves after n bytes or more, all of which are allowed
pub record After (allowed : ℕ → Bool) (n : ℕ) (s r : Bytes) : Type 0 where
  pub taken : ℕ
  pub least : n ≤ taken
  pub inside : taken ≤ length s
  pub rest : r ≡ drop taken s
  pub clear : every allowed (take taken s) ≡ true

abbrev pub Takes : {A : Type 0} → (ℕ → Bool) → ℕ → Reader A → Type 0
Takes {A} allowed n read = (s : Bytes) (x : A) (r : Bytes) → read s ≡ got x r → After allowed n s r

module _ {allowed : ℕ → Bool} where
  pub after_none : (s : Bytes) → After allowed 0 s s
  unfolding every
  after_none s = record { taken = 0; least = omega arith; inside = omega arith; rest = refl; clear = refl }

  pub after_more : {n : ℕ} {b : ℕ} {s r : Bytes} → allowed b ≡ true → After allowed n s r → After allowed (suc n) (b ∷ s) r
  unfolding every
  after_more {n} {b} {s} ok a =
      let l = a.least in
      let i = a.inside in
      record {
        taken = suc a.taken;
        least = omega arith;
        inside = omega arith;
        rest = a.rest;
        clear = and_both (allowed b) (every allowed (take a.taken s)) ok a.clear;
      }

  after_then : {m n : ℕ} {s r t : Bytes} → After allowed m s r → After allowed n r t → After allowed (m + n) s t
  after_then {m} {n} {s} {r} {t} a b =
      let l = a.least in
      let k = b.least in
      let i = a.inside in
      let e : r ≡ drop a.taken s = a.rest in
      let j : b.taken ≤ length (drop a.taken s) = rw (← e) b.inside in
      let c : every allowed (take b.taken (drop a.taken s)) ≡ true = rw (← e) b.clear in
      record {
        taken = a.taken + b.taken;
        least = omega arith;
        inside = omega (arith, length-drop a.taken s);
        rest = b.rest ∙ ap (drop b.taken) e ∙ drop-drop b.taken a.taken s;
        clear =
            rw (take-add a.taken b.taken s, every_append allowed (take a.taken s) (take b.taken (drop a.taken s)))
            (and_both (every allowed (take a.taken s)) (every allowed (take b.taken (drop a.taken s))) a.clear c);
      }

  pub after_least : {m n : ℕ} {s r : Bytes} → m ≤ n → After allowed n s r → After allowed m s r
  after_least h a =
      let l = a.least in
      record { taken = a.taken; least = omega arith; inside = a.inside; rest = a.rest; clear = a.clear }

  pub after_length : {n : ℕ} {s r : Bytes} → After allowed n s r → length r + n ≤ length s
  after_length {n} {s} {r} a =
      let l = a.least in
      let i = a.inside in
      omega (arith, ap length a.rest, length-drop a.taken s)

  module _ {A B : Type 0} where
    pub takes_then : {m n : ℕ} (read : Reader A) (f : A → Reader B) → Takes allowed m read → ((x : A) → Takes allowed n (f x)) → Takes allowed (m + n) (λ s. next (read s) f)
    takes_then read f a b s y t e =
        let p = parted (read s) f e in
        after_then (a s p.value p.rest p.first) (b p.value p.rest y t p.second)

  pub takes_give : {A : Type 0} (x : A) → Takes allowed 0 (give x)
  takes_give x s y r e = let q : s ≡ r = cc in rw q (after_none r)

  takes_up_to : {A : Type 0} {n : ℕ} (m c : ℕ) (item : Reader A) → allowed c ≡ true → Takes allowed n item → Takes allowed 0 (up_to m c item)
  unfolding up_to
  takes_up_to zero c item ok a s xs r e = let q : s ≡ r = cc in rw q (after_none r)
  takes_up_to (suc m) c item ok a [] xs r e = let q : [] ≡ r = cc in rw (← q) (after_none [])
  takes_up_to {A} (suc m) c item ok a (b ∷ s) xs r e = go (eqb b c) refl e (takes_up_to m c item ok a)
    where
      go : (t : Bool) → eqb b c ≡ t
          → cond t (next (item s) (λ x r. next (up_to m c item r) (λ xs r'. got (x ∷ xs) r'))) (got [] (b ∷ s)) ≡ got xs r
          → Takes allowed 0 (up_to m c item) → After allowed 0 (b ∷ s) r
      go true d e ih =
          let p = parted (item s) (λ x r. next (up_to m c item r) (λ xs r'. got (x ∷ xs) r')) e in
          let q = parted (up_to m c item p.rest) (λ xs r'. got (p.value ∷ xs) r') p.second in
          let z : q.rest ≡ r = (let w = q.second in cc) in
          let here : allowed b ≡ true = ap allowed (eqb-true b c d) ∙ ok in
          after_least (omega arith)
          (after_more here
          (after_then (a s p.value p.rest p.first) (rw z at (ih p.rest q.value q.rest q.first))))
      go false d e ih = let q : (b ∷ s) ≡ r = cc in rw (← q) (after_none (b ∷ s))

-- any byte
abbrev pub byte : ℕ → Bool
byte b = true

pub every_true : {A : Type 0} (xs : List A) → every (λ x. true) xs ≡ true
unfolding every
every_true [] = refl
every_true (x ∷ xs) = every_true xs

pub takes_bytes : {A : Type 0} {allowed : ℕ → Bool} {n : ℕ} (read : Reader A) → Takes allowed n read → Takes byte n read
takes_bytes read a s x r e =
    let t = a s x r e in
    record { taken = t.taken; least = t.least; inside = t.inside; rest = t.rest; clear = every_true (take t.taken s) }

-- any but a tab
unfoldable pub in_field : ℕ → Bool
in_field b = not (eqb b (code "\t"))

digit_in_field : (b : ℕ) → is_digit b ≡ true → in_field b ≡ true
unfolding is_digit in_field
digit_in_field b e =
    let l = leb-true 48 b (and_left (leb 48 b) (leb b 57) e) in
    rw (ne_eqb b 9 (λ q. omega arith))

pub takes_digits : (n : ℕ) → Takes in_field 0 (digits n)
unfolding digits
takes_digits n [] x r e = let q : [] ≡ r = cc in rw (← q) (after_none [])
takes_digits n (b ∷ s) x r e = go (is_digit b) refl e (takes_digits (n * 10 + (b - code "0")) s)
  where
    go : (t : Bool) → is_digit b ≡ t → cond t (digits (n * 10 + (b - code "0")) s) (got n (b ∷ s)) ≡ got x r
        → ((x : ℕ) (r : Bytes) → digits (n * 10 + (b - code "0")) s ≡ got x r → After in_field 0 s r) → After in_field 0 (b ∷ s) r
    go true d e ih = after_least (omega arith) (after_more (digit_in_field b d) (ih x r e))
    go false d e ih = let q : (b ∷ s) ≡ r = cc in rw (← q) (after_none (b ∷ s))

pub takes_decimal : Takes in_field 1 decimal
unfolding decimal in_field
takes_decimal [] x r e = absurd (clash e)
takes_decimal (b ∷ s) x r e = go (eqb b (code "0")) (is_digit b) refl refl e
  where
    go : (t u : Bool) → eqb b (code "0") ≡ t → is_digit b ≡ u → cond t (got 0 s) (cond u (digits (b - code "0") s) (stuck (b ∷ s))) ≡ got x r → After in_field 1 (b ∷ s) r
    go true u d f e = let q : s ≡ r = cc in rw (← q) (after_more (rw (eqb-true b (code "0") d)) (after_none s))
    go false true d f e = after_more (digit_in_field b f) (takes_digits (b - code "0") s x r e)
    go false false d f e = absurd (clash e)

takes_sign : Takes in_field 0 sign
unfolding sign in_field
takes_sign [] x r e = let q : [] ≡ r = cc in rw (← q) (after_none [])
takes_sign (b ∷ s) x r e = go (eqb b (code "-")) refl e
  where
    go : (t : Bool) → eqb b (code "-") ≡ t → cond t (got true s) (got false (b ∷ s)) ≡ got x r → After in_field 0 (b ∷ s) r
    go true d e = let q : s ≡ r = cc in rw (← q) (after_least (omega arith) (after_more (rw (eqb-true b (code "-") d)) (after_none s)))
    go false d e = let q : (b ∷ s) ≡ r = cc in rw (← q) (after_none (b ∷ s))

pub takes_each : {A : Type 0} {allowed : ℕ → Bool} {n : ℕ} (c : ℕ) (item : Reader A) → allowed c ≡ true → Takes allowed n item → Takes allowed 0 (each c item)
takes_each c item ok a s = takes_up_to (length s) c item ok a s

pub takes_term : Takes in_field 1 term
unfolding term in_field
takes_term = takes_then sign _ takes_sign (λ n. takes_then decimal _ takes_decimal (λ m. takes_then (each (code ".") decimal) _ (takes_each (code ".") decimal refl takes_decimal) (λ vs. takes_give _)))

pub takes_polynomial : Takes in_field 1 polynomial
unfolding polynomial in_field
takes_polynomial = takes_then term _ takes_term (λ t. takes_then (each (code " ") term) _ (takes_each (code " ") term refl takes_term) (λ ts. takes_give _))

-- ---- keywords, tabs and what stands behind them
pub literal_inside : (w s : Bytes) (x : Unit {0}) (r : Bytes) → literal w s ≡ got x r → (length w ≤ length s) × (r ≡ drop (length w) s) × (take (length w) s ≡ w)
unfolding literal
literal_inside [] s x r e = (omega arith, (let q : s ≡ r = cc in sym q), refl)
literal_inside (c ∷ w) [] x r e = absurd (clash e)
literal_inside (c ∷ w) (b ∷ s) x r e = go (eqb b c) refl e (literal_inside w s x r)
  where
    go : (t : Bool) → eqb b c ≡ t → cond t (literal w s) (stuck (b ∷ s)) ≡ got x r
        → (literal w s ≡ got x r → (length w ≤ length s) × (r ≡ drop (length w) s) × (take (length w) s ≡ w))
        → (suc (length w) ≤ suc (length s)) × (r ≡ drop (length w) s) × ((b ∷ take (length w) s) ≡ (c ∷ w))
    go true d e ih = let h = ih e in (omega arith, h.1, ap₂ ◌∷◌ (eqb-true b c d) h.2)
    go false d e ih = absurd (clash e)

pub takes_literal : (w : Bytes) → Takes byte (length w) (literal w)
takes_literal w s x r e =
    let h = literal_inside w s x r e in
    record { taken = length w; least = omega arith; inside = h.0; rest = h.1; clear = every_true (take (length w) s) }

takes_tab : Takes byte 1 tab
unfolding tab bytes
takes_tab = takes_literal (bytes "\t")

takes_field : Takes byte 2 field
unfolding field
takes_field = takes_then tab _ takes_tab (λ u. takes_bytes polynomial takes_polynomial)

pub takes_pair : Takes byte 3 pair
unfolding pair
takes_pair = takes_then decimal _ (takes_bytes decimal takes_decimal) (λ i. takes_then field _ takes_field (λ f. takes_give _))

-- ---- as many items as follow
module _ {A : Type 0} {allowed : ℕ → Bool} {n : ℕ} (c : ℕ) (item : Reader A) (takes : Takes allowed n item) where
  -- a bound past the bytes left changes nothing
  up_to_enough : (m k : ℕ) (s : Bytes) → length s ≤ m → length s ≤ k → up_to m c item s ≡ up_to k c item s
  unfolding up_to
  up_to_enough zero zero s h l = refl
  up_to_enough zero (suc k) [] h l = refl
  up_to_enough zero (suc k) (b ∷ s) h l = absurd (not-suc-le-zero h)
  up_to_enough (suc m) zero [] h l = refl
  up_to_enough (suc m) zero (b ∷ s) h l = absurd (not-suc-le-zero l)
  up_to_enough (suc m) (suc k) [] h l = refl
  up_to_enough (suc m) (suc k) (b ∷ s) h l =
      ap (λ (r : Read (List A)). cond (eqb b c) r (got [] (b ∷ s))) (go (item s) refl (λ r p. up_to_enough m k r (omega arith) (omega arith)))
    where
      go : (r : Read A) → item s ≡ r → ((r : Bytes) → length r ≤ length s → up_to m c item r ≡ up_to k c item r)
          → next r (λ x r. next (up_to m c item r) (λ xs r'. got (x ∷ xs) r')) ≡ next r (λ x r. next (up_to k c item r) (λ xs r'. got (x ∷ xs) r'))
      go (got x r) e ih =
          let a = takes s x r e in
          let p : length r ≤ length s = omega (arith, after_length a) in
          ap (λ (q : Read (List A)). next q (λ xs r'. got (x ∷ xs) r')) (ih r p)
      go (stuck r) e ih = refl

  -- nothing taken is no item
  pub each_none : allowed c ≡ true → (s : Bytes) (xs : List A) → each c item s ≡ got xs s → xs ≡ []
  unfolding up_to
  each_none ok [] xs e = let q : [] ≡ xs = cc in sym q
  each_none ok (b ∷ s) xs e = go (eqb b c) e
    where
      go : (t : Bool) → cond t (next (item s) (λ x r. next (up_to (length s) c item r) (λ xs r'. got (x ∷ xs) r'))) (got [] (b ∷ s)) ≡ got xs (b ∷ s) → xs ≡ []
      go true e =
          let p = parted (item s) (λ x r. next (up_to (length s) c item r) (λ xs r'. got (x ∷ xs) r')) e in
          let q = parted (up_to (length s) c item p.rest) (λ xs r'. got (p.value ∷ xs) r') p.second in
          let z : q.rest ≡ b ∷ s = (let w = q.second in cc) in
          let a = takes s p.value p.rest p.first in
          let d = takes_up_to (length s) c item ok takes p.rest q.value q.rest q.first in
          absurd (let y : ⊥ = omega (arith, ap length z, after_length a, after_length d) in y)
      go false e = let q : [] ≡ xs = cc in sym q

  module _ (s : Bytes) (i : ℕ) where
    pub each_more : i < length s → get_or s i 0 ≡ c → (x : A) (r : Bytes) → item (drop (i + 1) s) ≡ got x r
        → each c item (drop i s) ≡ next (each c item r) (λ xs t. got (x ∷ xs) t)
    unfolding up_to
    each_more h b x r e =
        let a = takes (drop (i + 1) s) x r e in
        let p : length r ≤ length (drop (suc i) s) = rw (← add-one i) (omega (arith, after_length a)) in
        let f : item (drop (suc i) s) ≡ got x r = rw (← add-one i) e in
        rw (drop-cons s i 0 h, eq-eqb (get_or s i 0) c b, f, up_to_enough (length (drop (suc i) s)) (length r) r p (omega arith))

module _ {A : Type 0} (c : ℕ) (item : Reader A) (s : Bytes) (i : ℕ) where
  pub each_stuck : i < length s → get_or s i 0 ≡ c → (r : Bytes) → item (drop (i + 1) s) ≡ stuck r → each c item (drop i s) ≡ stuck r
  unfolding up_to
  each_stuck h b r e =
      let f : item (drop (suc i) s) ≡ stuck r = rw (← add-one i) e in
      rw (drop-cons s i 0 h, eq-eqb (get_or s i 0) c b, f)

  pub each_stop : i < length s → (get_or s i 0 ≡ c → ⊥) → each c item (drop i s) ≡ got [] (drop i s)
  unfolding up_to
  each_stop h b = rw (drop-cons s i 0 h, ne_eqb (get_or s i 0) c b)

  pub each_end : length s ≤ i → each c item (drop i s) ≡ got [] (drop i s)
  unfolding up_to
  each_end h = rw (drop_of_length-le s h)
