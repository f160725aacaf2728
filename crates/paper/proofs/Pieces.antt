-- Digits read one by one, and a term and a polynomial taken apart. Assumes nothing.
use mathlib.Core.Path.{◌≡◌, refl, sym, ap, ap₂, ◌∙◌}
use mathlib.Core.Bool.{Bool, true, false, ◌&&◌, not, cond}
use mathlib.Core.List.{List, [], ◌∷◌}
use Prim.Native.Nat.{ℕ, ◌+◌, ◌-◌, ◌*◌, ◌≤◌, ◌<◌}
use Prim.Native.Char.{code}
use native.Mathlib.Numerals.{add-one}
use native.Mathlib.Omega.{arith}
use lib.Dec.{eqb, leb}
use lib.ListN.{length, drop, get_or, drop_of_length-le}
use lib.Seq.{drop-cons}
use borrow.Author.Tests.{leb-true, not-true, eqb-true, eqb-false, le-leb, lt-leb, eq-eqb, ne_eqb}
use Rattle.ground.proofs.Tests.{and_left, and_right}
use Rattle.paper.specs.Grammar.{Bytes, got, stuck, Reader, next, up_to, each, is_digit, digits, decimal, sign, term, as_written, polynomial}
use Rattle.paper.specs.Statement.{TermOf, WrittenTerm, Written}
use Rattle.paper.proofs.Reading.{clash, parted, in_field, takes_decimal, each_none}

-- ---- digits
pub digits_least : (v : ℕ) (s : Bytes) (n : ℕ) (r : Bytes) → digits v s ≡ got n r → v ≤ n
unfolding digits
digits_least v [] n r e = let q : v ≡ n = cc in omega arith
digits_least v (b ∷ s) n r e = go (is_digit b) e (digits_least (v * 10 + (b - code "0")) s n r)
  where
    go : (t : Bool) → cond t (digits (v * 10 + (b - code "0")) s) (got v (b ∷ s)) ≡ got n r
        → (digits (v * 10 + (b - code "0")) s ≡ got n r → v * 10 + (b - code "0") ≤ n) → v ≤ n
    go true e ih = let h = ih e in omega arith
    go false e ih = let q : v ≡ n = cc in omega arith

module _ (v : ℕ) (s : Bytes) (i : ℕ) where
  pub digits_more : i < length s → 48 ≤ get_or s i 0 → get_or s i 0 ≤ 57 → digits v (drop i s) ≡ digits (v * 10 + (get_or s i 0 - 48)) (drop (i + 1) s)
  unfolding digits is_digit
  digits_more h l u = rw (drop-cons s i 0 h, le-leb 48 (get_or s i 0) l, le-leb (get_or s i 0) 57 u, add-one i)

  pub digits_low : i < length s → get_or s i 0 < 48 → digits v (drop i s) ≡ got v (drop i s)
  unfolding digits is_digit
  digits_low h l = rw (drop-cons s i 0 h, lt-leb 48 (get_or s i 0) l)

  pub digits_high : i < length s → 57 < get_or s i 0 → digits v (drop i s) ≡ got v (drop i s)
  unfolding digits is_digit
  digits_high h u = rw (drop-cons s i 0 h, le-leb 48 (get_or s i 0) (omega arith), lt-leb (get_or s i 0) 57 u)

  pub digits_end_law : length s ≤ i → digits v (drop i s) ≡ got v (drop i s)
  unfolding digits
  digits_end_law h = rw (drop_of_length-le s h)

module _ (s : Bytes) (i : ℕ) where
  pub decimal_zero : i < length s → get_or s i 0 ≡ 48 → decimal (drop i s) ≡ got 0 (drop (i + 1) s)
  unfolding decimal
  decimal_zero h z = rw (drop-cons s i 0 h, eq-eqb (get_or s i 0) 48 z, add-one i)

  pub decimal_first : i < length s → 48 < get_or s i 0 → get_or s i 0 ≤ 57 → decimal (drop i s) ≡ digits (get_or s i 0 - 48) (drop (i + 1) s)
  unfolding decimal is_digit
  decimal_first h l u =
      rw (drop-cons s i 0 h, ne_eqb (get_or s i 0) 48 (λ q. omega arith), le-leb 48 (get_or s i 0) (omega arith), le-leb (get_or s i 0) 57 u, add-one i)

  pub decimal_low : i < length s → get_or s i 0 < 48 → decimal (drop i s) ≡ stuck (drop i s)
  unfolding decimal is_digit
  decimal_low h l = rw (drop-cons s i 0 h, ne_eqb (get_or s i 0) 48 (λ q. omega arith), lt-leb 48 (get_or s i 0) l)

  pub decimal_high : i < length s → 57 < get_or s i 0 → decimal (drop i s) ≡ stuck (drop i s)
  unfolding decimal is_digit
  decimal_high h u =
      rw (drop-cons s i 0 h, ne_eqb (get_or s i 0) 48 (λ q. omega arith), le-leb 48 (get_or s i 0) (omega arith), lt-leb (get_or s i 0) 57 u)

  pub decimal_end : length s ≤ i → decimal (drop i s) ≡ stuck (drop i s)
  unfolding decimal
  decimal_end h = rw (drop_of_length-le s h)

-- ---- a term and a polynomial, taken apart
pub record TermParts (s : Bytes) (t : WrittenTerm) (r : Bytes) : Type 0 where
  -- what the sign leaves, and what the magnitude leaves of that
  pub unsigned : Bytes
  pub plain : Bytes
  pub signed : sign s ≡ got t.negative unsigned
  pub sized : decimal unsigned ≡ got t.magnitude plain
  pub named : each (code ".") decimal plain ≡ got t.variables r

pub term_parts : (s : Bytes) (t : WrittenTerm) (r : Bytes) → term s ≡ got t r → TermParts s t r
unfolding term
term_parts s t r e =
    let p = parted (sign s) _ e in
    let q = parted (decimal p.rest) _ p.second in
    let w = parted (each (code ".") decimal q.rest) _ q.second in
    let x : record { negative = p.value; magnitude = q.value; variables = w.value } ≡ t = (let y = w.second in cc) in
    let z : w.rest ≡ r = (let y = w.second in cc) in
    record {
      unsigned = p.rest;
      plain = q.rest;
      signed = p.first ∙ ap (λ (u : WrittenTerm). got u.negative p.rest) x;
      sized = q.first ∙ ap (λ (u : WrittenTerm). got u.magnitude q.rest) x;
      named = w.first ∙ ap₂ (λ (u : WrittenTerm) (l : Bytes). got u.variables l) x z;
    }

pub record PolynomialParts (s : Bytes) (p : Written) (r : Bytes) : Type 0 where
  pub head : WrittenTerm
  pub tail : List WrittenTerm
  -- what the first term leaves
  pub behind : Bytes
  pub first : term s ≡ got head behind
  pub others : each (code " ") term behind ≡ got tail r
  pub whole : as_written head tail ≡ p

pub polynomial_parts : (s : Bytes) (p : Written) (r : Bytes) → polynomial s ≡ got p r → PolynomialParts s p r
unfolding polynomial
polynomial_parts s p r e =
    let t = parted (term s) _ e in
    let ts = parted (each (code " ") term t.rest) _ t.second in
    let x : as_written t.value ts.value ≡ p = (let y = ts.second in cc) in
    let z : ts.rest ≡ r = (let y = ts.second in cc) in
    record { head = t.value; tail = ts.value; behind = t.rest; first = t.first; others = ts.first ∙ ap (λ (l : Bytes). got ts.value l) z; whole = x }

-- ---- the term 0
pub each_empty : {A : Type 0} (c : ℕ) (item : Reader A) (s r : Bytes) → each c item s ≡ got [] r → s ≡ r
unfolding up_to
each_empty c item [] r e = cc
each_empty {A} c item (b ∷ s) r e = go (eqb b c) e
  where
    go : (t : Bool) → cond t (next (item s) (λ x r. next (up_to (length s) c item r) (λ xs r'. got (x ∷ xs) r'))) (got [] (b ∷ s)) ≡ got [] r → (b ∷ s) ≡ r
    go true e =
        let p = parted (item s) (λ x r. next (up_to (length s) c item r) (λ xs r'. got (x ∷ xs) r')) e in
        let q = parted (up_to (length s) c item p.rest) (λ xs r'. got (p.value ∷ xs) r') p.second in
        let w = q.second in
        let z : ◌≡◌ {A = ℕ} 0 1 = cc in
        absurd (let y : ⊥ = omega arith in y)
    go false e = cc

sign_none : (s r : Bytes) → sign s ≡ got false r → s ≡ r
unfolding sign
sign_none [] r e = cc
sign_none (b ∷ s) r e = go (eqb b (code "-")) e
  where
    go : (t : Bool) → cond t (got true s) (got false (b ∷ s)) ≡ got false r → (b ∷ s) ≡ r
    go true e = let z : ◌≡◌ {A = ℕ} 0 1 = cc in absurd (let y : ⊥ = omega arith in y)
    go false e = cc

decimal_of_zero : (s r : Bytes) → decimal s ≡ got 0 r → s ≡ code "0" ∷ r
unfolding decimal is_digit
decimal_of_zero [] r e = absurd (clash e)
decimal_of_zero (b ∷ s) r e = go (eqb b (code "0")) (leb (code "0") b && leb b (code "9")) refl refl e
  where
    go : (t u : Bool) → eqb b (code "0") ≡ t → (leb (code "0") b && leb b (code "9")) ≡ u
        → cond t (got 0 s) (cond u (digits (b - code "0") s) (stuck (b ∷ s))) ≡ got 0 r → (b ∷ s) ≡ code "0" ∷ r
    go true u d f e = let q : s ≡ r = cc in ap₂ ◌∷◌ (eqb-true b (code "0") d) q
    go false true d f e =
        let n : b ≡ 48 → ⊥ = eqb-false b 48 d in
        let l = leb-true 48 b (and_left (leb 48 b) (leb b 57) f) in
        absurd (let y : ⊥ = omega (arith, digits_least (b - 48) s 0 r e) in y)
    go false false d f e = absurd (clash e)

-- the term of the field `0`
abbrev pub is_zero : {A : Type 0} → TermOf A → Bool
is_zero t = not t.negative && eqb t.magnitude 0 && elim t.variables [ [] ↦ true | v ∷ vs ↦ false ]

is_empty : (vs : List ℕ) → elim vs [ [] ↦ true | v ∷ vs ↦ false ] ≡ true → vs ≡ []
is_empty [] e = refl
is_empty (v ∷ vs) e = let z : ◌≡◌ {A = ℕ} 0 1 = cc in absurd (let y : ⊥ = omega arith in y)

-- where the term is the zero polynomial, its one byte is 0
pub term_zero : (s : Bytes) (t : WrittenTerm) (r : Bytes) → term s ≡ got t r → is_zero t ≡ true → s ≡ code "0" ∷ r
term_zero s t r e z =
    let p = term_parts s t r e in
    let a = and_left (not t.negative && eqb t.magnitude 0) _ z in
    let n = not-true t.negative (and_left (not t.negative) (eqb t.magnitude 0) a) in
    let m = eqb-true t.magnitude 0 (and_right (not t.negative) (eqb t.magnitude 0) a) in
    let v = is_empty t.variables (and_right (not t.negative && eqb t.magnitude 0) _ z) in
    sign_none s p.unsigned (p.signed ∙ ap (λ (b : Bool). got b p.unsigned) n)
    ∙ decimal_of_zero p.unsigned p.plain (p.sized ∙ ap (λ (x : ℕ). got x p.plain) m)
    ∙ ap (λ (w : Bytes). code "0" ∷ w) (each_empty (code ".") decimal p.plain r (p.named ∙ ap (λ (l : List ℕ). got l r) v))

pub zero_term : (s : Bytes) (t : WrittenTerm) → term (code "0" ∷ s) ≡ got t s → is_zero t ≡ true
unfolding term sign decimal in_field
zero_term s t e =
    let p = parted (each (code ".") decimal s) _ e in
    let x : record { negative = false; magnitude = 0; variables = p.value } ≡ t = (let w = p.second in cc) in
    let r : p.rest ≡ s = (let w = p.second in cc) in
    let v = each_none (code ".") decimal takes_decimal refl s p.value (p.first ∙ ap (λ (w : Bytes). got p.value w) r) in
    ap is_zero (sym x) ∙ ap (λ (vs : List ℕ). is_zero (record { negative = false; magnitude = 0; variables = vs })) v
