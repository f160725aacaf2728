-- Readers of published texts: white space, names and monomials byte by byte, what they take, and that a bound past the bytes left changes nothing.
-- Assumes nothing.
use mathlib.Core.Path.{◌≡◌, refl, sym, ap, ◌∙◌}
use mathlib.Core.Bool.{Bool, true, false, ◌||◌, cond}
use mathlib.Core.List.{List, [], ◌∷◌}
use Prim.Native.Nat.{ℕ, zero, suc, ◌+◌, ◌-◌, ◌*◌, ◌≤◌, ◌<◌}
use Prim.Native.Char.{code}
use native.Mathlib.Nat.{not-suc-le-zero}
use native.Mathlib.Numerals.{add-one}
use native.Mathlib.Omega.{arith}
use lib.Dec.{eqb}
use lib.ListN.{length, drop, get_or, drop_of_length-le}
use lib.Seq.{drop-cons}
use Rattle.paper.specs.Grammar.{Bytes, Read, got, stuck, Reader, next, ◌>>=◌, ◌>>◌, give, is_digit, digits, literal}
use Rattle.paper.specs.Statement.{TermOf}
use Rattle.paper.specs.Published.{Name, is_space, is_letter, spaces, token, symbol, constant, name_rest, name, more_names, monomial, minus, up_to_monomials, more_monomials, poly, one, factor, summand}
use Rattle.paper.proofs.Reading.{clash, parted, Takes, After, byte, after_none, after_more, after_least, after_length, takes_then, takes_give, takes_bytes, takes_digits, takes_each, takes_literal}

-- ---- byte by byte
module _ (s : Bytes) (i : ℕ) where
  pub spaces_more : i < length s → is_space (get_or s i 0) ≡ true → spaces (drop i s) ≡ spaces (drop (i + 1) s)
  unfolding spaces
  spaces_more h e = rw (drop-cons s i 0 h, e, add-one i)

  pub spaces_stop : i < length s → is_space (get_or s i 0) ≡ false → spaces (drop i s) ≡ got tt (drop i s)
  unfolding spaces
  spaces_stop h e = rw (drop-cons s i 0 h, e)

  pub spaces_end : length s ≤ i → spaces (drop i s) ≡ got tt (drop i s)
  unfolding spaces
  spaces_end h = rw (drop_of_length-le s h)

  pub rest_more : i < length s → (is_letter (get_or s i 0) || is_digit (get_or s i 0)) ≡ true → name_rest (drop i s) ≡ next (name_rest (drop (i + 1) s)) (λ n r. got (get_or s i 0 ∷ n) r)
  unfolding name_rest
  rest_more h e = rw (drop-cons s i 0 h, e, add-one i)

  pub rest_stop : i < length s → (is_letter (get_or s i 0) || is_digit (get_or s i 0)) ≡ false → name_rest (drop i s) ≡ got [] (drop i s)
  unfolding name_rest
  rest_stop h e = rw (drop-cons s i 0 h, e)

  pub rest_end : length s ≤ i → name_rest (drop i s) ≡ got [] (drop i s)
  unfolding name_rest
  rest_end h = rw (drop_of_length-le s h)

  pub name_first : i < length s → is_letter (get_or s i 0) ≡ true → name (drop i s) ≡ next (name_rest (drop (i + 1) s)) (λ n. token (give (get_or s i 0 ∷ n)))
  unfolding name
  name_first h e = rw (drop-cons s i 0 h, e, add-one i)

  pub name_not : i < length s → is_letter (get_or s i 0) ≡ false → name (drop i s) ≡ stuck (drop i s)
  unfolding name
  name_not h e = rw (drop-cons s i 0 h, e)

  pub name_end : length s ≤ i → name (drop i s) ≡ stuck (drop i s)
  unfolding name
  name_end h = rw (drop_of_length-le s h)

-- ---- a constant that begins is read
spaces_read : (s r : Bytes) → spaces s ≡ stuck r → ⊥
unfolding spaces
spaces_read [] r e = clash (sym e)
spaces_read (b ∷ s) r e = go (is_space b) e (spaces_read s r)
  where
    go : (t : Bool) → cond t (spaces s) (got tt (b ∷ s)) ≡ stuck r → (spaces s ≡ stuck r → ⊥) → ⊥
    go true e ih = ih e
    go false e ih = clash (sym e)

digits_read : (v : ℕ) (s r : Bytes) → digits v s ≡ stuck r → ⊥
unfolding digits
digits_read v [] r e = clash (sym e)
digits_read v (b ∷ s) r e = go (is_digit b) e (digits_read (v * 10 + (b - code "0")) s r)
  where
    go : (t : Bool) → cond t (digits (v * 10 + (b - code "0")) s) (got v (b ∷ s)) ≡ stuck r → (digits (v * 10 + (b - code "0")) s ≡ stuck r → ⊥) → ⊥
    go true e ih = ih e
    go false e ih = clash (sym e)

token_read : (d : Read ℕ) (r : Bytes) → next d (λ v t. next (spaces t) (λ _ u. got v u)) ≡ stuck r → (t : Bytes) × (d ≡ stuck t)
token_read (got v t) r e = go (spaces t) refl e
  where
    go : (p : Read (Unit {0})) → spaces t ≡ p → next p (λ _ u. got v u) ≡ stuck r → (u : Bytes) × (got v t ≡ stuck u)
    go (got x u) q e = absurd (clash (sym e))
    go (stuck u) q e = absurd (spaces_read t u q)
token_read (stuck t) r e = (t, refl)

pub constant_read : (s : Bytes) (i : ℕ) (r : Bytes) → i < length s → is_digit (get_or s i 0) ≡ true → constant (drop i s) ≡ stuck r → ⊥
unfolding constant
constant_read s i r h d e =
    let f : token (digits (get_or s i 0 - code "0")) (drop (suc i) s) ≡ stuck r = sym (rw (drop-cons s i 0 h, d)) ∙ e in
    let t = token_read (digits (get_or s i 0 - code "0") (drop (suc i) s)) r f in
    digits_read (get_or s i 0 - code "0") (drop (suc i) s) t.0 t.1

-- ---- what they take
takes_spaces : Takes byte 0 spaces
unfolding spaces
takes_spaces [] x r e = let q : [] ≡ r = cc in rw (← q) (after_none [])
takes_spaces (b ∷ s) x r e = go (is_space b) e (takes_spaces s)
  where
    go : (t : Bool) → cond t (spaces s) (got tt (b ∷ s)) ≡ got x r → ((x : Unit {0}) (r : Bytes) → spaces s ≡ got x r → After byte 0 s r) → After byte 0 (b ∷ s) r
    go true e ih = after_least (omega arith) (after_more refl (ih x r e))
    go false e ih = let q : (b ∷ s) ≡ r = cc in rw (← q) (after_none (b ∷ s))

takes_token : {A : Type 0} {n : ℕ} (read : Reader A) → Takes byte n read → Takes byte (n + 0) (token read)
takes_token read t = takes_then read _ t (λ x. takes_then spaces _ takes_spaces (λ _. takes_give x))

takes_rest : Takes byte 0 name_rest
unfolding name_rest
takes_rest [] x r e = let q : [] ≡ r = cc in rw (← q) (after_none [])
takes_rest (b ∷ s) x r e = go (is_letter b || is_digit b) e (takes_rest s)
  where
    go : (t : Bool) → cond t (next (name_rest s) (λ n r. got (b ∷ n) r)) (got [] (b ∷ s)) ≡ got x r → ((x : Name) (r : Bytes) → name_rest s ≡ got x r → After byte 0 s r)
        → After byte 0 (b ∷ s) r
    go true e ih =
        let p = parted (name_rest s) (λ n r. got (b ∷ n) r) e in
        let z : p.rest ≡ r = (let w = p.second in cc) in
        rw (← z) (after_least (omega arith) (after_more refl (ih p.value p.rest p.first)))
    go false e ih = let q : (b ∷ s) ≡ r = cc in rw (← q) (after_none (b ∷ s))

takes_name : Takes byte 1 name
unfolding name
takes_name [] x r e = absurd (clash e)
takes_name (b ∷ s) x r e = go (is_letter b) e
  where
    go : (t : Bool) → cond t (next (name_rest s) (λ n. token (give (b ∷ n)))) (stuck (b ∷ s)) ≡ got x r → After byte 1 (b ∷ s) r
    go true e = after_more refl (takes_then name_rest _ takes_rest (λ n. takes_token (give (b ∷ n)) (takes_give (b ∷ n))) s x r e)
    go false e = absurd (clash e)

-- a name behind a *
pub takes_factor : Takes byte 1 (do spaces; name)
takes_factor = takes_then spaces _ takes_spaces (λ _. takes_name)

takes_constant : Takes byte 1 constant
unfolding constant
takes_constant [] x r e = absurd (clash e)
takes_constant (b ∷ s) x r e = go (is_digit b) e
  where
    go : (t : Bool) → cond t (token (digits (b - code "0")) s) (stuck (b ∷ s)) ≡ got x r → After byte 1 (b ∷ s) r
    go true e = after_more refl (takes_token (digits (b - code "0")) (takes_bytes (digits (b - code "0")) (takes_digits (b - code "0"))) s x r e)
    go false e = absurd (clash e)

takes_more : Takes byte 0 more_names
takes_more = takes_each (code "*") (do spaces; name) refl takes_factor

-- ---- monomials
module _ (minus : Bool) (s : Bytes) (i : ℕ) where
  pub monomial_constant : i < length s → is_digit (get_or s i 0) ≡ true
      → monomial minus (drop i s) ≡ (do m ← constant; ns ← more_names; give (record { negative = minus; magnitude = m; variables = ns })) (drop i s)
  unfolding monomial
  monomial_constant h e = rw (drop-cons s i 0 h, e)

  pub monomial_name : i < length s → is_digit (get_or s i 0) ≡ false
      → monomial minus (drop i s) ≡ (do n ← name; ns ← more_names; give (record { negative = minus; magnitude = 1; variables = n ∷ ns })) (drop i s)
  unfolding monomial
  monomial_name h e = rw (drop-cons s i 0 h, e)

  pub monomial_end : length s ≤ i
      → monomial minus (drop i s) ≡ (do n ← name; ns ← more_names; give (record { negative = minus; magnitude = 1; variables = n ∷ ns })) (drop i s)
  unfolding monomial name
  monomial_end h = rw (drop_of_length-le s h)

takes_monomial : (minus : Bool) → Takes byte 1 (monomial minus)
unfolding monomial
takes_monomial minus [] x r e = absurd (clash e)
takes_monomial minus (b ∷ s) x r e = go (is_digit b) e
  where
    behind_constant : Reader (TermOf Name)
    behind_constant = do m ← constant; ns ← more_names; give (record { negative = minus; magnitude = m; variables = ns })

    of_names : Reader (TermOf Name)
    of_names = do n ← name; ns ← more_names; give (record { negative = minus; magnitude = 1; variables = n ∷ ns })

    go : (t : Bool) → cond t (behind_constant (b ∷ s)) (of_names (b ∷ s)) ≡ got x r → After byte 1 (b ∷ s) r
    go true e = takes_then constant _ takes_constant (λ m. takes_then more_names _ takes_more (λ ns. takes_give _)) (b ∷ s) x r e
    go false e = takes_then name _ takes_name (λ n. takes_then more_names _ takes_more (λ ns. takes_give _)) (b ∷ s) x r e

-- a monomial behind a + or a -
abbrev pub is_sign : ℕ → Bool
is_sign b = eqb b (code "+") || eqb b (code "-")

abbrev pub signed_monomial : ℕ → Reader (TermOf Name)
signed_monomial b = do spaces; monomial (eqb b (code "-"))

takes_signed : (b : ℕ) → Takes byte 1 (signed_monomial b)
takes_signed b = takes_then spaces _ takes_spaces (λ _. takes_monomial (eqb b (code "-")))

more_by_signed : (n b : ℕ) (s : Bytes)
    → (do spaces; m ← monomial (eqb b (code "-")); ms ← up_to_monomials n; give (m ∷ ms)) s ≡ next (signed_monomial b s) (λ m r. next (up_to_monomials n r) (λ ms t. got (m ∷ ms) t))
more_by_signed n b s = go (spaces s)
  where
    go : (r : Read (Unit {0}))
        → next r (λ _. do m ← monomial (eqb b (code "-")); ms ← up_to_monomials n; give (m ∷ ms))
        ≡ next (next r (λ _. monomial (eqb b (code "-")))) (λ m r. next (up_to_monomials n r) (λ ms t. got (m ∷ ms) t))
    go (got x r) = refl
    go (stuck r) = refl

up_to_monomials_enough : (m k : ℕ) (s : Bytes) → length s ≤ m → length s ≤ k → up_to_monomials m s ≡ up_to_monomials k s
unfolding up_to_monomials
up_to_monomials_enough zero zero s h l = refl
up_to_monomials_enough zero (suc k) [] h l = refl
up_to_monomials_enough zero (suc k) (b ∷ s) h l = absurd (not-suc-le-zero h)
up_to_monomials_enough (suc m) zero [] h l = refl
up_to_monomials_enough (suc m) zero (b ∷ s) h l = absurd (not-suc-le-zero l)
up_to_monomials_enough (suc m) (suc k) [] h l = refl
up_to_monomials_enough (suc m) (suc k) (b ∷ s) h l =
    ap (λ (r : Read (List (TermOf Name))). cond (is_sign b) r (got [] (b ∷ s)))
    (more_by_signed m b s ∙ go (signed_monomial b s) refl (λ r p. up_to_monomials_enough m k r (omega arith) (omega arith)) ∙ sym (more_by_signed k b s))
  where
    go : (r : Read (TermOf Name)) → signed_monomial b s ≡ r → ((r : Bytes) → length r ≤ length s → up_to_monomials m r ≡ up_to_monomials k r)
        → next r (λ m' r. next (up_to_monomials m r) (λ ms t. got (m' ∷ ms) t)) ≡ next r (λ m' r. next (up_to_monomials k r) (λ ms t. got (m' ∷ ms) t))
    go (got x r) e ih =
        let a = takes_signed b s x r e in
        let p : length r ≤ length s = omega (arith, after_length a) in
        ap (λ (q : Read (List (TermOf Name))). next q (λ ms t. got (x ∷ ms) t)) (ih r p)
    go (stuck r) e ih = refl

module _ (s : Bytes) (i : ℕ) where
  pub monomials_more : i < length s → is_sign (get_or s i 0) ≡ true → (x : TermOf Name) (r : Bytes) → signed_monomial (get_or s i 0) (drop (i + 1) s) ≡ got x r
      → more_monomials (drop i s) ≡ next (more_monomials r) (λ ms t. got (x ∷ ms) t)
  unfolding up_to_monomials
  monomials_more h b x r e =
      let a = takes_signed (get_or s i 0) (drop (i + 1) s) x r e in
      let p : length r ≤ length (drop (suc i) s) = rw (← add-one i) (omega (arith, after_length a)) in
      let f : signed_monomial (get_or s i 0) (drop (suc i) s) ≡ got x r = rw (← add-one i) e in
      rw (drop-cons s i 0 h, b, more_by_signed (length (drop (suc i) s)) (get_or s i 0) (drop (suc i) s), f, up_to_monomials_enough (length (drop (suc i) s)) (length r) r p (omega arith))

  pub monomials_stuck : i < length s → is_sign (get_or s i 0) ≡ true → (r : Bytes) → signed_monomial (get_or s i 0) (drop (i + 1) s) ≡ stuck r → more_monomials (drop i s) ≡ stuck r
  unfolding up_to_monomials
  monomials_stuck h b r e =
      let f : signed_monomial (get_or s i 0) (drop (suc i) s) ≡ stuck r = rw (← add-one i) e in
      rw (drop-cons s i 0 h, b, more_by_signed (length (drop (suc i) s)) (get_or s i 0) (drop (suc i) s), f)

  pub monomials_stop : i < length s → is_sign (get_or s i 0) ≡ false → more_monomials (drop i s) ≡ got [] (drop i s)
  unfolding up_to_monomials
  monomials_stop h b = rw (drop-cons s i 0 h, b)

  pub monomials_end : length s ≤ i → more_monomials (drop i s) ≡ got [] (drop i s)
  unfolding up_to_monomials
  monomials_end h = rw (drop_of_length-le s h)

-- ---- what polynomials and summands take
takes_minus : Takes byte 0 minus
unfolding minus
takes_minus [] x r e = let q : [] ≡ r = cc in rw (← q) (after_none [])
takes_minus (b ∷ s) x r e = go (eqb b (code "-")) e
  where
    go : (t : Bool) → cond t ((do spaces; give true) s) (got false (b ∷ s)) ≡ got x r → After byte 0 (b ∷ s) r
    go true e = after_least (omega arith) (after_more refl (takes_then spaces _ takes_spaces (λ _. takes_give true) s x r e))
    go false e = let q : (b ∷ s) ≡ r = cc in rw (← q) (after_none (b ∷ s))

takes_monomials : (n : ℕ) → Takes byte 0 (up_to_monomials n)
unfolding up_to_monomials
takes_monomials zero s x r e = let q : s ≡ r = cc in rw (← q) (after_none s)
takes_monomials (suc n) [] x r e = let q : [] ≡ r = cc in rw (← q) (after_none [])
takes_monomials (suc n) (b ∷ s) x r e = go (is_sign b) e (takes_monomials n)
  where
    go : (t : Bool) → cond t ((do spaces; m ← monomial (eqb b (code "-")); ms ← up_to_monomials n; give (m ∷ ms)) s) (got [] (b ∷ s)) ≡ got x r → Takes byte 0 (up_to_monomials n)
        → After byte 0 (b ∷ s) r
    go true e ih =
        after_least (omega arith)
        (after_more refl
        (takes_then spaces _ takes_spaces (λ _. takes_then (monomial (eqb b (code "-"))) _ (takes_monomial (eqb b (code "-"))) (λ m. takes_then (up_to_monomials n) _ ih (λ ms. takes_give (m ∷ ms)))) s x r e))
    go false e ih = let q : (b ∷ s) ≡ r = cc in rw (← q) (after_none (b ∷ s))

takes_poly : Takes byte 1 poly
unfolding poly
takes_poly = takes_then minus _ takes_minus (λ n. takes_then (monomial n) _ (takes_monomial n) (λ m. takes_then more_monomials _ (λ s. takes_monomials (length s) s) (λ ms. takes_give _)))

takes_symbol : (c : ℕ) → Takes byte 1 (symbol c)
takes_symbol c = takes_token (literal (c ∷ [])) (takes_literal (c ∷ []))

takes_pair_factor : Takes byte 0 factor
unfolding factor
takes_pair_factor [] x r e = let q : [] ≡ r = cc in rw (← q) (after_none [])
takes_pair_factor (b ∷ s) x r e = go (eqb b (code "*")) e
  where
    inside : Takes byte 3 (do spaces; symbol (code "("); q ← poly; symbol (code ")"); give q)
    inside = takes_then spaces _ takes_spaces (λ _. takes_then (symbol (code "(")) _ (takes_symbol (code "("))
        (λ _. takes_then poly _ takes_poly (λ q. takes_then (symbol (code ")")) _ (takes_symbol (code ")")) (λ _. takes_give q))))

    go : (t : Bool) → cond t ((do spaces; symbol (code "("); q ← poly; symbol (code ")"); give q) s) (got one (b ∷ s)) ≡ got x r → After byte 0 (b ∷ s) r
    go true e = after_least (omega arith) (after_more refl (inside s x r e))
    go false e = let q : (b ∷ s) ≡ r = cc in rw (← q) (after_none (b ∷ s))

-- a summand behind a +
pub takes_summand : Takes byte 1 (do spaces; summand)
unfolding summand
takes_summand = takes_then spaces _ takes_spaces (λ _. takes_then constant _ takes_constant (λ i. takes_then factor _ takes_pair_factor (λ q. takes_give _)))
