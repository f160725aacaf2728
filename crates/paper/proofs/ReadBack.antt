-- A spelling read back: numbers, as many items as follow, terms and polynomials. Assumes nothing.
use mathlib.Core.Path.{◌≡◌, refl, sym, ap, ap₂, ◌∙◌}
use mathlib.Core.Bool.{Bool, true, false, ◌&&◌, not, cond}
use mathlib.Core.Logic.{⊎_elim}
use mathlib.Core.List.{List, [], ◌∷◌, ◌++◌, map, append_assoc, append-nil}
use Prim.Native.Nat.{ℕ, zero, suc, ◌+◌, ◌-◌, ◌*◌, ◌/◌, ◌%◌, ◌^◌, ◌≤◌, ◌<◌}
use Prim.Native.Char.{code}
use native.Mathlib.Nat.{not-suc-le-zero}
use native.Mathlib.Omega.{arith}
use lib.Dec.{eqb, leb, ltb}
use lib.ListN.{length, length-append}
use borrow.Author.Tests.{ltb-true, ltb-false, le-leb, eq-eqb, ne_eqb}
use Rattle.ground.specs.Lists.{every, gather}
use Rattle.ground.proofs.Tests.{split, by_cond, cond_no, and_left, and_right}
use Rattle.limits.specs.Limits.{variables}
use Rattle.algebra.specs.Polynomial.{members, Term, Poly, Reduced}
use Rattle.paper.specs.Grammar.{Bytes, bytes, Read, got, Reader, next, end, up_to, each, is_digit, digits, decimal, sign, term, as_written, polynomial}
use Rattle.paper.specs.Statement.{TermOf, WrittenOf, WrittenTerm, Written}
use Rattle.paper.specs.Spelling.{spell_digits, spell_number, spell_coefficient, spell_term, spell, whole_field}
use Rattle.paper.specs.LineText.{write_term, write_field}
use Rattle.paper.proofs.Reading.{every_true}
use Rattle.paper.proofs.Pieces.{is_zero}

-- ---- numbers
-- no digit comes next
unfoldable pub no_digit : Bytes → Bool
no_digit [] = true
no_digit (b ∷ s) = not (is_digit b)

digit : (n : ℕ) → n < 10 → is_digit (48 + n) ≡ true
unfolding is_digit
digit n h = rw (le-leb 48 (48 + n) (omega arith), le-leb (48 + n) 57 (omega arith))

digits_digit : (v n : ℕ) (s : Bytes) → n < 10 → digits v ((48 + n) ∷ s) ≡ digits (v * 10 + n) s
unfolding digits
digits_digit v n s h = let e : 48 + n - 48 ≡ n = omega arith in rw (digit n h, e)

digits_stop : (v : ℕ) (s : Bytes) → no_digit s ≡ true → digits v s ≡ got v s
unfolding digits no_digit
digits_stop v [] h = refl
digits_stop v (b ∷ s) h = go (is_digit b) h
  where
    go : (t : Bool) → not t ≡ true → cond t (digits (v * 10 + (b - code "0")) s) (got v (b ∷ s)) ≡ got v (b ∷ s)
    go true e = let z : ◌≡◌ {A = ℕ} 0 1 = cc in absurd (let y : ⊥ = omega arith in y)
    go false e = refl

-- the last digit goes with what follows
split_last : (d n : ℕ) (s : Bytes) → ltb n 10 ≡ false → spell_digits (suc d) n ++ s ≡ spell_digits d (n / 10) ++ ((code "0" + n % 10) ∷ s)
unfolding spell_digits
split_last d n s t =
    ap (λ (b : Bool). cond b ((code "0" + n) ∷ []) (spell_digits d (n / 10) ++ ((code "0" + n % 10) ∷ [])) ++ s) t
    ∙ append_assoc (spell_digits d (n / 10)) ((code "0" + n % 10) ∷ []) s

decimal_digits : (d n : ℕ) (s : Bytes) → n < d → 0 < n → decimal (spell_digits d n ++ s) ≡ digits n s
unfolding spell_digits decimal
decimal_digits zero n s h l = absurd (not-suc-le-zero h)
decimal_digits (suc d) n s h l =
    ⊎_elim
    (λ t. let m : n < 10 = ltb-true n 10 t in
    let e : 48 + n - 48 ≡ n = omega arith in
    rw (t, ne_eqb (48 + n) 48 (λ q. omega arith), digit n m, e))
    (λ t. let m : 10 ≤ n = ltb-false n 10 t in
    let e : n / 10 * 10 + n % 10 ≡ n = omega arith in
    ap decimal (split_last d n s t)
    ∙ decimal_digits d (n / 10) ((code "0" + n % 10) ∷ s) (omega arith) (omega arith)
    ∙ digits_digit (n / 10) (n % 10) s (omega arith)
    ∙ ap (λ (x : ℕ). digits x s) e)
    (split (ltb n 10))

zero_back : (s : Bytes) → decimal (spell_digits 1 0 ++ s) ≡ got 0 s
unfolding spell_digits decimal
zero_back s = refl

pub number_back : (n : ℕ) (s : Bytes) → no_digit s ≡ true → decimal (spell_number n ++ s) ≡ got n s
unfolding spell_number
number_back zero s h = zero_back s
number_back (suc n) s h = decimal_digits (suc (suc n)) (suc n) s (omega arith) (omega arith) ∙ digits_stop (suc n) s h

-- no number begins with a sign
unsigned : (d n : ℕ) (s : Bytes) → n < d → sign (spell_digits d n ++ s) ≡ got false (spell_digits d n ++ s)
unfolding spell_digits sign
unsigned zero n s h = absurd (not-suc-le-zero h)
unsigned (suc d) n s h =
    ⊎_elim
    (λ t. rw (t, ne_eqb (48 + n) 45 (λ q. omega arith)))
    (λ t. let m : 10 ≤ n = ltb-false n 10 t in
    let e = split_last d n s t in
    ap sign e ∙ unsigned d (n / 10) ((code "0" + n % 10) ∷ s) (omega arith) ∙ ap (got false) (sym e))
    (split (ltb n 10))

-- ---- as many items as follow
-- the byte c does not come next
unfoldable pub begins_other : ℕ → Bytes → Bool
begins_other c [] = true
begins_other c (b ∷ s) = not (eqb b c)

-- good items that are read back before what `ok` allows, each behind c, are read back in a row
module _ {A : Type 0} (c : ℕ) (item : Reader A) (spelled : A → Bytes) (good : A → Bool) (ok : Bytes → Bool)
    (back : (x : A) (s : Bytes) → good x ≡ true → ok s ≡ true → item (spelled x ++ s) ≡ got x s) (tail : (s : Bytes) → ok (c ∷ s) ≡ true) where
  up_to_none : (m : ℕ) (s : Bytes) → begins_other c s ≡ true → up_to m c item s ≡ got [] s
  unfolding up_to begins_other
  up_to_none zero s h = refl
  up_to_none (suc m) [] h = refl
  up_to_none (suc m) (b ∷ s) h = go (eqb b c) h
    where
      go : (t : Bool) → not t ≡ true → cond t (next (item s) (λ x r. next (up_to m c item r) (λ xs r'. got (x ∷ xs) r'))) (got [] (b ∷ s)) ≡ got [] (b ∷ s)
      go true e = let z : ◌≡◌ {A = ℕ} 0 1 = cc in absurd (let y : ⊥ = omega arith in y)
      go false e = refl

  ahead : (xs : List A) (s : Bytes) → ok s ≡ true → ok (gather (λ x. c ∷ spelled x) xs ++ s) ≡ true
  unfolding gather
  ahead [] s h = h
  ahead (x ∷ xs) s h = tail ((spelled x ++ gather (λ x. c ∷ spelled x) xs) ++ s)

  up_to_first : (m : ℕ) (x : A) (xs : List A) (s : Bytes) {r t : Bytes} → item s ≡ got x r → up_to m c item r ≡ got xs t → up_to (suc m) c item (c ∷ s) ≡ got (x ∷ xs) t
  unfolding up_to
  up_to_first m x xs s e f = rw (eq-eqb c c refl, e, f)

  up_to_back : (m : ℕ) (xs : List A) (s : Bytes) → length xs ≤ m → every good xs ≡ true → ok s ≡ true → begins_other c s ≡ true
      → up_to m c item (gather (λ x. c ∷ spelled x) xs ++ s) ≡ got xs s
  unfolding gather every
  up_to_back m [] s h g o w = up_to_none m s w
  up_to_back zero (x ∷ xs) s h g o w = absurd (not-suc-le-zero h)
  up_to_back (suc m) (x ∷ xs) s h g o w =
      up_to_first m x xs ((spelled x ++ gather (λ x. c ∷ spelled x) xs) ++ s)
      (ap item (append_assoc (spelled x) (gather (λ x. c ∷ spelled x) xs) s)
      ∙ back x (gather (λ x. c ∷ spelled x) xs ++ s) (and_left (good x) (every good xs) g) (ahead xs s o))
      (up_to_back m xs s (omega arith) (and_right (good x) (every good xs) g) o w)

  gather_length : (xs : List A) → length xs ≤ length (gather (λ x. c ∷ spelled x) xs)
  unfolding gather
  gather_length [] = omega arith
  gather_length (x ∷ xs) = omega (arith, gather_length xs, length-append (spelled x) (gather (λ x. c ∷ spelled x) xs))

  pub each_back : (xs : List A) (s : Bytes) → every good xs ≡ true → ok s ≡ true → begins_other c s ≡ true → each c item (gather (λ x. c ∷ spelled x) xs ++ s) ≡ got xs s
  each_back xs s g o w =
      up_to_back (length (gather (λ x. c ∷ spelled x) xs ++ s)) xs s (omega (arith, gather_length xs, length-append (gather (λ x. c ∷ spelled x) xs) s)) g o w

-- ---- terms
-- neither a digit nor a dot comes next
unfoldable pub apart : Bytes → Bool
apart s = no_digit s && begins_other (code ".") s

dots : List ℕ → Bytes
dots vs = gather (λ v. code "." ∷ spell_number v) vs

dots_apart : (vs : List ℕ) (s : Bytes) → no_digit s ≡ true → no_digit (dots vs ++ s) ≡ true
unfolding dots gather no_digit is_digit
dots_apart [] s h = h
dots_apart (v ∷ vs) s h = refl

sign_back : (b : Bool) (m : ℕ) (s : Bytes) → sign (cond b (code "-" ∷ []) [] ++ (spell_number m ++ s)) ≡ got b (spell_number m ++ s)
unfolding sign spell_number
sign_back true m s = refl
sign_back false m s = unsigned (suc m) m s (omega arith)

term_back : (t : WrittenTerm) (s : Bytes) → apart s ≡ true → term (write_term t ++ s) ≡ got t s
unfolding term write_term apart dots no_digit is_digit
term_back t s h =
    let n : no_digit s ≡ true = and_left (no_digit s) (begins_other (code ".") s) h in
    let minus : Bytes = cond t.negative (code "-" ∷ []) [] in
    ap term (append_assoc minus (spell_number t.magnitude ++ dots t.variables) s
    ∙ ap (λ (r : Bytes). minus ++ r) (append_assoc (spell_number t.magnitude) (dots t.variables) s))
    ∙ ap (λ (r : Read Bool). next r signed) (sign_back t.negative t.magnitude (dots t.variables ++ s))
    ∙ ap (λ (r : Read ℕ). next r (sized t.negative)) (number_back t.magnitude (dots t.variables ++ s) (dots_apart t.variables s n))
    ∙ ap (λ (r : Read (List ℕ)). next r (named t.negative t.magnitude))
    (each_back (code ".") decimal spell_number (λ v. true) no_digit (λ v s g. number_back v s) (λ r. refl) t.variables s (every_true t.variables) n
    (and_right (no_digit s) (begins_other (code ".") s) h))
  where
    named : Bool → ℕ → List ℕ → Reader WrittenTerm
    named b m vs = λ r. got (record { negative = b; magnitude = m; variables = vs }) r

    sized : Bool → ℕ → Reader WrittenTerm
    sized b m = λ r. next (each (code ".") decimal r) (named b m)

    signed : Bool → Reader WrittenTerm
    signed b = λ r. next (decimal r) (sized b)

-- ---- polynomials
-- neither a digit nor a dot nor a space comes next
unfoldable pub field_ends : Bytes → Bool
field_ends s = apart s && begins_other (code " ") s

spaces_apart : (ts : List WrittenTerm) (s : Bytes) → apart s ≡ true → apart (gather (λ u. code " " ∷ write_term u) ts ++ s) ≡ true
unfolding gather apart no_digit begins_other is_digit
spaces_apart [] s h = h
spaces_apart (t ∷ ts) s h = refl

terms_back : (t : WrittenTerm) (ts : List WrittenTerm) (s : Bytes) → field_ends s ≡ true → polynomial (write_field (t ∷ ts) ++ s) ≡ got (as_written t ts) s
unfolding polynomial write_field field_ends apart no_digit begins_other is_digit
terms_back t ts s h =
    let a : apart s ≡ true = and_left (apart s) (begins_other (code " ") s) h in
    let others : Bytes = gather (λ u. code " " ∷ write_term u) ts in
    ap polynomial (append_assoc (write_term t) others s)
    ∙ ap (λ (r : Read WrittenTerm). next r more) (term_back t (others ++ s) (spaces_apart ts s a))
    ∙ ap (λ (r : Read (List WrittenTerm)). next r (λ us s. got (as_written t us) s))
    (each_back (code " ") term write_term (λ u. true) apart (λ u s g. term_back u s) (λ r. refl) ts s (every_true ts) a (and_right (apart s) (begins_other (code " ") s) h))
  where
    more : WrittenTerm → Reader Written
    more u = λ s. next (each (code " ") term s) (λ us s. got (as_written u us) s)

-- one bare term of magnitude 0: as a field it reads as the zero polynomial
unfoldable pub bare_zero : {A : Type 0} → WrittenOf A → Bool
bare_zero [] = false
bare_zero (t ∷ []) = is_zero t
bare_zero (t ∷ u ∷ ts) = false

pub as_it_is : {A : Type 0} (t : TermOf A) (ts : List (TermOf A)) → bare_zero (t ∷ ts) ≡ false → as_written t ts ≡ t ∷ ts
unfolding as_written bare_zero
as_it_is t [] e = cond_no (is_zero t) [] (t ∷ []) e
as_it_is t (u ∷ ts) e = refl

pub field_back : (p : Written) (s : Bytes) → bare_zero p ≡ false → field_ends s ≡ true → polynomial (write_field p ++ s) ≡ got p s
unfolding write_field write_term bytes spell_number spell_digits as_written gather
field_back [] s e h = terms_back (record { negative = false; magnitude = 0; variables = [] }) [] s h
field_back (t ∷ ts) s e h = terms_back t ts s h ∙ ap (λ (p : Written). got p s) (as_it_is t ts e)

pub whole_end : (s : Bytes) (p : Written) → polynomial s ≡ got p [] → whole_field s ≡ got p []
unfolding whole_field end
whole_end s p e = ap (λ (r : Read Written). next r (λ p s. next (end s) (λ _ r. got p r))) e

some_magnitude : (t : WrittenTerm) (ts : List WrittenTerm) → 0 < t.magnitude → bare_zero (t ∷ ts) ≡ false
unfolding bare_zero
some_magnitude t [] h = rw (ne_eqb t.magnitude 0 (λ e. omega arith)) (go (not t.negative))
  where
    go : (b : Bool) → ((b && false) && elim t.variables [ [] ↦ true | v ∷ vs ↦ false ]) ≡ false
    go true = refl
    go false = refl
some_magnitude t (u ∷ ts) h = refl

-- ---- the spelling of a polynomial
module _ (k : ℕ) where
  -- a term as its spelling has it
  unfoldable pub written_term : Term → WrittenTerm
  written_term t = record {
    negative = not (leb t.coef (2 ^ (k - 1)));
    magnitude = cond (leb t.coef (2 ^ (k - 1))) t.coef (2 ^ k - t.coef);
    variables = members variables 0 t.set;
  }

  term_spelled : (t : Term) → spell_term k t ≡ write_term (written_term t)
  unfolding spell_term spell_coefficient write_term written_term
  term_spelled t = go (leb t.coef (2 ^ (k - 1)))
    where
      vs : Bytes
      vs = gather (λ v. code "." ∷ spell_number v) (members variables 0 t.set)

      go : (b : Bool) → cond b (spell_number t.coef) (code "-" ∷ spell_number (2 ^ k - t.coef)) ++ vs
          ≡ cond (not b) (code "-" ∷ []) [] ++ (spell_number (cond b t.coef (2 ^ k - t.coef)) ++ vs)
      go true = refl
      go false = refl

  rest_spelled : (p : Poly) → gather (λ u. code " " ∷ spell_term k u) p ≡ gather (λ u. code " " ∷ write_term u) (map written_term p)
  unfolding gather
  rest_spelled [] = refl
  rest_spelled (t ∷ p) = ap₂ (λ (x y : Bytes). (code " " ∷ x) ++ y) (term_spelled t) (rest_spelled p)

  field_spelled : (p : Poly) → spell k p ≡ write_field (map written_term p)
  unfolding spell write_field
  field_spelled [] = refl
  field_spelled (t ∷ p) = ap₂ (λ (x y : Bytes). x ++ y) (term_spelled t) (rest_spelled p)

  magnitude_some : (t : Term) → 0 < t.coef → t.coef < 2 ^ k → 0 < (written_term t).magnitude
  unfolding written_term
  magnitude_some t h l = by_cond (λ (x : ℕ). 0 < x) (leb t.coef (2 ^ (k - 1))) (λ _. h) (λ _. omega arith)

  spelled_some : (b : ℕ) (p : Poly) → Reduced k b p → bare_zero (map written_term p) ≡ false
  unfolding bare_zero
  spelled_some b [] r = refl
  spelled_some b (t ∷ p) r = some_magnitude (written_term t) (map written_term p) (magnitude_some t r.1 r.2)

  pub spell_back : (b : ℕ) (p : Poly) → Reduced k b p → whole_field (spell k p) ≡ got (map written_term p) []
  unfolding field_ends apart no_digit begins_other
  spell_back b p r =
      whole_end (spell k p) (map written_term p)
      (ap polynomial (field_spelled p ∙ sym (append-nil (write_field (map written_term p)))) ∙ field_back (map written_term p) [] (spelled_some b p r) refl)
