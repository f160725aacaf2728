-- The readers of our lines decide by the next byte. Assumes nothing.
use mathlib.Core.Path.{◌≡◌, refl, ap, ◌∙◌}
use mathlib.Core.Bool.{Bool, true, false, cond}
use mathlib.Core.List.{[], ◌∷◌}
use Prim.Native.Nat.{ℕ, ◌+◌, ◌-◌, ◌*◌}
use Prim.Native.Char.{code}
use lib.Dec.{eqb}
use borrow.Author.Tests.{eqb-true}
use Rattle.ground.proofs.Tests.{by_cond, cond_yes, cond_no}
use Rattle.paper.specs.Statement.{modulo, ring, input, goal, lin, del, ext}
use Rattle.paper.specs.Grammar.{Bytes, bytes, Read, got, stuck, Reader, next, give, is_digit, digits, decimal, sign, more_variables, term, more_terms, as_written, polynomial, tab, number, field, pair, more_pairs, pairs, LineKind, ring_line, input_line, goal_line, lin_line, del_line, ext_line}
use Rattle.paper.proofs.Reading.{next_give}
use Rattle.paper.proofs.Exact.{Halts, Exact, no_byte, only, either, true_false, among_both, exact_wider, exact_give, exact_then}
use Rattle.paper.proofs.ExactBytes.{exact_led, exact_maybe, exact_many, exact_each, exact_literal, among_none, unlike_one, unlike_both, exact_map, exact_more, exact_behind}

-- ---- decimals
pub exact_digits : (n : ℕ) → Exact is_digit no_byte (digits n)
unfolding digits
exact_digits n =
    exact_wider (among_both (λ b h. h) (among_none is_digit)) (λ b h. h)
    (exact_many digits is_digit (λ b. give b) (λ n b. n * 10 + (b - code "0")) (λ b x. x) (λ n. n) led rests (λ b h. exact_give b) n)
  where
    led : (n b : ℕ) (z : Bytes) → is_digit b ≡ true → digits n (b ∷ z) ≡ next (digits (n * 10 + (b - code "0")) z) (λ x t. got x t)
    led n b z h = cond_yes (is_digit b) (digits (n * 10 + (b - code "0")) z) (got n (b ∷ z)) h ∙ next_give (digits (n * 10 + (b - code "0")) z)

    rests : (n : ℕ) (z : Bytes) → Halts is_digit z → digits n z ≡ got n z
    rests n [] h = refl
    rests n (b ∷ z) h = cond_no (is_digit b) (digits (n * 10 + (b - code "0")) z) (got n (b ∷ z)) h

-- after 0 nothing goes on
pub exact_decimal : Exact is_digit (only (code "0")) decimal
unfolding decimal is_digit
exact_decimal = exact_led is_digit behind led exact ends (code "0") refl
  where
    behind : ℕ → Reader ℕ
    behind b = cond (eqb b (code "0")) (give 0) (digits (b - code "0"))

    led : (b : ℕ) (z : Bytes) → is_digit b ≡ true → decimal (b ∷ z) ≡ behind b z
    led b z h = go (eqb b (code "0")) (is_digit b) h
      where
        go : (t d : Bool) → d ≡ true → cond t (got 0 z) (cond d (digits (b - code "0") z) (stuck (b ∷ z))) ≡ cond t (give 0) (digits (b - code "0")) z
        go true d h = refl
        go false d h = cond_yes d (digits (b - code "0") z) (stuck (b ∷ z)) h

    exact : (b : ℕ) → is_digit b ≡ true → Exact is_digit no_byte (behind b)
    exact b h = by_cond (Exact is_digit no_byte) (eqb b (code "0")) (λ e. exact_wider (among_none is_digit) (λ b h. h) (exact_give 0)) (λ e. exact_digits (b - code "0"))

    ends : (z : Bytes) → Halts is_digit z → decimal z ≡ stuck z
    ends [] h = refl
    ends (b ∷ z) h =
        by_cond (λ (r : Read ℕ). r ≡ stuck (b ∷ z)) (eqb b (code "0"))
        (λ e. absurd (true_false (ap is_digit (eqb-true b (code "0") e)) h)) (λ e. cond_no (is_digit b) (digits (b - code "0") z) (stuck (b ∷ z)) h)

-- ---- polynomials
pub exact_sign : Exact (only (code "-")) no_byte sign
unfolding sign
exact_sign =
    exact_wider (among_both (λ b h. h) (among_none (only (code "-")))) (λ b h. h)
    (exact_maybe (only (code "-")) (λ b. give true) (λ b z h. cond_yes (eqb b (code "-")) (got true z) (got false (b ∷ z)) h) (λ b h. exact_give true) false rests)
  where
    rests : (z : Bytes) → Halts (only (code "-")) z → sign z ≡ got false z
    rests [] h = refl
    rests (b ∷ z) h = cond_no (eqb b (code "-")) (got true z) (got false (b ∷ z)) h

pub exact_more_variables : Exact (either (only (code ".")) is_digit) no_byte more_variables
exact_more_variables = exact_each (code ".") decimal exact_decimal

abbrev pub term_goes : ℕ → Bool
term_goes = either (only (code "-")) (either is_digit (either (only (code ".")) is_digit))

pub exact_term : Exact term_goes (only (code "0")) term
unfolding term
exact_term =
    exact_then sign (λ n s. next (decimal s) (λ m s. next (more_variables s) (λ vs. give (record { negative = n; magnitude = m; variables = vs }))))
    (unlike_one (code "0") (only (code "-")) refl) exact_sign
    (λ n. exact_more decimal exact_decimal (λ m s. next (more_variables s) (λ vs. give (record { negative = n; magnitude = m; variables = vs })))
    (λ m. exact_map more_variables exact_more_variables (λ vs. record { negative = n; magnitude = m; variables = vs })))

pub exact_more_terms : Exact (either (only (code " ")) term_goes) no_byte more_terms
exact_more_terms = exact_each (code " ") term exact_term

abbrev pub field_goes : ℕ → Bool
field_goes = either term_goes (either (only (code " ")) term_goes)

pub exact_polynomial : Exact field_goes (only (code "0")) polynomial
unfolding polynomial
exact_polynomial = exact_more term exact_term (λ t s. next (more_terms s) (λ ts. give (as_written t ts))) (λ t. exact_map more_terms exact_more_terms (as_written t))

-- ---- fields
pub exact_tab : Exact no_byte (only (code "\t")) tab
unfolding tab bytes
exact_tab = exact_literal (bytes "\t")

pub exact_number : Exact is_digit (only (code "\t")) number
unfolding number tab bytes
exact_number = exact_behind (code "\t") [] decimal exact_decimal

pub exact_field : Exact field_goes (only (code "\t")) field
unfolding field tab bytes
exact_field = exact_behind (code "\t") [] polynomial exact_polynomial

abbrev pub pair_goes : ℕ → Bool
pair_goes = either is_digit field_goes

pub exact_pair : Exact pair_goes (either (only (code "0")) (only (code "\t"))) pair
unfolding pair is_digit
exact_pair =
    exact_then decimal (λ i s. next (field s) (λ f. give (record { index = i; factor = f }))) (unlike_one (code "\t") is_digit refl) exact_decimal
    (λ i. exact_map field exact_field (λ f. record { index = i; factor = f }))

pub exact_more_pairs : Exact (either (only (code "\t")) pair_goes) no_byte more_pairs
exact_more_pairs = exact_each (code "\t") pair exact_pair

pub exact_pairs : Exact (either pair_goes (either (only (code "\t")) pair_goes)) (only (code "\t")) pairs
unfolding pairs tab bytes
exact_pairs =
    exact_behind (code "\t") [] (λ s. next (pair s) (λ q s. next (more_pairs s) (λ qs. give (q ∷ qs))))
    (exact_more pair exact_pair (λ q s. next (more_pairs s) (λ qs. give (q ∷ qs))) (λ q. exact_map more_pairs exact_more_pairs (λ qs. q ∷ qs)))

-- ---- the kinds of lines
-- the fields of a kind decide by the next byte
pub record ExactKind (k : LineKind) : Type 0 where
  pub goes : ℕ → Bool
  pub starts : ℕ → Bool
  pub exact : Exact goes starts k.1

kind : {k : LineKind} {goes starts : ℕ → Bool} → Exact goes starts k.1 → ExactKind k
kind {k} {goes} {starts} e = record { goes = goes; starts = starts; exact = e }

pub exact_ring : ExactKind ring_line
exact_ring = kind (exact_map number exact_number (λ k. ring (modulo k)))

pub exact_input : ExactKind input_line
unfolding is_digit
exact_input =
    kind (exact_then number (λ i s. next (field s) (λ p. give (input i p))) (unlike_one (code "\t") is_digit refl) exact_number (λ i. exact_map field exact_field (λ p. input i p)))

pub exact_goal : ExactKind goal_line
exact_goal = kind (exact_map field exact_field (λ p. goal p))

pub exact_lin : ExactKind lin_line
unfolding is_digit
exact_lin =
    kind (exact_then number (λ i s. next (field s) (λ p s. next (pairs s) (λ qs. give (lin i p qs))))
    (unlike_both (unlike_one (code "\t") is_digit refl) (unlike_one (code "\t") is_digit refl)) exact_number
    (λ i. exact_then field (λ p s. next (pairs s) (λ qs. give (lin i p qs))) (unlike_one (code "\t") field_goes refl) exact_field (λ p. exact_map pairs exact_pairs (λ qs. lin i p qs))))

pub exact_del : ExactKind del_line
exact_del = kind (exact_map number exact_number (λ i. del i))

pub exact_ext : ExactKind ext_line
unfolding is_digit
exact_ext =
    kind (exact_then number (λ i s. next (number s) (λ v s. next (field s) (λ p. give (ext i v p))))
    (unlike_both (unlike_one (code "\t") is_digit refl) (unlike_one (code "\t") is_digit refl)) exact_number
    (λ i. exact_then number (λ v s. next (field s) (λ p. give (ext i v p))) (unlike_one (code "\t") is_digit refl) exact_number (λ v. exact_map field exact_field (λ p. ext i v p))))
