-- The spelling of a run, term by term, and of a term; how long they are at most. Assumes nothing.
use mathlib.Core.Path.{◌≡◌, refl, sym, ap, ◌∙◌, subst}
use mathlib.Core.List.{List, [], ◌∷◌, ◌++◌}
use Prim.Native.Nat.{ℕ, suc, ◌+◌, ◌-◌, ◌*◌, ◌^◌, ◌≤◌, ◌<◌}
use Prim.Native.Char.{code}
use native.Mathlib.Omega.{arith}
use lib.Dec.{leb}
use lib.ListN.{length, drop, get_or, length-append, drop_of_length-le}
use lib.Pow.{pow_mono}
use Rattle.ground.specs.Lists.{gather, total}
use Rattle.words.specs.Parts.{part}
use Rattle.ground.proofs.Tests.{by_cond}
use Rattle.limits.specs.Limits.{set_words, term_words, variables}
use Rattle.algebra.specs.Polynomial.{members, Term, Poly}
use Rattle.words.specs.Words.{number_of}
use Rattle.terms.specs.Terms.{term_of, decode}
use Rattle.terms.proofs.Decode.{decode_length, decode_read, decode_rest}
use Rattle.paper.specs.Grammar.{Bytes, bytes}
use Rattle.paper.specs.Spelling.{spell_coefficient, spell_term, spell}
use Rattle.paper.proofs.Numbers.{number_most}
use Rattle.writer.specs.Writing.{dotted, spaced, Cut, term_room, room}
use Rattle.writer.proofs.Pieces.{variables_most, members_few}

-- ---- the pieces of a run of n terms in s, whose i-th is t
abbrev pub run_rest : ℕ → ℕ → List ℕ → ℕ → Bytes
run_rest k n s i = gather (spaced k) (drop i (decode n s))

module _ (k n : ℕ) (s t : List ℕ) where
  pub run_first : 0 < n → t ≡ part 0 term_words s → spell k (decode n s) ≡ spell_term k (term_of t) ++ run_rest k n s 1
  unfolding spell
  run_first h e = ap (spell k) (decode_rest n 0 s t h e)

  module _ (i : ℕ) (h : i < n) (e : t ≡ part (i * term_words) term_words s) where
    pub run_more : run_rest k n s i ≡ spaced k (term_of t) ++ run_rest k n s (i + 1)
    unfolding gather
    run_more = ap (gather (spaced k)) (decode_rest n i s t h e)

    pub run_length_more : length (run_rest k n s i) ≡ 1 + length (spell_term k (term_of t)) + length (run_rest k n s (i + 1))
    run_length_more = ap length run_more ∙ omega (arith, length-append (spaced k (term_of t)) (run_rest k n s (i + 1)))

    pub cut_at : Cut k (decode n s) → (term_of t).coef < 2 ^ k
    cut_at f =
        let l : i < length (decode n s) = rw (decode_length n s) h in
        subst (λ (u : Term). u.coef < 2 ^ k) (decode_read n i s t h e) (f.at i l)

pub run_length_first : (k n : ℕ) (s t : List ℕ) → 0 < n → t ≡ part 0 term_words s
    → length (spell k (decode n s)) ≡ length (spell_term k (term_of t)) + length (run_rest k n s 1)
run_length_first k n s t h e = ap length (run_first k n s t h e) ∙ length-append (spell_term k (term_of t)) (run_rest k n s 1)

pub run_end : (k n : ℕ) (s : List ℕ) (i : ℕ) → n ≤ i → run_rest k n s i ≡ []
unfolding gather
run_end k n s i h = ap (gather (spaced k)) (drop_of_length-le (decode n s) {i = i} (omega (arith, decode_length n s)))

pub run_none : (k n : ℕ) (s : List ℕ) → n ≡ 0 → spell k (decode n s) ≡ code "0" ∷ []
unfolding spell decode bytes
run_none k n s e = rw e

-- ---- a term in words, whose set is a
module _ (k : ℕ) (t a : List ℕ) (e : number_of a ≡ (term_of t).set) where
  pub term_pieces : spell_term k (term_of t) ≡ spell_coefficient k (get_or t set_words 0) ++ gather dotted (members variables 0 (number_of a))
  unfolding spell_term term_of
  term_pieces = ap (λ (m : ℕ). spell_coefficient k (get_or t set_words 0) ++ gather dotted (members variables 0 m)) (sym e)

  pub term_length_pieces : length (spell_term k (term_of t)) ≡ length (spell_coefficient k (get_or t set_words 0)) + length (gather dotted (members variables 0 (number_of a)))
  term_length_pieces = ap length term_pieces ∙ length-append (spell_coefficient k (get_or t set_words 0)) (gather dotted (members variables 0 (number_of a)))

pub term_coef : (k : ℕ) (t : List ℕ) → (term_of t).coef < 2 ^ k → get_or t set_words 0 < 2 ^ k
unfolding term_of
term_coef k t h = h

-- ---- how long it is
coefficient_most : (k c : ℕ) → k ≤ 64 → c < 2 ^ k → length (spell_coefficient k c) ≤ 21
unfolding spell_coefficient
coefficient_most k c h l =
    let p : 2 ^ k ≤ 2 ^ 64 = pow_mono h in
    by_cond (λ (w : Bytes). length w ≤ 21) (leb c (2 ^ (k - 1)))
    (λ e. omega (arith, number_most 19 c (omega arith))) (λ e. omega (arith, number_most 19 (2 ^ k - c) (omega arith)))

pub term_most : (k : ℕ) (t : Term) → k ≤ 64 → t.coef < 2 ^ k → 1 + length (spell_term k t) ≤ term_room t
unfolding spell_term
term_most k t h l =
    omega (
      arith,
      coefficient_most k t.coef h l,
      variables_most variables 0 t.set (omega arith),
      length-append (spell_coefficient k t.coef) (gather dotted (members variables 0 t.set)),
    )

cut_rest : (k : ℕ) (t : Term) (p : Poly) → Cut k (t ∷ p) → Cut k p
cut_rest k t p f = record { at = λ i l. f.at (suc i) (omega arith) }

rest_most : (k : ℕ) (p : Poly) → k ≤ 64 → Cut k p → length (gather (spaced k) p) ≤ total term_room p
unfolding gather total
rest_most k [] h f = omega arith
rest_most k (t ∷ p) h f =
    omega (arith, term_most k t h (f.at 0 (omega arith)), rest_most k p h (cut_rest k t p f), length-append (spaced k t) (gather (spaced k) p))

pub run_most : (k : ℕ) (p : Poly) → k ≤ 64 → Cut k p → length (spell k p) ≤ room p
unfolding spell room total bytes
run_most k [] h f = omega arith
run_most k (t ∷ p) h f =
    omega (arith, term_most k t h (f.at 0 (omega arith)), rest_most k p h (cut_rest k t p f), length-append (spell_term k t) (gather (spaced k) p))

-- ---- the room
abbrev most_room : ℕ
most_room = 22 + 4 * variables

pub term_room_most : (t : Term) → term_room t ≤ most_room
term_room_most t = omega (arith, members_few variables 0 t.set)

total_most : (p : Poly) → total term_room p ≤ most_room * length p
unfolding total
total_most [] = omega arith
total_most (t ∷ p) = omega (arith, total_most p, members_few variables 0 t.set)

pub room_most : (n : ℕ) (s : List ℕ) → room (decode n s) ≤ 1 + most_room * n
unfolding room
room_most n s = omega (arith, total_most (decode n s), decode_length n s)

pub room_start : (n : ℕ) (s : List ℕ) → 1 + total term_room (drop 0 (decode n s)) ≡ room (decode n s)
unfolding room
room_start n s = refl

-- m variables in the i-th term, t
pub room_more : (n i : ℕ) (s t : List ℕ) (m : ℕ) → i < n → t ≡ part (i * term_words) term_words s → m ≡ length (members variables 0 (term_of t).set)
    → total term_room (drop i (decode n s)) ≡ 22 + 4 * m + total term_room (drop (i + 1) (decode n s))
unfolding total
room_more n i s t m h e c = ap (total term_room) (decode_rest n i s t h e) ∙ omega arith

pub room_end : (n i : ℕ) (s : List ℕ) → n ≤ i → total term_room (drop i (decode n s)) ≡ 0
unfolding total
room_end n i s h = ap (total term_room) (drop_of_length-le (decode n s) {i = i} (omega (arith, decode_length n s)))
