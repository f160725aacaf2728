-- A statement's line reads as the statement, and a text of such lines has them as its lines. Assumes nothing.
use mathlib.Core.Path.{◌≡◌, refl, sym, ap, ◌∙◌}
use mathlib.Core.Bool.{Bool, true, false, ◌&&◌, not, cond}
use mathlib.Core.List.{List, [], ◌∷◌, ◌++◌, map, append_assoc, append-nil}
use Prim.Native.Nat.{ℕ, zero, suc, ◌+◌, ◌/◌, ◌%◌}
use Prim.Native.Char.{code}
use native.Mathlib.Omega.{arith}
use lib.Dec.{eqb, ltb}
use borrow.Author.Tests.{not-true, ne_eqb}
use Rattle.ground.specs.Lists.{every, gather}
use Rattle.ground.proofs.Lists.{every_append}
use Rattle.ground.proofs.Tests.{by_cond, cond_no, and_left, and_right, and_both}
use Rattle.paper.specs.Statement.{WrittenOf, PairOf, StatementOf, WrittenTerm, Written, Pair, modulo, Statement, ring, input, goal, lin, del, ext}
use Rattle.paper.specs.Grammar.{Bytes, bytes, Line, on_first, ended_by, lines, got, literal, end, each, is_digit, tab, number, field, pair, pairs, kinds, begins_alike, one_of, statement}
use Rattle.paper.specs.Spelling.{spell_digits, spell_number}
use Rattle.paper.specs.LineText.{write_term, write_field, tab_number, tab_field, tab_pairs, write_line, end_line}
use Rattle.paper.proofs.Reading.{next_got}
use Rattle.paper.proofs.ReadBack.{no_digit, number_back, begins_other, apart, field_ends, bare_zero, field_back, each_back}

-- it is not one bare term of magnitude 0
abbrev pub good_field : {A : Type 0} → WrittenOf A → Bool
good_field p = not (bare_zero p)

-- ---- fields behind a tab, before what follows and at the end
number_before : (n : ℕ) (s : Bytes) → no_digit s ≡ true → number (tab_number n ++ s) ≡ got n s
unfolding number tab literal bytes
number_before n s h = number_back n s h

number_last : (n : ℕ) → number (tab_number n) ≡ got n []
unfolding no_digit
number_last n = ap number (sym (append-nil (tab_number n))) ∙ number_before n [] refl

field_before : (p : Written) (s : Bytes) → good_field p ≡ true → field_ends s ≡ true → field (tab_field p ++ s) ≡ got p s
unfolding field tab literal bytes
field_before p s z h = field_back p s (not-true (bare_zero p) z) h

field_last : (p : Written) → good_field p ≡ true → field (tab_field p) ≡ got p []
unfolding field_ends apart no_digit begins_other
field_last p z = ap field (sym (append-nil (tab_field p))) ∙ field_before p [] z refl

-- ---- pairs
abbrev pair_text : Pair → Bytes
pair_text q = spell_number q.index ++ tab_field q.factor

abbrev pub good_pair : {A : Type 0} → PairOf A → Bool
good_pair q = good_field q.factor

pair_back : (q : Pair) (s : Bytes) → good_pair q ≡ true → field_ends s ≡ true → pair (pair_text q ++ s) ≡ got q s
unfolding pair no_digit is_digit
pair_back q s z h =
    ap pair (append_assoc (spell_number q.index) (tab_field q.factor) s)
    ∙ next_got _ (number_back q.index (tab_field q.factor ++ s) refl) (next_got _ (field_before q.factor s z h) refl)

pairs_end : (qs : List Pair) → field_ends (tab_pairs qs) ≡ true
unfolding tab_pairs gather field_ends apart no_digit begins_other is_digit
pairs_end [] = refl
pairs_end (q ∷ qs) = refl

more_back : (qs : List Pair) → every good_pair qs ≡ true → each (code "\t") pair (tab_pairs qs) ≡ got qs []
unfolding tab_pairs field_ends apart no_digit begins_other is_digit
more_back qs z =
    ap (each (code "\t") pair) (sym (append-nil (tab_pairs qs)))
    ∙ each_back (code "\t") pair pair_text good_pair field_ends pair_back (λ r. refl) qs [] z refl refl

pairs_back : (q : Pair) (qs : List Pair) → every good_pair (q ∷ qs) ≡ true → pairs (tab_pairs (q ∷ qs)) ≡ got (q ∷ qs) []
unfolding pairs tab literal bytes tab_pairs gather every
pairs_back q qs z =
    next_got _ (pair_back q (tab_pairs qs) (and_left (good_pair q) (every good_pair qs) z) (pairs_end qs))
    (next_got _ (more_back qs (and_right (good_pair q) (every good_pair qs) z)) refl)

-- ---- lines
unfoldable pub good_pairs : {A : Type 0} → List (PairOf A) → Bool
good_pairs [] = false
good_pairs (q ∷ qs) = every good_pair (q ∷ qs)

-- what a line can say: no field is one bare term of magnitude 0, and a linear combination has a pair
unfoldable pub has_line : {A : Type 0} → StatementOf A → Bool
has_line st = elim st [ ring r ↦ true | input i p ↦ good_field p | goal p ↦ good_field p | lin i p qs ↦ good_field p && good_pairs qs | del i ↦ true | ext i v p ↦ good_field p ]

abbrev pub written_line : Statement → Line
written_line st = record { content = write_line st; ended = true }

pub line_back : (st : Statement) → has_line st ≡ true → statement (written_line st) ≡ got st []
unfolding statement one_of kinds begins_alike literal bytes end write_line has_line good_pairs no_digit is_digit
line_back (ring (modulo k)) h = next_got _ (next_got _ (number_last k) refl) refl
line_back (input i p) h = next_got _ (next_got _ (number_before i (tab_field p) refl) (next_got _ (field_last p h) refl)) refl
line_back (goal p) h = next_got _ (next_got _ (field_last p h) refl) refl
line_back (lin i p []) h =
    let e : false ≡ true = and_right (good_field p) false h in
    absurd (let z : ◌≡◌ {A = ℕ} 0 1 = cc in omega arith)
line_back (lin i p (q ∷ qs)) h =
    let z : good_field p ≡ true = and_left (good_field p) (every good_pair (q ∷ qs)) h in
    let g : every good_pair (q ∷ qs) ≡ true = and_right (good_field p) (every good_pair (q ∷ qs)) h in
    next_got _ (next_got _ (number_before i (tab_field p ++ tab_pairs (q ∷ qs)) refl)
    (next_got _ (field_before p (tab_pairs (q ∷ qs)) z (pairs_end (q ∷ qs))) (next_got _ (pairs_back q qs g) refl))) refl
line_back (del i) h = next_got _ (next_got _ (number_last i) refl) refl
line_back (ext i v p) h =
    next_got _ (next_got _ (number_before i (tab_number v ++ tab_field p) refl) (next_got _ (number_before v (tab_field p) refl) (next_got _ (field_last p h) refl))) refl

-- ---- no line has a byte 10 of its own
abbrev in_line : ℕ → Bool
in_line b = not (eqb b (code "\n"))

abbrev InLine : Bytes → Type 0
InLine s = every in_line s ≡ true

inside_append : (s t : Bytes) → InLine s → InLine t → InLine (s ++ t)
inside_append s t a b = every_append in_line s t ∙ and_both (every in_line s) (every in_line t) a b

inside_gather : {A : Type 0} (f : A → Bytes) → ((x : A) → InLine (f x)) → (xs : List A) → InLine (gather f xs)
unfolding gather every
inside_gather f h [] = refl
inside_gather f h (x ∷ xs) = inside_append (f x) (gather f xs) (h x) (inside_gather f h xs)

inside_digits : (d n : ℕ) → InLine (spell_digits d n)
unfolding spell_digits every
inside_digits zero n = refl
inside_digits (suc d) n =
    by_cond InLine (ltb n 10) (λ _. digit n) (λ _. inside_append (spell_digits d (n / 10)) ((code "0" + n % 10) ∷ []) (inside_digits d (n / 10)) (digit (n % 10)))
  where
    digit : (m : ℕ) → InLine ((code "0" + m) ∷ [])
    digit m = rw (ne_eqb (48 + m) 10 (λ e. omega arith))

inside_number : (n : ℕ) → InLine (spell_number n)
unfolding spell_number
inside_number n = inside_digits (suc n) n

inside_term : (t : WrittenTerm) → InLine (write_term t)
unfolding write_term every
inside_term t =
    inside_append (cond t.negative (code "-" ∷ []) []) (spell_number t.magnitude ++ gather (λ v. code "." ∷ spell_number v) t.variables)
    (by_cond InLine t.negative (λ _. refl) (λ _. refl))
    (inside_append (spell_number t.magnitude) (gather (λ v. code "." ∷ spell_number v) t.variables) (inside_number t.magnitude)
    (inside_gather (λ v. code "." ∷ spell_number v) inside_number t.variables))

inside_field : (p : Written) → InLine (write_field p)
unfolding write_field bytes every
inside_field [] = refl
inside_field (t ∷ ts) = inside_append (write_term t) (gather (λ u. code " " ∷ write_term u) ts) (inside_term t) (inside_gather (λ u. code " " ∷ write_term u) inside_term ts)

inside_pairs : (qs : List Pair) → InLine (tab_pairs qs)
unfolding tab_pairs every
inside_pairs qs =
    inside_gather (λ q. tab_number q.index ++ tab_field q.factor)
    (λ q. inside_append (tab_number q.index) (tab_field q.factor) (inside_number q.index) (inside_field q.factor)) qs

inside_line : (st : Statement) → InLine (write_line st)
unfolding write_line bytes every
inside_line (ring (modulo k)) = inside_number k
inside_line (input i p) = inside_append (tab_number i) (tab_field p) (inside_number i) (inside_field p)
inside_line (goal p) = inside_field p
inside_line (lin i p qs) =
    inside_append (tab_number i) (tab_field p ++ tab_pairs qs) (inside_number i) (inside_append (tab_field p) (tab_pairs qs) (inside_field p) (inside_pairs qs))
inside_line (del i) = inside_number i
inside_line (ext i v p) = inside_append (tab_number i) (tab_number v ++ tab_field p) (inside_number i) (inside_append (tab_number v) (tab_field p) (inside_number v) (inside_field p))

-- ---- the lines of statements in a row
first_line : (w s : Bytes) → InLine w → lines (w ++ (code "\n" ∷ s)) ≡ record { content = w; ended = true } ∷ lines s
unfolding lines ended_by on_first every
first_line [] s h = refl
first_line (b ∷ w) s h =
    cond_no (eqb b (code "\n")) (record { content = []; ended = true } ∷ ended_by (code "\n") (w ++ (code "\n" ∷ s))) (on_first b (ended_by (code "\n") (w ++ (code "\n" ∷ s))))
    (not-true (eqb b (code "\n")) (and_left (in_line b) (every in_line w) h))
    ∙ ap (on_first b) (first_line w s (and_right (in_line b) (every in_line w) h))

pub lines_back : (sts : List Statement) → lines (gather end_line sts) ≡ map written_line sts
unfolding gather end_line lines ended_by
lines_back [] = refl
lines_back (st ∷ sts) =
    ap lines (append_assoc (write_line st) (code "\n" ∷ []) (gather end_line sts))
    ∙ first_line (write_line st) (gather end_line sts) (inside_line st) ∙ ap (λ (ls : List Line). written_line st ∷ ls) (lines_back sts)
