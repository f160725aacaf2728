-- Readers of published texts decide by the next byte, by sets of bytes that are lists: tokens and polynomials. Assumes nothing.
use mathlib.Core.Path.{◌≡◌, refl, sym, ap, ◌∙◌}
use mathlib.Core.Bool.{Bool, true, false, not, ◌&&◌, ◌||◌, cond}
use mathlib.Core.Logic.{⊎_elim}
use mathlib.Core.List.{[], ◌∷◌, ◌++◌}
use Prim.Native.Nat.{ℕ, ◌-◌}
use Prim.Native.Char.{code}
use native.Mathlib.Omega.{arith}
use lib.Dec.{eqb}
use lib.ListN.{length, length-append}
use borrow.Author.Tests.{eqb-true}
use Rattle.ground.specs.Lists.{every}
use Rattle.ground.proofs.Tests.{split, or_cases, or_none_left, or_none_right, and_left, and_right, cond_yes, cond_no}
use Rattle.paper.specs.Grammar.{Bytes, bytes, Read, got, stuck, Reader, next, give, is_digit, digits, literal, each, as_written}
use Rattle.paper.specs.Statement.{TermOf}
use Rattle.paper.specs.Published.{is_space, is_letter, spaces, token, symbol, constant, Name, name_rest, name, more_names, monomial, minus, more_monomials, poly}
use Rattle.paper.proofs.Reading.{clash, next_give, every_true}
use Rattle.paper.proofs.PublishedReading.{is_sign, signed_monomial, monomials_more, monomials_stuck, monomials_stop, monomials_end}
use Rattle.paper.proofs.Exact.{Halts, Exact, no_byte, only, either, Among, true_false, among_left, among_right, among_both, exact_wider, exact_same, exact_give, exact_next, IfNone}
use Rattle.paper.proofs.ExactBytes.{exact_led, exact_maybe, exact_many, exact_each, exact_literal, exact_map}
use Rattle.paper.proofs.ExactLines.{exact_digits}

-- ---- sets of bytes as lists: a computed test compares them
abbrev pub among : Bytes → ℕ → Bool
among [] b = false
among (c ∷ cs) b = eqb b c || among cs b

-- all other bytes
abbrev pub but : Bytes → ℕ → Bool
but cs b = not (among cs b)

-- what holds of each byte in a list holds of all that are among them
among_all : (p : ℕ → Bool) (cs : Bytes) → every p cs ≡ true → Among (among cs) p
unfolding every
among_all p [] h b e = absurd (true_false e refl)
among_all p (c ∷ cs) h b e =
    ⊎_elim (λ d. ap p (eqb-true b c d) ∙ and_left (p c) (every p cs) h) (among_all p cs (and_right (p c) (every p cs) h) b) (or_cases (eqb b c) (among cs b) e)

-- these are others, and the others of more are others of fewer
but_within : (p : ℕ → Bool) (cs : Bytes) → every (λ c. not (p c)) cs ≡ true → Among p (but cs)
but_within p cs h b e = ⊎_elim (λ d. absurd (true_false (among_all (λ c. not (p c)) cs h b d) (ap not e))) (λ d. ap not d) (split (among cs b))

but_fewer : (ds es : Bytes) → every (among ds) es ≡ true → Among (but ds) (but es)
but_fewer ds es h b e = ⊎_elim (λ d. absurd (true_false e (ap not (among_all (among ds) es h b d)))) (λ d. ap not d) (split (among es b))

among_append : (ss ts : Bytes) (b : ℕ) → among (ss ++ ts) b ≡ either (among ss) (among ts) b
among_append [] ts b = refl
among_append (c ∷ ss) ts b = go (eqb b c) (among_append ss ts b)
  where
    go : (t : Bool) → among (ss ++ ts) b ≡ (among ss b || among ts b) → (t || among (ss ++ ts) b) ≡ ((t || among ss b) || among ts b)
    go true e = refl
    go false e = e

-- none of `ends` goes on from what is read, and what is missing where nothing was taken begins with one of `starts`
pub record Decides {A : Type 0} (ends starts : Bytes) (read : Reader A) : Type 0 where
  pub exact : Exact (but ends) (among starts) read

-- a reader that stops at the end of a text never reads nothing
never_none : {A : Type 0} {read : Reader A} {goes starts : ℕ → Bool} → Exact goes starts read → {u : Bytes} → read [] ≡ stuck u → IfNone read ⊥
never_none {A} {read} exact n s x e = let a = exact.gets s x s e in go a.taken a.parts (a.reads [] tt)
  where
    go : (t : Bytes) → s ≡ t ++ s → read (t ++ []) ≡ got x [] → ⊥
    go [] p d = clash (sym n ∙ d)
    go (c ∷ t) p d = omega (arith, ap length p, length-append t s)

-- ---- one reader after the other
-- no byte with which the second begins goes on from the first, and none of `es` from either
abbrev pub fit : Bytes → Bytes → Bytes → Bytes → Bool
fit cs ts ds es = every (among cs) ts && (every (among cs) es && every (among ds) es)

module _ {A B : Type 0} {read : Reader A} {f : A → Reader B} {cs ds ss ts : Bytes} (es : Bytes) (h : fit cs ts ds es ≡ true) (d : Decides cs ss read) (e : (x : A) → Decides ds ts (f x)) where
  -- with bytes to begin with
  begun : (us : Bytes) → Among (among ss) (among us) → IfNone read (Among (among ts) (among us)) → Decides es us (λ s. next (read s) f)
  begun us i j =
      let fits : (every (among cs) es && every (among ds) es) ≡ true = and_right (every (among cs) ts) (every (among cs) es && every (among ds) es) h in
      let apart = among_all (among cs) ts (and_left (every (among cs) ts) (every (among cs) es && every (among ds) es) h) in
      let first = but_fewer cs es (and_left (every (among cs) es) (every (among ds) es) fits) in
      let second = but_fewer ds es (and_right (every (among cs) es) (every (among ds) es) fits) in
      record { exact = exact_next read f second (λ x s y q. first) (λ b q. ap not (apart b q)) i j d.exact (λ x. (e x).exact) }

  -- where the first may read nothing the second begins
  pub joined : Decides es (ss ++ ts) (λ s. next (read s) f)
  joined =
      begun (ss ++ ts) (λ b q. among_append ss ts b ∙ among_left (among ss) (among ts) b q)
      (λ s x q b r. among_append ss ts b ∙ among_right (among ss) (among ts) b r)

  -- the first never reads nothing
  pub followed : {u : Bytes} → read [] ≡ stuck u → Decides es ss (λ s. next (read s) f)
  followed n = begun ss (λ b q. q) (λ s x q. absurd (never_none d.exact n s x q))

pub gives : {A : Type 0} (es : Bytes) (x : A) → Decides es [] (give x)
gives es x = record { exact = exact_wider (but_within no_byte es (every_true es)) (λ b e. e) (exact_give x) }

-- what is read, seen in another way
pub seen : {A B : Type 0} {es ss : Bytes} {read : Reader A} (f : A → B) → Decides es ss read → Decides es ss (λ s. next (read s) (λ x. give (f x)))
seen {read = read} f d = record { exact = exact_map read d.exact f }

-- a reader that reads alike
pub reads_as : {A : Type 0} {es ss : Bytes} {read other : Reader A} → ((s : Bytes) → other s ≡ read s) → Decides es ss read → Decides es ss other
reads_as h d = record { exact = exact_same (λ s. sym (h s)) d.exact }

-- more bytes to begin with
pub wider : {A : Type 0} {es ss : Bytes} {read : Reader A} (us : Bytes) → every (among us) ss ≡ true → Decides es ss read → Decides es us read
wider {ss = ss} us h d = record { exact = exact_wider (λ b q. q) (among_all (among us) ss h) d.exact }

-- ---- what the first byte says
module _ {A : Type 0} (here : ℕ → Bool) (read : Reader A) where
  -- one of these must come first, c for example
  pub led : {es ss : Bytes} (c : ℕ) → here c ≡ true → ((z : Bytes) → Halts here z → read z ≡ stuck z) → ((b : ℕ) → here b ≡ true → Decides es ss (λ z. read (b ∷ z)))
      → Decides es (c ∷ []) read
  led {es} {ss} c h ends d =
      record {
        exact = exact_wider (λ b q. q) (λ b q. ap (λ (t : Bool). t || false) q)
            (exact_led here (λ b z. read (b ∷ z)) (λ b z l. refl) {goes = but es} {s₁ = λ b. among ss} (λ b l. (d b l).exact) ends c h);
      }

-- one of these may come first
pub maybe : {A : Type 0} (here : ℕ → Bool) (item : Reader A) (x : A) (read : Reader A) {es ss : Bytes} → every (λ c. not (here c)) es ≡ true → read [] ≡ got x []
    → ((b : ℕ) (z : Bytes) → read (b ∷ z) ≡ cond (here b) (item z) (got x (b ∷ z))) → Decides es ss item → Decides es [] read
maybe here item x read {es} {ss} h no_byte first d =
    record {
      exact = exact_wider (among_both (but_within here es h) (λ b q. q)) (λ b q. q)
          (exact_maybe here (λ b. item) (λ b z l. first b z ∙ cond_yes (here b) (item z) (got x (b ∷ z)) l) {goes = but es} {s₁ = λ b. among ss} (λ b l. d.exact) x rests);
    }
  where
    rests : (z : Bytes) → Halts here z → read z ≡ got x z
    rests [] h = no_byte
    rests (b ∷ z) h = first b z ∙ cond_no (here b) (item z) (got x (b ∷ z)) h

-- as many items as follow, each behind one of these
module _ {N X Y : Type 0} (read : N → Reader Y) (here : ℕ → Bool) (item : ℕ → Reader X) (step : N → ℕ → N) (join : X → Y → Y) (empty : N → Y)
    (led : (n : N) (b : ℕ) (z : Bytes) → here b ≡ true → read n (b ∷ z) ≡ next (item b z) (λ x r. next (read (step n b) r) (λ y t. got (join x y) t)))
    (rests : (n : N) (z : Bytes) → Halts here z → read n z ≡ got (empty n) z) where
  pub many : {es ss : Bytes} → every (λ c. not (here c)) es ≡ true → ((b : ℕ) → Decides es ss (item b)) → (n : N) → Decides es [] (read n)
  many {es} {ss} h d n =
      record {
        exact = exact_wider (among_both (but_within here es h) (λ b q. q)) (λ b q. q)
            (exact_many read here item step join empty led rests {goes = but es} {s₁ = λ b. among ss} (λ b l. (d b).exact) n);
      }

pub items : {A : Type 0} {es ss : Bytes} (c : ℕ) (item : Reader A) → every (λ b. not (eqb b c)) es ≡ true → Decides es ss item → Decides es [] (each c item)
items {es = es} c item h d = record { exact = exact_wider (among_both (but_within (only c) es h) (λ b q. q)) (λ b q. q) (exact_each c item d.exact) }

-- ---- tokens
-- bytes that do not go on from each kind: those with which what may follow begins
abbrev pub behind_spaces : Bytes
behind_spaces = bytes "x0(),*"

abbrev pub behind_constant : Bytes
behind_constant = bytes "x(),*"

abbrev pub behind_name : Bytes
behind_name = bytes "(),*"

abbrev pub behind_poly : Bytes
behind_poly = bytes "(),"

pub spaces_decide : Decides behind_spaces [] spaces
unfolding spaces bytes is_space every
spaces_decide = many (λ (_ : Unit {0}). spaces) is_space (λ b. give b) (λ n b. tt) (λ x y. y) (λ n. tt) more rests refl (λ b. gives behind_spaces b) tt
  where
    more : (n : Unit {0}) (b : ℕ) (z : Bytes) → is_space b ≡ true → spaces (b ∷ z) ≡ next (spaces z) (λ y t. got y t)
    more n b z h = cond_yes (is_space b) (spaces z) (got tt (b ∷ z)) h ∙ next_give (spaces z)

    rests : (n : Unit {0}) (z : Bytes) → Halts is_space z → spaces z ≡ got tt z
    rests n [] h = refl
    rests n (b ∷ z) h = cond_no (is_space b) (spaces z) (got tt (b ∷ z)) h

digits_decide : (n : ℕ) → Decides behind_constant [] (digits n)
unfolding bytes is_digit every
digits_decide n = record { exact = exact_wider (but_within is_digit behind_constant refl) (λ b q. q) (exact_digits n) }

rest_decide : Decides behind_name [] name_rest
unfolding name_rest bytes is_letter is_digit every
rest_decide = many (λ (_ : Unit {0}). name_rest) (λ b. is_letter b || is_digit b) (λ b. give b) (λ n b. tt) ◌∷◌ (λ n. []) more rests refl (λ b. gives behind_name b) tt
  where
    more : (n : Unit {0}) (b : ℕ) (z : Bytes) → (is_letter b || is_digit b) ≡ true → name_rest (b ∷ z) ≡ next (name_rest z) (λ y t. got (b ∷ y) t)
    more n b z h = cond_yes (is_letter b || is_digit b) (next (name_rest z) (λ y t. got (b ∷ y) t)) (got [] (b ∷ z)) h

    rests : (n : Unit {0}) (z : Bytes) → Halts (λ b. is_letter b || is_digit b) z → name_rest z ≡ got [] z
    rests n [] h = refl
    rests n (b ∷ z) h = cond_no (is_letter b || is_digit b) (next (name_rest z) (λ y t. got (b ∷ y) t)) (got [] (b ∷ z)) h

token_decides : {A : Type 0} {read : Reader A} {cs ss : Bytes} (es : Bytes) → fit cs [] behind_spaces es ≡ true → Decides cs ss read → Decides es (ss ++ []) (token read)
token_decides es h d = joined es h d (λ x. seen (λ _. x) spaces_decide)

pub symbol_decides : (c : ℕ) → Decides behind_spaces (c ∷ []) (symbol c)
unfolding every bytes
symbol_decides c = token_decides behind_spaces refl one
  where
    one : Decides behind_spaces (c ∷ []) (literal (c ∷ []))
    one = record { exact = exact_wider (but_within no_byte behind_spaces refl) (λ b q. ap (λ (t : Bool). t || false) q) (exact_literal (c ∷ [])) }

constant_behind : (b : ℕ) → is_digit b ≡ true → Decides behind_constant [] (λ z. constant (b ∷ z))
unfolding constant every bytes
constant_behind b h =
    reads_as (λ z. cond_yes (is_digit b) (token (digits (b - code "0")) z) (stuck (b ∷ z)) h) (token_decides behind_constant refl (digits_decide (b - code "0")))

pub constant_decides : Decides behind_constant (bytes "0") constant
unfolding constant is_digit bytes
constant_decides = led is_digit constant (code "0") refl ends constant_behind
  where
    ends : (z : Bytes) → Halts is_digit z → constant z ≡ stuck z
    ends [] h = refl
    ends (b ∷ z) h = cond_no (is_digit b) (token (digits (b - code "0")) z) (stuck (b ∷ z)) h

name_behind : (b : ℕ) → is_letter b ≡ true → Decides behind_name [] (λ z. name (b ∷ z))
unfolding name every bytes
name_behind b h =
    reads_as (λ z. cond_yes (is_letter b) (next (name_rest z) (λ n. token (give (b ∷ n)))) (stuck (b ∷ z)) h)
    (joined behind_name refl rest_decide (λ n. token_decides behind_name refl (gives behind_name (b ∷ n))))

name_ends : (z : Bytes) → Halts is_letter z → name z ≡ stuck z
unfolding name
name_ends [] h = refl
name_ends (b ∷ z) h = cond_no (is_letter b) (next (name_rest z) (λ n. token (give (b ∷ n)))) (stuck (b ∷ z)) h

pub name_decides : Decides behind_name (bytes "x") name
unfolding is_letter bytes
name_decides = led is_letter name (code "x") refl name_ends name_behind

-- ---- polynomials
names_decide : Decides behind_poly [] more_names
unfolding every bytes
names_decide = items (code "*") (λ s. next (spaces s) (λ _. name)) refl (joined behind_poly refl spaces_decide (λ _. name_decides))

module _ (minus : Bool) where
  abbrev behind_number : ℕ → Reader (TermOf Name)
  behind_number m = λ s. next (more_names s) (λ ns. give (record { negative = minus; magnitude = m; variables = ns }))

  abbrev behind_first : Name → Reader (TermOf Name)
  behind_first n = λ s. next (more_names s) (λ ns. give (record { negative = minus; magnitude = 1; variables = n ∷ ns }))

  monomial_behind : (b : ℕ) → (is_digit b || is_letter b) ≡ true → Decides behind_poly [] (λ z. monomial minus (b ∷ z))
  unfolding monomial every bytes
  monomial_behind b h = go (is_digit b) refl h
    where
      go : (t : Bool) → is_digit b ≡ t → (t || is_letter b) ≡ true → Decides behind_poly [] (λ z. monomial minus (b ∷ z))
      go true d h =
          reads_as (λ z. cond_yes (is_digit b) (next (constant (b ∷ z)) behind_number) (next (name (b ∷ z)) behind_first) d)
          (joined behind_poly refl (constant_behind b d) (λ m. seen (λ ns. record { negative = minus; magnitude = m; variables = ns }) names_decide))
      go false d h =
          reads_as (λ z. cond_no (is_digit b) (next (constant (b ∷ z)) behind_number) (next (name (b ∷ z)) behind_first) d)
          (joined behind_poly refl (name_behind b h) (λ n. seen (λ ns. record { negative = minus; magnitude = 1; variables = n ∷ ns }) names_decide))

  monomial_decides : Decides behind_poly (bytes "x") (monomial minus)
  unfolding monomial is_digit is_letter bytes
  monomial_decides = led (λ b. is_digit b || is_letter b) (monomial minus) (code "x") refl ends monomial_behind
    where
      ends : (z : Bytes) → Halts (λ b. is_digit b || is_letter b) z → monomial minus z ≡ stuck z
      ends [] h = refl
      ends (b ∷ z) h =
          cond_no (is_digit b) (next (constant (b ∷ z)) behind_number) (next (name (b ∷ z)) behind_first) (or_none_left (is_digit b) (is_letter b) h)
          ∙ ap (λ (r : Read Name). next r behind_first) (name_ends (b ∷ z) (or_none_right (is_digit b) (is_letter b) h))

minus_decides : Decides behind_spaces [] minus
unfolding minus every bytes
minus_decides = maybe (only (code "-")) (λ s. next (spaces s) (λ _. give true)) false minus refl refl (λ b z. refl) (seen (λ _. true) spaces_decide)

monomials_decide : Decides behind_poly [] more_monomials
unfolding every bytes
monomials_decide =
    many (λ (_ : Unit {0}). more_monomials) is_sign signed_monomial (λ n b. tt) ◌∷◌ (λ n. []) more rests refl
    (λ b. joined behind_poly refl spaces_decide (λ _. monomial_decides (eqb b (code "-")))) tt
  where
    more : (n : Unit {0}) (b : ℕ) (z : Bytes) → is_sign b ≡ true → more_monomials (b ∷ z) ≡ next (signed_monomial b z) (λ x r. next (more_monomials r) (λ xs t. got (x ∷ xs) t))
    more n b z h = go (signed_monomial b z) refl
      where
        go : (r : Read (TermOf Name)) → signed_monomial b z ≡ r → more_monomials (b ∷ z) ≡ next r (λ x r. next (more_monomials r) (λ xs t. got (x ∷ xs) t))
        go (got x r) e = monomials_more (b ∷ z) 0 (omega arith) h x r e
        go (stuck r) e = monomials_stuck (b ∷ z) 0 (omega arith) h r e

    rests : (n : Unit {0}) (z : Bytes) → Halts is_sign z → more_monomials z ≡ got [] z
    rests n [] h = monomials_end [] 0 (omega arith)
    rests n (b ∷ z) h = monomials_stop (b ∷ z) 0 (omega arith) h

pub poly_decides : Decides behind_poly (bytes "x") poly
unfolding poly every bytes
poly_decides = joined behind_poly refl minus_decides (λ n. joined behind_poly refl (monomial_decides n) (λ m. seen (as_written m) monomials_decide))
