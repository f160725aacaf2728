-- Signs, variables, terms and polynomials as they are read at places of a line. Assumes nothing.
use mathlib.Core.Path.{◌≡◌, refl, sym, ap, subst, ◌∙◌}
use mathlib.Core.Bool.{Bool, true, false, ◌&&◌, cond}
use mathlib.Core.Logic.{◌⊎◌, inl, inr, ⊎_elim}
use mathlib.Core.List.{List, [], ◌∷◌, ◌++◌}
use Prim.Native.Nat.{ℕ, ◌+◌, ◌-◌, ◌%◌, ◌^◌, ◌≤◌, ◌<◌}
use Prim.Native.Char.{code}
use native.Mathlib.Nat.{add-zero}
use native.Mathlib.Numerals.{add-one}
use native.Mathlib.Omega.{arith}
use lib.Bits.{bit_or, or_comm}
use mir.Val.{bool_byte}
use lib.Dec.{eqb, leb, ltb}
use lib.ListN.{length, drop, get_or, replicate, drop_of_length-le}
use lib.Seq.{drop-cons}
use borrow.Author.Tests.{leb-true, le-leb, ltb-true, ltb-false, lt-ltb, le-ltb, eq-eqb, ne_eqb, eqb-true, eqb-false}
use Rattle.ground.specs.Lists.{gather}
use Rattle.ground.proofs.Tests.{bool_ext, split, and_left, and_right, and_both, cond_yes, cond_no}
use Rattle.limits.specs.Limits.{set_words, variables}
use Rattle.algebra.proofs.Unions.{or_assoc}
use Rattle.words.specs.Words.{number_of}
use Rattle.terms.specs.Terms.{term_of}
use Rattle.written.specs.Worded.{signed_word, worded_term}
use Rattle.paper.specs.Grammar.{Bytes, got, Reader, each, decimal, sign, term, more_variables}
use Rattle.paper.specs.Statement.{within, is_variable, set_of}
use Rattle.paper.specs.Spelling.{spell_number}
use Rattle.paper.proofs.Reading.{takes_decimal, each_stop, each_end}
use Rattle.reader.specs.Places.{Got, Fails}
use Rattle.reader.specs.Numbers.{InRange, OutOfRange}
use Rattle.reader.specs.Marks.{mark, variable_marks, term_marks}
use Rattle.reader.specs.Fields.{stands_at, Told, VariablesAt, MagnitudeIs, TermAt}
use Rattle.reader.specs.declared.term.Variables.{Variables}
use Rattle.reader.specs.declared.term.Magnitude.{Magnitude}
use Rattle.reader.specs.declared.stop.Stop.{Stop}
use Rattle.reader.proofs.Numbers.{within_yes}
use Rattle.std.proofs.Common.{Option, None, Some, Ok, Err}
use Rattle.std.specs.Option.{option_or}
use Rattle.std.proofs.lemmas.Option.{none-some}
use Rattle.reader.proofs.Widths.{decimal_ends}
use Rattle.reader.proofs.Marks.{told_none, told_then, told_fine, told_lead, neither_out, mark_fine, mark_outside, gather_last}
use Rattle.reader.proofs.Following.{got_then, got_give, fails_then, fails_first, ItemsUpTo, passed_none, passed_more, passed_stuck}

-- ---- a byte that stands at a place, or does not
module _ (s : Bytes) (at b : ℕ) where
  pub stands : stands_at s at b ≡ true → (at < length s) × (get_or s at 0 ≡ b)
  unfolding stands_at
  stands e =
      let l = ltb at (length s) in
      let f = eqb (get_or s at 0) b in
      (ltb-true at (length s) (and_left l f e), eqb-true (get_or s at 0) b (and_right l f e))

  pub stands_not : stands_at s at b ≡ false → ((at < length s) × (get_or s at 0 ≡ b → ⊥)) ⊎ (length s ≤ at)
  unfolding stands_at
  stands_not e =
      ⊎_elim
      (λ l. inl (ltb-true at (length s) l, eqb-false (get_or s at 0) b (sym (ap (λ (t : Bool). t && eqb (get_or s at 0) b) l) ∙ e)))
      (λ l. inr (ltb-false at (length s) l))
      (split (ltb at (length s)))

  pub stands_inside : at < length s → stands_at s at b ≡ eqb (get_or s at 0) b
  unfolding stands_at
  stands_inside l = ap (λ (t : Bool). t && eqb (get_or s at 0) b) (lt-ltb at (length s) l)

  pub stands_end : length s ≤ at → stands_at s at b ≡ false
  unfolding stands_at
  stands_end l = ap (λ (t : Bool). t && eqb (get_or s at 0) b) (le-ltb at (length s) l)

-- no item follows
pub each_over : {A : Type 0} (c : ℕ) (item : Reader A) (s : Bytes) (i : ℕ) → stands_at s i c ≡ false → each c item (drop i s) ≡ got [] (drop i s)
each_over c item s i e = ⊎_elim (λ h. each_stop c item s i h.0 h.1) (λ h. each_end c item s i h) (stands_not s i c e)

-- ---- signs
module _ (s : Bytes) (at : ℕ) where
  sign_here : at < length s → get_or s at 0 ≡ 45 → sign (drop at s) ≡ got true (drop (at + 1) s)
  unfolding sign
  sign_here h b = rw (drop-cons s at 0 h, eq-eqb (get_or s at 0) 45 b, add-one at)

  sign_not : at < length s → (get_or s at 0 ≡ 45 → ⊥) → sign (drop at s) ≡ got false (drop (at + 0) s)
  unfolding sign
  sign_not h b = rw (drop-cons s at 0 h, ne_eqb (get_or s at 0) 45 b, add-zero at) (sym (ap (got false) (drop-cons s at 0 h)))

  sign_end : length s ≤ at → sign (drop at s) ≡ got false (drop (at + 0) s)
  unfolding sign
  sign_end h = rw (add-zero at, drop_of_length-le s h)

  pub sign_at : (b : Bool) → at ≤ length s → b ≡ stands_at s at 45 → Got sign s at b (at + cond b 1 0)
  sign_at true l e =
      let h = stands s at 45 (sym e) in
      let i = h.0 in
      record { reads = sign_here h.0 h.1; onward = omega arith; inside = omega arith }
  sign_at false l e =
      record {
        reads = ⊎_elim (λ h. sign_not h.0 h.1) (λ h. sign_end h) (stands_not s at 45 (sym e));
        onward = omega arith;
        inside = omega arith;
      }

pub sign_byte : (b : Bool) → bool_byte b ≡ cond b 1 0
sign_byte true = refl
sign_byte false = refl

pub signed_negative : (b : Bool) (c r : ℕ) → b ≡ true → r ≡ (2 ^ 64 - c) % 2 ^ 64 → r ≡ signed_word b c
unfolding signed_word
signed_negative b c r e q = q ∙ sym (cond_yes b ((2 ^ 64 - c) % 2 ^ 64) c e)

pub signed_positive : (b : Bool) (c : ℕ) → b ≡ false → c ≡ signed_word b c
unfolding signed_word
signed_positive b c e = sym (cond_no b ((2 ^ 64 - c) % 2 ^ 64) c e)

-- ---- numbers
module _ (low high : ℕ) (s : Bytes) (at before : ℕ) where
  pub number_fine : {v e : ℕ} (i : ℕ) → i ≡ at + before → InRange decimal low high s i v e → Told (mark (within low high) before v ∷ []) at e None
  number_fine {v} {e} i h r =
      mark_fine (within low high) before v (omega (arith, decimal_ends s i v e r.taken)) (within_yes low high v r.above r.below)

  pub number_outside : {e : ℕ} (i : ℕ) → i ≡ at + before → (r : OutOfRange decimal low high s i e)
      → Told (mark (within low high) before r.value ∷ []) at e (Some (i + 1))
  number_outside {e} i h r =
      subst (λ (k : ℕ). Told (mark (within low high) before r.value ∷ []) at e (Some (k + 1))) (sym h)
      (mark_outside (within low high) before r.value (omega (arith, decimal_ends s i r.value e r.taken)) r.outside)

-- ---- variables
pub variable_range : (v : ℕ) → within 0 (variables - 1) v ≡ is_variable v
unfolding is_variable
variable_range v =
    bool_ext (within 0 (variables - 1) v) (ltb v variables)
    (λ t. lt-ltb v variables (omega (arith, leb-true v (variables - 1) (and_right (leb 0 v) (leb v (variables - 1)) t))))
    (λ t. and_both (leb 0 v) (leb v (variables - 1)) (le-leb 0 v (omega arith)) (le-leb v (variables - 1) (omega (arith, ltb-true v variables t))))

variable_mark : (v : ℕ) → mark (within 0 (variables - 1)) 1 v ≡ mark is_variable 1 v
unfolding mark
variable_mark v = λ i. record { before = 1; width = length (spell_number v); fine = variable_range v i }

pub set_of_more : (vs : List ℕ) (v : ℕ) → set_of (vs ++ (v ∷ [])) ≡ bit_or (2 ^ v) (set_of vs)
unfolding set_of
set_of_more [] v = refl
set_of_more (u ∷ vs) v =
    ap (bit_or (2 ^ u)) (set_of_more vs v)
    ∙ sym (or_assoc (2 ^ u) (2 ^ v) (set_of vs))
    ∙ ap (λ (x : ℕ). bit_or x (set_of vs)) (or_comm (2 ^ u) (2 ^ v))
    ∙ or_assoc (2 ^ v) (2 ^ u) (set_of vs)

-- variables stand from at up to i
abbrev pub VariablesTo : Bytes → ℕ → List ℕ → Option ℕ → ℕ → Type 0
VariablesTo s at set outside i = ItemsUpTo (code ".") decimal (λ vs. Told (variable_marks vs) at i outside × (outside ≡ None → number_of set ≡ set_of vs)) s at i

pub variables_none : (s : Bytes) (at : ℕ) → at ≤ length s → VariablesTo s at (replicate set_words 0) None at
unfolding variable_marks gather number_of set_of
variables_none s at h = passed_none (code ".") decimal s at h (told_none at, λ e. refl)

-- the marks with one variable more, behind a dot
one_variable : (vs : List ℕ) (v : ℕ) {at e : ℕ} {o : Option ℕ} → Told (variable_marks vs ++ (mark (within 0 (variables - 1)) 1 v ∷ [])) at e o
    → Told (variable_marks (vs ++ (v ∷ []))) at e o
unfolding variable_marks
one_variable vs v t = rw (gather_last (λ v. mark is_variable 1 v ∷ []) vs v, ← variable_mark v) t

module _ (s : Bytes) (at i : ℕ) (outside : Option ℕ) (set : List ℕ) (p : VariablesTo s at set outside i) (here : stands_at s i (code ".") ≡ true) where
  pub variables_more : {v e : ℕ} (set' : List ℕ) → InRange decimal 0 (variables - 1) s (i + 1) v e → number_of set' ≡ bit_or (2 ^ v) (number_of set)
      → VariablesTo s at set' outside e
  variables_more {v} set' r q =
      passed_more (code ".") decimal s at i p (stands s i (code ".") here).0 (stands s i (code ".") here).1 takes_decimal r.taken
      (λ vs k. (
        one_variable vs v (told_fine k.0 (number_fine 0 (variables - 1) s i 1 (i + 1) refl r)),
        λ e. q ∙ ap (bit_or (2 ^ v)) (k.1 e) ∙ sym (set_of_more vs v),
      ))

  pub variables_out : {e : ℕ} → OutOfRange decimal 0 (variables - 1) s (i + 1) e → VariablesTo s at set (option_or outside (Some (i + 2))) e
  variables_out r =
      let e : i + 2 ≡ i + 1 + 1 = omega arith in
      passed_more (code ".") decimal s at i p (stands s i (code ".") here).0 (stands s i (code ".") here).1 takes_decimal r.taken
      (λ vs k. (
        rw e (one_variable vs r.value (told_then k.0 (number_outside 0 (variables - 1) s i 1 (i + 1) refl r))),
        λ z. absurd (none-some (i + 2) (sym (neither_out outside (Some (i + 2)) z).1)),
      ))

  pub variables_stuck : {q : ℕ} → Fails decimal s (i + 1) q → Fails more_variables s at q
  variables_stuck f = passed_stuck (code ".") decimal s at i p (stands s i (code ".") here).0 (stands s i (code ".") here).1 f

-- ---- magnitudes
module _ (greatest : ℕ) (s : Bytes) (at i : ℕ) (negative : Bool) (h : i ≡ at + cond negative 1 0) (g : Got sign s at negative (at + cond negative 1 0)) where
  pub magnitude_fine : {m e : ℕ} (coefficient : ℕ) → InRange decimal 1 greatest s i m e → coefficient ≡ signed_word negative m
      → MagnitudeIs greatest s at (Ok (record { coefficient = coefficient; end = e; outside = None }))
  magnitude_fine {m} c r q = record {
    negative = negative;
    signed = g;
    size = record {
      value = m;
      taken = rw (← h) r.taken;
      told = number_fine 1 greatest s (at + cond negative 1 0) 0 i (h ∙ sym (add-zero (at + cond negative 1 0))) r;
      holds = λ e. q;
    };
  }

  pub magnitude_outside : {e : ℕ} → OutOfRange decimal 1 greatest s i e
      → MagnitudeIs greatest s at (Ok (record { coefficient = 0; end = e; outside = Some (i + 1) }))
  magnitude_outside r = record {
    negative = negative;
    signed = g;
    size = record {
      value = r.value;
      taken = rw (← h) r.taken;
      told = number_outside 1 greatest s (at + cond negative 1 0) 0 i (h ∙ sym (add-zero (at + cond negative 1 0))) r;
      holds = λ z. absurd (none-some (i + 1) (sym z));
    };
  }

  pub magnitude_stuck : {e : Stop} → Fails decimal s i e.at → MagnitudeIs greatest s at (Err e)
  magnitude_stuck f = record { negative = negative; signed = g; size = rw (← h) f }

-- ---- terms
term_got : {s : Bytes} {at i j e magnitude : ℕ} {negative : Bool} {variables : List ℕ} → Got sign s at negative i → Got decimal s i magnitude j
    → Got more_variables s j variables e → Got term s at (record { negative = negative; magnitude = magnitude; variables = variables }) e
unfolding term
term_got g h k = got_then sign _ g (got_then decimal _ h (got_then more_variables _ k (got_give _ k.inside)))

module _ (greatest : ℕ) (s : Bytes) (at : ℕ) where
  pub term_stuck : {e : Stop} → MagnitudeIs greatest s at (Err e) → Fails term s at e.at
  unfolding term
  term_stuck h = fails_then sign _ h.signed (fails_first decimal _ h.size)

  module _ (m : Magnitude) (h : MagnitudeIs greatest s at (Ok m)) where
    pub names_stuck : {p : ℕ} → Fails more_variables s m.end p → Fails term s at p
    unfolding term
    names_stuck f = fails_then sign _ h.signed (fails_then decimal _ h.size.taken (fails_first more_variables _ f))

    module _ (vs : Variables) (k : VariablesAt s m.end vs) where
      pub term_took : (words : List ℕ) → term_of words ≡ record { set = number_of vs.set; coef = m.coefficient }
          → TermAt greatest s at (record { term = words; end = vs.end; outside = option_or m.outside vs.outside })
      unfolding term_marks worded_term
      term_took words q =
          let x = h.size in
          record {
            value = record { negative = h.negative; magnitude = x.value; variables = k.value };
            taken = term_got h.signed x.taken k.taken;
            told = told_then (told_lead (within 1 greatest) 0 (0 + cond h.negative 1 0) (cond h.negative 1 0) x.value [] (omega arith) x.told) k.told;
            holds = λ a.
                let b = neither_out m.outside vs.outside a in
                q ∙ (λ i. record { set = k.holds b.1 i; coef = x.holds b.0 i });
          }
