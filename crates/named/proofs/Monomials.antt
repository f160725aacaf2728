-- Monomials as they are read: a constant or a name, and the names behind it. Assumes nothing.
use mathlib.Core.Path.{◌≡◌, refl, sym, ap, ap₂, ◌∙◌}
use mathlib.Core.Bool.{Bool, true, false, ◌&&◌, ◌||◌}
use mathlib.Core.List.{List, [], ◌∷◌, map}
use mathlib.Core.Logic.{⊎_elim}
use Prim.Native.Nat.{ℕ, ◌+◌, ◌^◌, ◌≤◌}
use Prim.Native.Char.{code}
use native.Mathlib.Numerals.{add-one}
use native.Mathlib.Omega.{arith}
use lib.Bits.{bit_or, or_zero_l, or_zero_r}
use lib.Dec.{eqb}
use lib.ListN.{length, drop, get_or, replicate, length-drop, drop_of_length-le}
use lib.Seq.{drop-cons}
use borrow.Author.Tests.{eqb-true, eq-eqb, ne_eqb}
use Rattle.ground.proofs.Tests.{bool_ext, or_none_left, or_none_right}
use Rattle.std.specs.Prelude.{is_none}
use Rattle.limits.specs.Limits.{set_words}
use Rattle.limits.specs.Verdicts.{ACCEPTED}
use Rattle.algebra.specs.Polynomial.{Term}
use Rattle.words.specs.Words.{number_of}
use Rattle.terms.specs.Terms.{term_of}
use Rattle.written.specs.Worded.{signed_word, worded_term}
use Rattle.paper.specs.Grammar.{Bytes, got, Reader, ◌>>=◌, give, is_digit}
use Rattle.paper.specs.Statement.{TermOf, set_of, renamed_term}
use Rattle.paper.specs.Published.{Name, spaces, constant, name, more_names, monomial, minus}
use Rattle.paper.proofs.Reading.{each_none}
use Rattle.paper.proofs.Pieces.{each_empty}
use Rattle.paper.proofs.PublishedReading.{takes_factor, monomial_constant, monomial_name, monomial_end}
use Rattle.reader.specs.Places.{Got, Fails}
use Rattle.reader.specs.Fields.{stands_at}
use Rattle.reader.proofs.Following.{got_then, got_give, fails_then, fails_first}
use Rattle.reader.proofs.Fields.{stands, stands_not}
use Rattle.names.specs.declared.numbering.Numbering.{Numbering}
use Rattle.named.specs.Reads.{is_at, number_in, NameAt, NamesAt, ConstantAt, MonomialAt}
use Rattle.named.specs.declared.name.NameRead.{NameRead}
use Rattle.named.specs.declared.monomial.NamesRead.{NamesRead}
use Rattle.named.specs.declared.monomial.ConstantRead.{ConstantRead}
use Rattle.named.proofs.Tokens.{got_as, fails_as, is_here, is_not}
use Rattle.named.proofs.Naming.{in_first, names_then, number_stays}
use Rattle.named.proofs.Factors.{next_name, WithNumber, numbered}

-- ---- a sign before the first monomial
module _ (s : Bytes) (at : ℕ) where
  pub minus_here : {e : ℕ} → stands_at s at 45 ≡ true → Got spaces s (at + 1) tt e → Got minus s at true e
  unfolding minus
  minus_here q g =
      let h = stands s at 45 q in
      let o = g.onward in
      let t = got_then spaces _ g (got_give true g.inside) in
      record { reads = rw (drop-cons s at 0 h.0, eq-eqb (get_or s at 0) 45 h.1, ← add-one at) t.reads; onward = omega arith; inside = g.inside }

  pub minus_not : at ≤ length s → stands_at s at 45 ≡ false → Got minus s at false at
  unfolding minus
  minus_not l q =
      record { reads = ⊎_elim (λ h. rw (drop-cons s at 0 h.0, ne_eqb (get_or s at 0) 45 h.1)) (λ h. rw (drop_of_length-le s {i = at} h)) (stands_not s at 45 q); onward = omega arith; inside = l }

-- ---- behind a constant
same_term : {x y a b : ℕ} → x ≡ y → a ≡ b → ◌≡◌ {A = Term} (record { set = x; coef = a }) (record { set = y; coef = b })
same_term p q = λ i. record { set = p i; coef = q i }

-- no name was read where nothing was taken
none_taken : (s : Bytes) (i e : ℕ) (ns : List Name) → Got more_names s i ns e → eqb e i ≡ eqb (length ns) 0
none_taken s i e ns g =
    bool_ext (eqb e i) (eqb (length ns) 0)
    (λ t. eq-eqb (length ns) 0 (ap length (each_none (code "*") next_name takes_factor refl (drop i s) ns (g.reads ∙ ap (λ (k : ℕ). got ns (drop k s)) (eqb-true e i t)))))
    (λ t. eq-eqb e i (none ns g.reads (eqb-true (length ns) 0 t)))
  where
    none : (ns : List Name) → more_names (drop i s) ≡ got ns (drop e s) → length ns ≡ 0 → e ≡ i
    none [] q z =
        let o = g.onward in
        let k = g.inside in
        omega (arith, ap length (each_empty (code "*") next_name (drop i s) (drop e s) q), length-drop i s, length-drop e s)
    none (m ∷ ns) q z = absurd (let y : ⊥ = omega arith in y)

module _ (negative : Bool) (s : Bytes) (at : ℕ) (d : is_at is_digit s at ≡ true) where
  with_constant : Reader (TermOf Name)
  with_constant = do m ← constant; ns ← more_names; give (record { negative = negative; magnitude = m; variables = ns })

  by_constant : monomial negative (drop at s) ≡ with_constant (drop at s)
  unfolding with_constant
  by_constant = let k = is_here is_digit s at d in monomial_constant negative s at k.0 k.1

  pub constant_stops : {p : ℕ} → Fails constant s at p → Fails (monomial negative) s at p
  unfolding with_constant
  constant_stops f = fails_as (monomial negative) with_constant by_constant (fails_first constant _ f)

  module _ (c : ConstantRead) (h : ConstantAt s at c) where
    pub factors_stop : {p : ℕ} → Fails more_names s c.end p → Fails (monomial negative) s at p
    unfolding with_constant
    factors_stop f = fails_as (monomial negative) with_constant by_constant (fails_then constant _ h.taken (fails_first more_names _ f))

    pub constant_took : (old new : Numbering) (vs : NamesRead) → NamesAt old new s c.end (number_of (replicate set_words 0)) vs → (coef : ℕ) → coef ≡ signed_word negative c.value
        → (words : List ℕ) → term_of words ≡ record { set = number_of vs.set; coef = coef }
        → MonomialAt old new negative s at (record { term = words; end = vs.end; why = c.why; zero = c.zero && eqb vs.end c.end; bad = vs.bad })
    unfolding with_constant number_of worded_term renamed_term
    constant_took old new vs k coef ec words q = record {
      value = record { negative = negative; magnitude = h.value; variables = k.value };
      taken = got_as (monomial negative) with_constant by_constant (got_then constant _ h.taken (got_then more_names _ k.taken (got_give _ k.taken.inside)));
      sign = refl;
      verdict = h.verdict;
      zero = ap₂ ◌&&◌ h.zero (none_taken s c.end vs.end k.value k.taken);
      term = λ a b. q ∙ same_term (k.set b ∙ or_zero_l (set_of (map (number_in new) k.value))) (ec ∙ ap (signed_word negative) (h.word a));
      names = k.names;
    }

-- ---- of names
module _ (negative : Bool) (s : Bytes) (at : ℕ) (d : is_at is_digit s at ≡ false) where
  of_names : Reader (TermOf Name)
  of_names = do n ← name; ns ← more_names; give (record { negative = negative; magnitude = 1; variables = n ∷ ns })

  by_names : monomial negative (drop at s) ≡ of_names (drop at s)
  unfolding of_names
  by_names = ⊎_elim (λ h. monomial_name negative s at h.0 h.1) (λ h. monomial_end negative s at h) (is_not is_digit s at d)

  pub name_stops : {p : ℕ} → Fails name s at p → Fails (monomial negative) s at p
  unfolding of_names
  name_stops f = fails_as (monomial negative) of_names by_names (fails_first name _ f)

  module _ (old mid : Numbering) (v : NameRead) (h : NameAt old mid s at v) where
    pub names_stop : {p : ℕ} → Fails more_names s v.end p → Fails (monomial negative) s at p
    unfolding of_names
    names_stop f = fails_as (monomial negative) of_names by_names (fails_then name _ h.taken (fails_first more_names _ f))

    pub names_took : (new : Numbering) (one : List ℕ) → WithNumber v.number (replicate set_words 0) one
        → (vs : NamesRead) → NamesAt mid new s v.end (number_of one) vs → (coef : ℕ) → coef ≡ signed_word negative 1
        → (words : List ℕ) → term_of words ≡ record { set = number_of vs.set; coef = coef }
        → MonomialAt old new negative s at (record { term = words; end = vs.end; why = ACCEPTED; zero = false; bad = is_none v.number || vs.bad })
    unfolding of_names number_of worded_term renamed_term set_of
    names_took new one eo vs k coef ec words q = record {
      value = record { negative = negative; magnitude = 1; variables = h.value ∷ k.value };
      taken = got_as (monomial negative) of_names by_names (got_then name _ h.taken (got_then more_names _ k.taken (got_give _ k.taken.inside)));
      sign = refl;
      verdict = refl;
      zero = refl;
      term = λ a b.
          let x = or_none_left (is_none v.number) vs.bad b in
          let y = or_none_right (is_none v.number) vs.bad b in
          let n = numbered v.number x in
          let number : n.0 ≡ number_in new h.value = h.number n.0 n.1 ∙ sym (number_stays h.names k.names x y h.value (in_first h.value [])) in
          let first : number_of one ≡ 2 ^ number_in new h.value = eo n.0 n.1 ∙ or_zero_r (2 ^ n.0) ∙ ap (λ (i : ℕ). 2 ^ i) number in
          q ∙ same_term (k.set y ∙ ap (λ (x : ℕ). bit_or x (set_of (map (number_in new) k.value))) first) ec;
      names = names_then h.names k.names;
    }
