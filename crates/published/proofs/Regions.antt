-- Ids, polynomials in the factor's region, factors, summands and the pair of a product. Assumes nothing.
use mathlib.Core.Path.{◌≡◌, refl, sym, ap, ap₂, ◌∙◌}
use mathlib.Core.Bool.{Bool, true, false, ◌&&◌, ◌||◌, not}
use mathlib.Core.List.{List, [], ◌∷◌, map}
use mathlib.Core.Logic.{⊎_elim}
use Prim.Native.Nat.{ℕ, ◌+◌, ◌-◌, ◌*◌, ◌≤◌}
use native.Mathlib.Numerals.{add-one}
use native.Mathlib.Omega.{arith}
use lib.Dec.{ltb}
use Rattle.std.proofs.Common.{Result, Ok}
use lib.ListN.{length, drop, get_or, replicate, length-map, drop_of_length-le}
use lib.Seq.{paste, drop-cons}
use borrow.Author.Tests.{eq-eqb, ne_eqb, ltb-false, not-true}
use borrow.Rule.Slice.PartMut.{put_mid}
use Rattle.ground.specs.Lists.{every, any, gather}
use Rattle.ground.proofs.Tests.{and_left, and_right, and_both, or_none_left, or_none_right}
use Rattle.limits.specs.Limits.{field_terms, term_words, set_words, greatest_index, greatest_magnitude}
use Rattle.limits.specs.Verdicts.{ACCEPTED, NUMBER, TERMS}
use Rattle.algebra.specs.Polynomial.{Term}
use Rattle.words.specs.Parts.{part, Within}
use Rattle.words.specs.Words.{number_of}
use Rattle.words.proofs.Parts.{put_part, put_within, within_wider}
use Rattle.terms.specs.Terms.{term_of, decode}
use Rattle.terms.proofs.Decode.{decode_part, decode_behind, behind_within}
use Rattle.paper.specs.Grammar.{Bytes, Reader, give}
use Rattle.paper.specs.Statement.{WrittenOf, PairOf, renamed_term, renamed_field, within, is_index, is_variable, is_term, in_range, too_many_terms, set_of}
use Rattle.paper.specs.Rules.{first}
use Rattle.paper.specs.Published.{Name, spaces, symbol, constant, poly, one, factor, summand, pair_of}
use Rattle.paper.specs.Named.{names_of}
use Rattle.written.specs.Worded.{signed_word, worded_term, worded, Holds}
use Rattle.reader.specs.Places.{Got}
use Rattle.reader.specs.Numbers.{InRange, OutOfRange}
use Rattle.reader.specs.Fields.{stands_at}
use Rattle.reader.specs.Verdicts.{verdict_of, lesser_of}
use Rattle.reader.specs.declared.stop.Stop.{Stop}
use Rattle.reader.proofs.Numbers.{within_yes}
use Rattle.reader.proofs.Following.{got_then, got_give}
use Rattle.reader.proofs.Fields.{stands, stands_not}
use Rattle.reader.proofs.Verdicts.{not_not, verdict_both, verdict_accepted, verdict_few, verdict_number, lesser_accepted}
use Rattle.names.specs.Names.{number_by, bad_by}
use Rattle.names.specs.Numbered.{held_by}
use Rattle.names.specs.declared.numbering.Numbering.{Numbering}
use Rattle.named.specs.Reads.{number_in, PolyAt, PolyIs}
use Rattle.named.specs.declared.poly.PolyRead.{PolyRead}
use Rattle.named.proofs.Naming.{any_append, number_variable, names_none}
use Rattle.scratch.specs.Scratch.{factor_at, goal_at}
use Rattle.published.specs.Pairs.{IdAt, field_ranged, field_few, summand_ranged, summand_few, PlacedAt, PlacedIs, FactorAt, FactorIs, in_parentheses, SummandAt, multiplied_pair, comma_poly}
use Rattle.published.specs.Statements.{unnumbered}
use Rattle.published.specs.declared.pairs.IdRead.{IdRead}
use Rattle.published.specs.declared.pairs.SummandRead.{SummandRead}
use Rattle.published.proofs.Commas.{stops_as, comma_got}

-- ---- ids
module _ {s : Bytes} {at : ℕ} where
  pub id_fine : {v e : ℕ} (x : ℕ) → x ≡ v → InRange constant 1 greatest_index s at v e → IdAt s at (record { value = x; end = e; why = ACCEPTED })
  unfolding is_index
  id_fine {v} x q r = record { value = v; taken = r.taken; verdict = rw (within_yes 1 greatest_index v r.above r.below); word = λ a. q }

  pub id_out : {e : ℕ} → OutOfRange constant 1 greatest_index s at e → IdAt s at (record { value = 0; end = e; why = NUMBER })
  unfolding is_index
  id_out o = record { value = o.value; taken = o.taken; verdict = rw o.outside; word = λ a. absurd (let z : ⊥ = omega arith in z) }

-- ---- the polynomial 1
module _ (s t r : List ℕ) (h : goal_at ≤ length s) (l : length t ≡ term_words) (e : r ≡ paste s factor_at t term_words) where
  pub one_holds : term_of t ≡ record { set = number_of (replicate set_words 0); coef = 1 } → (f : Name → ℕ) → Holds (renamed_field f one) 1 factor_at r
  unfolding renamed_field renamed_term worded worded_term signed_word set_of in_range every is_term too_many_terms number_of decode
  one_holds q f = record { run = decode_behind factor_at 0 s t r (omega arith) l e ∙ ap (λ (u : Term). u ∷ []) q; terms = refl; ranged = refl; short = refl }

  pub one_within : Within factor_at goal_at s r
  one_within = within_wider factor_at factor_at (factor_at + term_words) goal_at s r (omega arith) (omega arith) (behind_within factor_at 0 s t r (omega arith) l e)

-- ---- numbers of names that are not bad are variables, so that a field is in range where its coefficients are
variables_fit : (plain : Bool) (ms ns : List Name) → any (bad_by plain ms) ns ≡ false → every is_variable (map (number_by plain ms) ns) ≡ true
unfolding any every
variables_fit plain ms [] e = refl
variables_fit plain ms (n ∷ ns) e =
    and_both (is_variable (number_by plain ms n)) (every is_variable (map (number_by plain ms) ns))
    (number_variable plain ms n (or_none_left (bad_by plain ms n) (any (bad_by plain ms) ns) e))
    (variables_fit plain ms ns (or_none_right (bad_by plain ms n) (any (bad_by plain ms) ns) e))

field_fits : (plain : Bool) (ms : List Name) (q : WrittenOf Name) → any (bad_by plain ms) (names_of q) ≡ false → field_ranged q ≡ true → in_range (renamed_field (number_by plain ms) q) ≡ true
unfolding field_ranged names_of gather in_range renamed_field renamed_term is_term every
field_fits plain ms [] e r = refl
field_fits plain ms (t ∷ q) e r =
    let b : (any (bad_by plain ms) t.variables || any (bad_by plain ms) (names_of q)) ≡ false = sym (any_append (bad_by plain ms) t.variables (names_of q)) ∙ e in
    let m = within 1 greatest_magnitude t.magnitude in
    let z = every is_variable (map (λ n. 0) t.variables) in
    let rest = every is_term (map (renamed_term (λ n. 0)) q) in
    and_both (m && every is_variable (map (number_by plain ms) t.variables)) (every is_term (map (renamed_term (number_by plain ms)) q))
    (and_both m (every is_variable (map (number_by plain ms) t.variables)) (and_left m z (and_left (m && z) rest r))
    (variables_fit plain ms t.variables (or_none_left (any (bad_by plain ms) t.variables) (any (bad_by plain ms) (names_of q)) b)))
    (field_fits plain ms q (or_none_right (any (bad_by plain ms) t.variables) (any (bad_by plain ms) (names_of q)) b) (and_right (m && z) rest r))

-- ---- a polynomial in a region that was lent, and came back as y
module _ (old new : Numbering) (s : Bytes) (at : ℕ) (base : ℕ) (words y : List ℕ) (l : base + field_terms * term_words ≤ length words) where
  abbrev last : ℕ
  last = base + field_terms * term_words

  abbrev x : List ℕ
  x = put_mid base (last - base) words y

  module _ (r : PolyRead) (same : length y ≡ length (part base (last - base) words)) (h : PolyAt old new s at y r) where
    placed : field_ranged h.value ≡ true → field_few h.value ≡ true → r.why ≡ ACCEPTED → r.bad ≡ false
        → Holds (renamed_field (number_in new) h.value) r.terms base x
    unfolding too_many_terms field_few renamed_field
    placed a b w d =
        let f = number_in new in
        let many = length-map h.value (renamed_term f) in
        let short : too_many_terms (renamed_field (λ n. 0) h.value) ≡ false = not-true _ b in
        let most = ltb-false field_terms (length (map (renamed_term (λ n. 0)) h.value)) short in
        let few : r.terms ≤ field_terms = omega (arith, h.terms, most, length-map h.value (renamed_term unnumbered)) in
        record {
          run = sym (decode_part r.terms base (last - base) x (omega arith)) ∙ ap (decode r.terms) (put_part words y base last (omega arith) l same) ∙ h.run w d;
          terms = h.terms ∙ sym many;
          ranged = field_fits new.plain (held_by new) h.value (fine d) a;
          short = ap (λ (k : ℕ). ltb field_terms k) (many ∙ sym (length-map h.value (renamed_term unnumbered))) ∙ short;
        }
      where
        fine : r.bad ≡ false → any (bad_by new.plain (held_by new)) (names_of h.value) ≡ false
        fine d =
            ap₂ (λ (p : Bool) (ms : List Name). any (bad_by p ms) (names_of h.value)) h.names.plain (h.names.holds d) ∙ sym h.names.some ∙ d

    at_place : PlacedAt base poly old new s at x r
    unfolding field_ranged field_few
    at_place =
        let v : r.why ≡ verdict_of (field_ranged h.value) (field_few h.value)
        = h.verdict ∙ ap (λ (b : Bool). first ((NUMBER, not (field_ranged h.value)) ∷ (TERMS, b) ∷ [])) (not_not (too_many_terms (renamed_field (λ n. 0) h.value))) in
        record {
          value = h.value;
          taken = h.taken;
          verdict = v;
          holds = λ a b. placed (verdict_accepted _ (field_few h.value) (sym v ∙ a)) (verdict_few (field_ranged h.value) _ (sym v ∙ a)) a b;
          named = h.names;
        }

  pub poly_placed : (r : Result PolyRead Stop) → PolyIs old new s at (part base (last - base) words) y r → PlacedIs base poly old new s at words x r
  poly_placed r c = record {
    said = stops_as r c.said (λ e f. f) (λ q h. at_place q c.within.same h);
    kept = put_within words y base last (omega arith) l c.within.same;
  }

-- ---- in parentheses
pub in_both : {s : Bytes} {at opened j : ℕ} {old new : Numbering} {words' : List ℕ} {r : PolyRead} {e : ℕ} → Got spaces s at tt opened → Got (symbol 40) s opened tt j
    → FactorAt poly old new s j words' r → Got (symbol 41) s r.end tt e → FactorAt in_parentheses old new s at words' (record r { end = e })
in_both g k h b = record {
  value = h.value;
  taken = got_then spaces _ g (got_then (symbol 40) _ k (got_then poly _ h.taken (got_then (symbol 41) _ b (got_give h.value b.inside))));
  verdict = h.verdict;
  holds = h.holds;
  named = h.named;
}

-- ---- a factor, in parentheses behind a * or omitted
module _ (s : Bytes) (at : ℕ) where
  factor_star : stands_at s at 42 ≡ true → factor (drop at s) ≡ in_parentheses (drop (at + 1) s)
  unfolding factor
  factor_star q = let h = stands s at 42 q in rw (drop-cons s at 0 h.0, eq-eqb (get_or s at 0) 42 h.1, add-one at)

  factor_none : at ≤ length s → stands_at s at 42 ≡ false → Got factor s at one at
  unfolding factor
  factor_none l q =
      record { reads = ⊎_elim (λ h. rw (drop-cons s at 0 h.0, ne_eqb (get_or s at 0) 42 h.1)) (λ h. rw (drop_of_length-le s {i = at} h)) (stands_not s at 42 q); onward = omega arith; inside = l }

  module _ {words words' : List ℕ} where
    pub factor_behind : {old new : Numbering} (r : Result PolyRead Stop) → stands_at s at 42 ≡ true → FactorIs in_parentheses old new s (at + 1) words words' r
        → FactorIs factor old new s at words words' r
    factor_behind r q p =
        let v = factor_star q in
        record {
          said = stops_as r p.said
              (λ e f. let o = f.onward in record { reads = v ∙ f.reads; onward = omega arith; inside = f.inside })
              (λ x h. let o = h.taken.onward in record {
                value = h.value;
                taken = record { reads = v ∙ h.taken.reads; onward = omega arith; inside = h.taken.inside };
                verdict = h.verdict;
                holds = h.holds;
                named = h.named;
              });
          kept = p.kept;
        }

    pub factor_omitted : (names : Numbering) → at ≤ length s → stands_at s at 42 ≡ false → ((f : Name → ℕ) → Holds (renamed_field f one) 1 factor_at words') → Within factor_at goal_at words words'
        → FactorIs factor names names s at words words' (Ok (record { why = ACCEPTED; end = at; terms = 1; bad = false }))
    unfolding field_ranged field_few renamed_field renamed_term in_range every is_term too_many_terms first names_of gather
    factor_omitted names l q p w = record {
      said = record { value = one; taken = factor_none l q; verdict = refl; holds = λ a b. p (number_in names); named = names_none names };
      kept = w;
    }

-- ---- a summand
module _ {s : Bytes} {at : ℕ} where
  module _ {i : IdRead} (h : IdAt s at i) where
    abbrev paired : PolyRead → SummandRead
    paired f = record { index = i.value; terms = f.terms; end = f.end; why = lesser_of i.why f.why; bad = f.bad }

    pair_took : {read : Reader (PairOf Name)} {part : Reader (WrittenOf Name)} {j : ℕ} {old new : Numbering} {words' : List ℕ} (f : PolyRead)
        (g : FactorAt part old new s j words' f) → Got read s at (pair_of h.value g.value) f.end → SummandAt read old new s at words' (paired f)
    unfolding summand_ranged summand_few
    pair_took f g taken = record {
      value = pair_of h.value g.value;
      taken = taken;
      verdict =
          ap₂ lesser_of (h.verdict ∙ verdict_number (is_index h.value)) g.verdict
          ∙ sym (verdict_both (is_index h.value) (field_ranged g.value) true (field_few g.value));
      holds = λ a b. let z = lesser_accepted i.why f.why a in (h.word z.0, g.holds z.1 b);
      named = g.named;
    }

    pub summand_took : {old new : Numbering} {words' : List ℕ} {f : PolyRead} → FactorAt factor old new s i.end words' f → SummandAt summand old new s at words' (paired f)
    unfolding summand
    summand_took {f = f} g = pair_took f g (got_then constant _ h.taken (got_then factor _ g.taken (got_give (pair_of h.value g.value) g.taken.inside)))

    -- behind a comma
    pub product_took : {old new : Numbering} {words' : List ℕ} {f : PolyRead} → FactorAt comma_poly old new s i.end words' f → SummandAt multiplied_pair old new s at words' (paired f)
    product_took {f = f} g = pair_took f g (got_then constant _ h.taken (comma_got (λ q. give (pair_of h.value q)) g.taken (got_give (pair_of h.value g.value) g.taken.inside)))
