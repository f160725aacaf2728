-- A statement of names and the same of numbers: what a line can say of them, and, bad names aside, which rules refuse them. Assumes nothing.
use mathlib.Core.Path.{◌≡◌, refl, sym, ap, ap₂, ◌∙◌}
use mathlib.Core.Bool.{Bool, true, false, ◌&&◌, ◌||◌, not, cond}
use mathlib.Core.List.{List, [], ◌∷◌, ◌++◌, map}
use Prim.Native.Nat.{ℕ}
use lib.Dec.{ltb}
use lib.ListN.{length, length-map}
use borrow.Author.Tests.{not-false}
use Rattle.ground.specs.Lists.{any, every, gather}
use Rattle.ground.proofs.Tests.{and_both, or_none_left, or_none_right}
use Rattle.limits.specs.Limits.{name_bytes, greatest_magnitude, field_terms}
use Rattle.limits.specs.Verdicts.{ACCEPTED, NUMBER, TERMS, NAMES}
use Rattle.paper.specs.Statement.{TermOf, WrittenOf, PairOf, StatementOf, Written, Pair, ring, input, goal, lin, del, ext, renamed_term, renamed_field, renamed_pair, renamed, new_index, named_indices, fields, within, is_index, is_variable, is_term, in_range, numbers_in_range, too_many_terms}
use Rattle.paper.specs.Rules.{first, written_rules}
use Rattle.paper.specs.Answer.{index_of}
use Rattle.paper.specs.Published.{Name, Named}
use Rattle.paper.specs.Named.{names_of, names_in, bad_name, named_rules}
use Rattle.paper.proofs.Pieces.{is_zero}
use Rattle.paper.proofs.ReadBack.{bare_zero}
use Rattle.paper.proofs.LinesBack.{good_pair, good_pairs, has_line}

-- ---- what a line can say does not hang on the names
module _ {A B : Type 0} (f : A → B) where
  bare_renamed : (p : WrittenOf A) → bare_zero (renamed_field f p) ≡ bare_zero p
  unfolding renamed_field renamed_term bare_zero
  bare_renamed [] = refl
  bare_renamed (t ∷ []) = go t.variables
    where
      go : (vs : List A) → is_zero (record { negative = t.negative; magnitude = t.magnitude; variables = map f vs })
          ≡ is_zero (record { negative = t.negative; magnitude = t.magnitude; variables = vs })
      go [] = refl
      go (v ∷ vs) = refl
  bare_renamed (t ∷ u ∷ ts) = refl

  pairs_renamed : (qs : List (PairOf A)) → every good_pair (map (renamed_pair f) qs) ≡ every good_pair qs
  unfolding every renamed_pair
  pairs_renamed [] = refl
  pairs_renamed (q ∷ qs) = ap₂ (λ (x y : Bool). not x && y) (bare_renamed q.factor) (pairs_renamed qs)

  pub line_renamed : (st : StatementOf A) → has_line (renamed f st) ≡ has_line st
  unfolding has_line renamed good_pairs
  line_renamed (ring r) = refl
  line_renamed (input i p) = ap not (bare_renamed p)
  line_renamed (goal p) = ap not (bare_renamed p)
  line_renamed (lin i p []) = ap (λ (b : Bool). not b && false) (bare_renamed p)
  line_renamed (lin i p (q ∷ qs)) = ap₂ (λ (x y : Bool). not x && y) (bare_renamed p) (pairs_renamed (q ∷ qs))
  line_renamed (del i) = refl
  line_renamed (ext i v p) = ap not (bare_renamed p)

-- ---- nor does the index, or how many terms there are
abbrev all_factors : List Pair → List Written
all_factors qs = map (λ q. q.factor) qs

module _ {A : Type 0} (f g : A → ℕ) where
  pub index_same : (st : StatementOf A) → index_of (renamed f st) ≡ index_of (renamed g st)
  unfolding index_of renamed
  index_same (ring r) = refl
  index_same (input i p) = refl
  index_same (goal p) = refl
  index_same (lin i p qs) = refl
  index_same (del i) = refl
  index_same (ext i v p) = refl

  many_field : (p : WrittenOf A) → too_many_terms (renamed_field f p) ≡ too_many_terms (renamed_field g p)
  unfolding too_many_terms renamed_field
  many_field p = ap (ltb field_terms) (length-map p (renamed_term f) ∙ sym (length-map p (renamed_term g)))

  many_factors : (qs : List (PairOf A)) → any too_many_terms (all_factors (map (renamed_pair f) qs)) ≡ any too_many_terms (all_factors (map (renamed_pair g) qs))
  unfolding any renamed_pair
  many_factors [] = refl
  many_factors (q ∷ qs) = ap₂ ◌||◌ (many_field q.factor) (many_factors qs)

  pub many_same : (st : StatementOf A) → any too_many_terms (fields (renamed f st)) ≡ any too_many_terms (fields (renamed g st))
  unfolding any fields renamed
  many_same (ring r) = refl
  many_same (input i p) = ap (λ (b : Bool). b || false) (many_field p)
  many_same (goal p) = ap (λ (b : Bool). b || false) (many_field p)
  many_same (lin i p qs) = ap₂ ◌||◌ (many_field p) (many_factors qs)
  many_same (del i) = refl
  many_same (ext i v p) = ap (λ (b : Bool). b || false) (many_field p)

-- ---- names that are not bad have numbers in range
any_append : {A : Type 0} (g : A → Bool) (xs ys : List A) → any g (xs ++ ys) ≡ (any g xs || any g ys)
unfolding any
any_append g [] ys = refl
any_append g (x ∷ xs) ys = go (g x) (any_append g xs ys)
  where
    go : (b : Bool) → any g (xs ++ ys) ≡ (any g xs || any g ys) → (b || any g (xs ++ ys)) ≡ ((b || any g xs) || any g ys)
    go true ih = refl
    go false ih = ih

-- none in a row is none in either part
pub none_append : {A : Type 0} (g : A → Bool) (xs ys : List A) → any g (xs ++ ys) ≡ false → (any g xs ≡ false) × (any g ys ≡ false)
none_append g xs ys e =
    let d : (any g xs || any g ys) ≡ false = sym (any_append g xs ys) ∙ e in
    (or_none_left (any g xs) (any g ys) d, or_none_right (any g xs) (any g ys) d)

abbrev zeroed : Name → ℕ
zeroed n = 0

zeroed_in_range : (ns : List Name) → every is_variable (map zeroed ns) ≡ true
unfolding every is_variable
zeroed_in_range [] = refl
zeroed_in_range (n ∷ ns) = zeroed_in_range ns

module _ (f : Name → ℕ) where
  abbrev pub NoneBad : List Name → Type 0
  NoneBad ns = any (bad_name f) ns ≡ false

  variable_good : (n : Name) → bad_name f n ≡ false → is_variable (f n) ≡ true
  unfolding bad_name
  variable_good n e = not-false (is_variable (f n)) (or_none_right (ltb name_bytes (length n)) (not (is_variable (f n))) e)

  variables_good : (ns : List Name) → NoneBad ns → every is_variable (map f ns) ≡ true
  unfolding any every
  variables_good [] e = refl
  variables_good (n ∷ ns) e =
      and_both (is_variable (f n)) (every is_variable (map f ns)) (variable_good n (or_none_left (bad_name f n) (any (bad_name f) ns) e))
      (variables_good ns (or_none_right (bad_name f n) (any (bad_name f) ns) e))

  term_range : (t : TermOf Name) → NoneBad t.variables → is_term (renamed_term f t) ≡ is_term (renamed_term zeroed t)
  unfolding is_term renamed_term
  term_range t e = ap (λ (b : Bool). within 1 greatest_magnitude t.magnitude && b) (variables_good t.variables e ∙ sym (zeroed_in_range t.variables))

  field_range : (p : WrittenOf Name) → NoneBad (names_of p) → in_range (renamed_field f p) ≡ in_range (renamed_field zeroed p)
  unfolding names_of gather in_range every renamed_field
  field_range [] e = refl
  field_range (t ∷ p) e =
      let d = none_append (bad_name f) t.variables (names_of p) e in
      ap₂ ◌&&◌ (term_range t d.0) (field_range p d.1)

  factors_range : (qs : List (PairOf Name)) → NoneBad (gather (λ q. names_of q.factor) qs)
      → every in_range (all_factors (map (renamed_pair f) qs)) ≡ every in_range (all_factors (map (renamed_pair zeroed) qs))
  unfolding gather every renamed_pair
  factors_range [] e = refl
  factors_range (q ∷ qs) e =
      let d = none_append (bad_name f) (names_of q.factor) (gather (λ q. names_of q.factor) qs) e in
      ap₂ ◌&&◌ (field_range q.factor d.0) (factors_range qs d.1)

  indices_same : (qs : List (PairOf Name)) → map (λ q. q.index) (map (renamed_pair f) qs) ≡ map (λ q. q.index) (map (renamed_pair zeroed) qs)
  unfolding renamed_pair
  indices_same [] = refl
  indices_same (q ∷ qs) = ap (λ (is : List ℕ). q.index ∷ is) (indices_same qs)

  pub numbers_same : (st : Named) → NoneBad (names_in st) → numbers_in_range (renamed f st) ≡ numbers_in_range (renamed zeroed st)
  unfolding names_in numbers_in_range renamed new_index named_indices fields every is_variable any
  numbers_same (ring r) e = refl
  numbers_same (input i p) e = ap (λ (b : Bool). (is_index i && true) && (b && true)) (field_range p e)
  numbers_same (goal p) e = ap (λ (b : Bool). b && true) (field_range p e)
  numbers_same (lin i p qs) e =
      let d = none_append (bad_name f) (gather (λ q. names_of q.factor) qs) (names_of p) e in
      ap₂ ◌&&◌ (ap (λ (is : List ℕ). is_index i && every is_index is) (indices_same qs)) (ap₂ ◌&&◌ (field_range p d.1) (factors_range qs d.0))
  numbers_same (del i) e = refl
  numbers_same (ext i v p) e =
      ap₂ (λ (x y : Bool). (x && (is_index i && true)) && (y && true)) (variable_good v (or_none_left (bad_name f v) (any (bad_name f) (names_of p)) e))
      (field_range p (or_none_right (bad_name f v) (any (bad_name f) (names_of p)) e))

  pub written_same : (st : Named) → NoneBad (names_in st) → first (named_rules f st) ≡ first (written_rules (renamed f st))
  unfolding first named_rules written_rules
  written_same st e =
      ap₂ (λ (n b : Bool). cond (not n) NUMBER (cond (any too_many_terms (fields (renamed f st))) TERMS (cond b NAMES ACCEPTED))) (sym (numbers_same st e)) e
