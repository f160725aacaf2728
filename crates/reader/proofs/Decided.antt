-- The contracts of `reader` decide their results, and of an accepted field the buffer too. Assumes nothing.
use mathlib.Core.Path.{◌≡◌, refl, sym, ap, ◌∙◌}
use mathlib.Core.Bool.{Bool, true, false, not}
use mathlib.Core.List.{List, [], ◌∷◌}
use mathlib.Core.Logic.{⊎_elim}
use Prim.Native.Nat.{ℕ, ◌-◌, ◌*◌, ◌^◌, ◌≤◌, ◌<◌}
use native.Mathlib.Omega.{arith}
use lib.Dec.{ltb}
use lib.ListN.{length, drop, length-drop}
use borrow.Author.Tests.{ltb-true, ltb-false}
use Rattle.std.proofs.Common.{Option, Some, None, Result, Ok, Err}
use Rattle.ground.proofs.Tests.{split}
use Rattle.limits.specs.Limits.{field_terms, term_words}
use Rattle.limits.specs.Verdicts.{ACCEPTED, NUMBER, TERMS}
use Rattle.words.specs.Parts.{part, Within}
use Rattle.words.proofs.Parts.{length_part}
use Rattle.words.proofs.Laws.{Words}
use Rattle.terms.specs.Terms.{decode}
use Rattle.terms.proofs.Decided.{one_front}
use Rattle.written.specs.Worded.{worded}
use Rattle.paper.specs.Grammar.{Bytes, Line as TextLine, Reader, polynomial}
use Rattle.paper.specs.Statement.{Written, within, too_many_terms}
use Rattle.paper.specs.Rules.{first}
use Rattle.paper.proofs.Reading.{clash}
use Rattle.reader.specs.Places.{Got, Fails, StopsOr}
use Rattle.reader.specs.Search.{FirstOrEnd, LineEnd}
use Rattle.reader.specs.Numbers.{TooLarge, ValueAt, DecimalAt, DecimalIs, InRange, OutOfRange, RangedAt, NumberIs}
use Rattle.reader.specs.Keywords.{WordIs}
use Rattle.reader.specs.Marks.{all_fine, first_outside, field_marks, first_too_many}
use Rattle.reader.specs.Fields.{FieldAt, FieldIs}
use Rattle.reader.specs.declared.stop.Stop.{Stop}
use Rattle.reader.specs.declared.number.Number.{Number}
use Rattle.reader.specs.declared.field.FieldRead.{FieldRead}
use Rattle.reader.proofs.Numbers.{within_yes, number_takes}
use Rattle.reader.proofs.Ranges.{neither}

-- ---- a reader reads or stops, and at one place
same_place : (s : Bytes) (p q : ℕ) → p ≤ length s → q ≤ length s → drop p s ≡ drop q s → p ≡ q
same_place s p q h k e = omega (arith, ap length e, length-drop p s, length-drop q s)

pub same_end : {A : Type 0} (read : Reader A) (s : Bytes) (at : ℕ) {x y : A} {d e : ℕ} → Got read s at x d → Got read s at y e → (x ≡ y) × (d ≡ e)
same_end read s at {x} {y} {d} {e} g h =
    let p = g.reads in
    let q = h.reads in
    ((cc), same_place s d e g.inside h.inside (cc))

pub same_stop : {A : Type 0} {read : Reader A} {s : Bytes} {at p q : ℕ} → Fails read s at p → Fails read s at q → p ≡ q
same_stop {s = s} {p = p} {q = q} x y =
    let d = x.reads in
    let e = y.reads in
    same_place s p q x.inside y.inside (cc)

pub not_both : {A : Type 0} {read : Reader A} {s : Bytes} {at e p : ℕ} {x : A} → Got read s at x e → Fails read s at p → ⊥
not_both g f = clash (sym f.reads ∙ g.reads)

-- so does the code's answer, where what holds of one fixes it and is read
one_answer : {A B : Type 0} {read : Reader A} {s : Bytes} {at : ℕ} {P Q : B → Type 0} → ((x y : B) → P x → Q y → x ≡ y)
    → ((x : B) → P x → (p : ℕ) → Fails read s at p → ⊥) → ((x : B) → Q x → (p : ℕ) → Fails read s at p → ⊥)
    → (r q : Result B Stop) → StopsOr read s at P r → StopsOr read s at Q q → r ≡ q
one_answer same left right (Ok x) (Ok y) h k = ap (λ z. Ok z) (same x y h k)
one_answer same left right (Ok x) (Err e) h k = absurd (left x h e.at k)
one_answer same left right (Err e) (Ok y) h k = absurd (right y k e.at h)
one_answer same left right (Err d) (Err e) h k = ap (λ (p : ℕ). Err (record { at = p })) (same_stop h k)

-- ---- `decimal_at`, `digits_from`: a value is a word
abbrev pub Held : Option ℕ → Type 0
Held (Some n) = n < 2 ^ 64
Held None = Unit {0}

abbrev pub HeldIn : Result Number Stop → Type 0
HeldIn (Ok n) = Held n.value
HeldIn (Err e) = Unit {0}

too_large : {read : Reader ℕ} {s : Bytes} {at n d e : ℕ} → n < 2 ^ 64 → Got read s at n d → TooLarge read s at e → ⊥
too_large {read} {s} {at} h x y = omega (arith, (same_end read s at x y.taken).0, y.large)

module _ (read : Reader ℕ) (s : Bytes) (at : ℕ) where
  same_value : (v w : Option ℕ) {d e : ℕ} → Held v → Held w → ValueAt read s at d v → ValueAt read s at e w → (v ≡ w) × (d ≡ e)
  same_value (Some n) (Some m) h k x y = let b = same_end read s at x y in (ap (λ i. Some i) b.0, b.1)
  same_value (Some n) None h k x y = absurd (too_large h x y)
  same_value None (Some m) h k x y = absurd (too_large k y x)
  same_value None None h k x y = (refl, (same_end read s at x.taken y.taken).1)

  pub one_value : (n m : Number) → Held n.value → Held m.value → DecimalAt read s at n → DecimalAt read s at m → n ≡ m
  one_value n m h k x y = let b = same_value n.value m.value h k x y in λ i. record { value = b.0 i; end = b.1 i }

  value_read : (v : Option ℕ) (e p : ℕ) → ValueAt read s at e v → Fails read s at p → ⊥
  value_read (Some n) e p x y = not_both x y
  value_read None e p x y = not_both x.taken y

  pub one_decimal : (d c : Result Number Stop) → HeldIn d → HeldIn c → DecimalIs read s at d → DecimalIs read s at c → d ≡ c
  one_decimal (Ok n) (Ok m) h k x y = ap (λ z. Ok z) (one_value n m h k x y)
  one_decimal (Ok n) (Err e) h k x y = absurd (value_read n.value n.end e.at x y)
  one_decimal (Err e) (Ok n) h k x y = absurd (value_read n.value n.end e.at y x)
  one_decimal (Err d) (Err e) h k x y = ap (λ (p : ℕ). Err (record { at = p })) (same_stop x y)

-- ---- `number_at`
module _ (read : Reader ℕ) (low high : ℕ) (s : Bytes) (at : ℕ) where
  in_or_out : {v d e : ℕ} → InRange read low high s at v d → OutOfRange read low high s at e → ⊥
  in_or_out {v} x y =
      let q : true ≡ false = sym (within_yes low high v x.above x.below) ∙ ap (within low high) (same_end read s at x.taken y.taken).0 ∙ y.outside in
      let z : ◌≡◌ {A = ℕ} 0 1 = cc in
      omega arith

  same_range : (v w : Option ℕ) {d e : ℕ} → RangedAt read low high s at d v → RangedAt read low high s at e w → (v ≡ w) × (d ≡ e)
  same_range (Some n) (Some m) x y = let b = same_end read s at x.taken y.taken in (ap (λ i. Some i) b.0, b.1)
  same_range (Some n) None x y = absurd (in_or_out x y)
  same_range None (Some m) x y = absurd (in_or_out y x)
  same_range None None x y = (refl, (same_end read s at x.taken y.taken).1)

  pub one_number : (n m : Result Number Stop) → NumberIs read low high s at n → NumberIs read low high s at m → n ≡ m
  one_number n m x y =
      one_answer (λ a b h k. let q = same_range a.value b.value h k in λ i. record { value = q.0 i; end = q.1 i })
      (λ a h p f. not_both (number_takes read low high s at a h).1 f) (λ a h p f. not_both (number_takes read low high s at a h).1 f) n m x y

-- ---- `word_at`, `keyword`
pub one_word : (read : Reader (Unit {0})) (s : Bytes) (at : ℕ) (r q : Result ℕ Stop) → WordIs read s at r → WordIs read s at q → r ≡ q
one_word read s at r q x y = one_answer (λ a b h k. (same_end read s at h k).1) (λ a h p f. not_both h f) (λ a h p f. not_both h f) r q x y

-- an accepted field has few enough terms
few : {greatest : ℕ} {s : Bytes} {at : ℕ} {out r : List ℕ} {f : FieldRead} → FieldAt greatest s at out r f → f.why ≡ ACCEPTED → f.terms ≤ field_terms
unfolding too_many_terms
few {greatest} x a = omega (arith, x.terms, ltb-false field_terms (length x.value) (neither (all_fine (field_marks greatest x.value)) (ltb field_terms (length x.value)) (sym x.verdict ∙ a)).1)

-- ---- `read_field`: of a refused one the words of the most terms of a field are not decided
module _ (greatest : ℕ) (s : Bytes) (at : ℕ) (out r q : List ℕ) where
  read_once : (f g : FieldRead) → FieldAt greatest s at out r f → FieldAt greatest s at out q g → f ≡ g
  read_once f g x y =
      let b = same_end polynomial s at x.taken y.taken in
      let v = b.0 in
      λ i. record {
        why = (x.verdict ∙ ap (λ (p : Written). verdict_of p) v ∙ sym y.verdict) i;
        end = b.1 i;
        terms = (x.terms ∙ ap (λ (p : Written). length p) v ∙ sym y.terms) i;
        outside = (x.outside ∙ ap (λ (p : Written). first_outside at (field_marks greatest p)) v ∙ sym y.outside) i;
        extra = (x.excess ∙ ap (λ (p : Written). first_too_many greatest at p) v ∙ sym y.excess) i;
      }
    where
      verdict_of : Written → ℕ
      verdict_of p = first ((NUMBER, not (all_fine (field_marks greatest p))) ∷ (TERMS, too_many_terms p) ∷ [])

  pub one_field : (f g : Result FieldRead Stop) → FieldIs greatest s at out r f → FieldIs greatest s at out q g → f ≡ g
  one_field f g x y = one_answer read_once (λ a h p e. not_both h.taken e) (λ a h p e. not_both h.taken e) f g x.said y.said

  pub one_run : (f g : FieldRead) → Words r → Words q → f.why ≡ ACCEPTED → FieldAt greatest s at out r f → FieldAt greatest s at out q g → r ≡ q
  one_run f g u w a x y =
      let e = read_once f g x y in
      let l = few x a in
      let n : f.terms ≡ g.terms = ap (λ (h : FieldRead). h.terms) e in
      let k : Within 0 (f.terms * term_words) out q = rw n (y.kept (omega arith)) in
      one_front f.terms out r q u w (x.kept l) k
      (x.run a ∙ ap worded (same_end polynomial s at x.taken y.taken).0 ∙ sym (y.run (sym (ap (λ (h : FieldRead). h.why) e) ∙ a)) ∙ ap (λ (m : ℕ). decode m q) (sym n))

-- ---- `line_end`
-- the first of some lines: its length, and whether it ended
abbrev long : List TextLine → ℕ
long ls = elim ls [ [] ↦ 0 | l ∷ r ↦ length l.content ]

abbrev whole : List TextLine → Bool
whole ls = elim ls [ [] ↦ true | l ∷ r ↦ l.ended ]

module _ (text : Bytes) (at : ℕ) where
  unlike : {r q : ℕ} → LineEnd text at r → LineEnd text at q → r < length text → length text ≤ q → ⊥
  unlike {r} {q} a b h k =
      let e : true ≡ false = ap whole (sym (a.ended h) ∙ b.last (omega (arith, a.onward)) k) in
      let z : ◌≡◌ {A = ℕ} 0 1 = cc in
      omega arith

  pub one_line_end : (r q : ℕ) → LineEnd text at r → LineEnd text at q → r ≡ q
  one_line_end r q a b = go (ltb r (length text)) (ltb q (length text)) refl refl
    where
      go : (x y : Bool) → ltb r (length text) ≡ x → ltb q (length text) ≡ y → r ≡ q
      go true true h k =
          let e : length (part at (r - at) text) ≡ length (part at (q - at) text)
          = ap long (sym (a.ended (ltb-true r (length text) h)) ∙ b.ended (ltb-true q (length text) k)) in
          omega (arith, length_part at (r - at) text (omega arith), length_part at (q - at) text (omega arith))
      go true false h k = absurd (unlike a b (ltb-true r (length text) h) (ltb-false q (length text) k))
      go false true h k = absurd (unlike b a (ltb-true q (length text) k) (ltb-false r (length text) h))
      go false false h k = omega (arith, ltb-false r (length text) h, ltb-false q (length text) k, a.inside, b.inside)

-- ---- `find_byte`
module _ (b : ℕ) (s : Bytes) (at : ℕ) where
  no_earlier : {r q : ℕ} → FirstOrEnd b s at r → FirstOrEnd b s at q → r < q → ⊥
  no_earlier {r} x y l = y.without.none r l x.without.onward (x.found (omega (arith, y.without.inside)))

  pub one_first_byte : (r q : ℕ) → FirstOrEnd b s at r → FirstOrEnd b s at q → r ≡ q
  one_first_byte r q x y =
      ⊎_elim (λ l. absurd (no_earlier x y (ltb-true r q l))) (λ l. ⊎_elim (λ m. absurd (no_earlier y x (ltb-true q r m))) (λ m. omega (arith, ltb-false r q l, ltb-false q r m)) (split (ltb q r))) (split (ltb r q))
