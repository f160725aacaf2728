-- Bytes of a kind at a place, white space, signs, constants and the bytes of a name. Assumes nothing.
use mathlib.Core.Path.{◌≡◌, refl, sym, ap, ap₂, subst, ◌∙◌}
use mathlib.Core.Bool.{Bool, true, false, ◌&&◌, ◌||◌, cond}
use mathlib.Core.List.{[], ◌∷◌, ◌++◌}
use mathlib.Core.Logic.{◌⊎◌, inl, inr, ⊎_elim}
use Rattle.std.proofs.Math.Bool.{or_comm, or_assoc}
use Prim.Native.Nat.{ℕ, suc, ◌+◌, ◌-◌, ◌≤◌, ◌<◌}
use Prim.Native.Char.{code}
use native.Mathlib.Numerals.{add-one}
use native.Mathlib.Omega.{arith}
use lib.Dec.{leb, ltb}
use lib.ListN.{length, drop, get_or, length-drop, drop_of_length-le}
use lib.Seq.{drop-cons, take-suc, get_or-drop}
use borrow.Author.Tests.{leb-true, lt-ltb, le-ltb, ltb-true, ltb-false, eq-eqb, ne_eqb}
use Rattle.ground.proofs.Tests.{split, and_left, and_right}
use Rattle.std.specs.Prelude.{Option, Some, None}
use Rattle.std.specs.Char.{is_ascii_alphabetic, is_ascii_alphanumeric}
use Rattle.words.specs.Parts.{part}
use Rattle.paper.specs.Grammar.{Bytes, got, stuck, Reader, next, literal, is_digit, digits}
use Rattle.paper.specs.Published.{is_letter, spaces, token, symbol, constant, name_rest}
use Rattle.paper.proofs.PublishedReading.{rest_more, rest_stop, rest_end}
use Rattle.reader.specs.Places.{Got, Fails}
use Rattle.reader.specs.Numbers.{RangedAt}
use Rattle.reader.specs.Fields.{stands_at}
use Rattle.reader.proofs.Following.{got_then, got_give, fails_first, ReadUpTo, read_more, read_stop}
use Rattle.reader.proofs.Fields.{stands, stands_not}
use Rattle.named.specs.Reads.{plain_digits, is_at}

-- ---- f reads as g does
module _ {A : Type 0} (f g : Reader A) {s : Bytes} {at : ℕ} (q : f (drop at s) ≡ g (drop at s)) where
  pub got_as : {x : A} {e : ℕ} → Got g s at x e → Got f s at x e
  got_as h = record { reads = q ∙ h.reads; onward = h.onward; inside = h.inside }

  pub fails_as : {p : ℕ} → Fails g s at p → Fails f s at p
  fails_as h = record { reads = q ∙ h.reads; onward = h.onward; inside = h.inside }

-- ---- a byte of a kind at a place
module _ (f : ℕ → Bool) (s : Bytes) (at : ℕ) where
  pub is_inside : at < length s → is_at f s at ≡ f (get_or s at 0)
  unfolding is_at
  is_inside l = ap (λ (t : Bool). t && f (get_or s at 0)) (lt-ltb at (length s) l)

  pub is_end : length s ≤ at → is_at f s at ≡ false
  unfolding is_at
  is_end l = ap (λ (t : Bool). t && f (get_or s at 0)) (le-ltb at (length s) l)

  pub is_here : is_at f s at ≡ true → (at < length s) × (f (get_or s at 0) ≡ true)
  unfolding is_at
  is_here e = (ltb-true at (length s) (and_left (ltb at (length s)) (f (get_or s at 0)) e), and_right (ltb at (length s)) (f (get_or s at 0)) e)

  pub is_not : is_at f s at ≡ false → ((at < length s) × (f (get_or s at 0) ≡ false)) ⊎ (length s ≤ at)
  is_not e =
      ⊎_elim
      (λ t. let l = ltb-true at (length s) t in inl (l, sym (is_inside l) ∙ e))
      (λ t. inr (ltb-false at (length s) t))
      (split (ltb at (length s)))

-- the library's letters, and its letters and digits
or_turn : (a b c : Bool) → ((a || b) || c) ≡ ((c || b) || a)
or_turn a b c = or_comm (a || b) c ∙ ap (λ (t : Bool). c || t) (or_comm a b) ∙ sym (or_assoc c b a)

pub alphabetic : (b : ℕ) → is_ascii_alphabetic b ≡ is_letter b
unfolding is_letter
alphabetic b = or_comm (leb 65 b && leb b 90) (leb 97 b && leb b 122)

alphanumeric : (b : ℕ) → is_ascii_alphanumeric b ≡ (is_letter b || is_digit b)
unfolding is_letter is_digit
alphanumeric b = or_turn (leb 48 b && leb b 57) (leb 65 b && leb b 90) (leb 97 b && leb b 122)

-- one of two kinds
pub either_at : (f g : ℕ → Bool) (s : Bytes) (i : ℕ) (x y : Bool) → x ≡ is_at f s i → y ≡ is_at g s i → {t : Bool} → (x || y) ≡ t → is_at (λ b. f b || g b) s i ≡ t
unfolding is_at
either_at f g s i x y ex ey e = sym (go (ltb i (length s))) ∙ sym (ap₂ ◌||◌ ex ey) ∙ e
  where
    go : (t : Bool) → ((t && f (get_or s i 0)) || (t && g (get_or s i 0))) ≡ (t && (f (get_or s i 0) || g (get_or s i 0)))
    go true = refl
    go false = refl

-- ---- signs
module _ (s : Bytes) (at b : ℕ) where
  pub symbol_here : {e : ℕ} → stands_at s at b ≡ true → Got spaces s (at + 1) tt e → Got (symbol b) s at tt e
  unfolding literal
  symbol_here q g =
      let h = stands s at b q in
      let l = h.0 in
      let r : literal (b ∷ []) (drop at s) ≡ got tt (drop (at + 1) s) = rw (drop-cons s at 0 l, eq-eqb (get_or s at 0) b h.1, add-one at) in
      got_then (literal (b ∷ [])) _ (record { reads = r; onward = omega arith; inside = omega arith }) (got_then spaces _ g (got_give tt g.inside))

  pub symbol_not : at ≤ length s → stands_at s at b ≡ false → Fails (symbol b) s at at
  unfolding literal
  symbol_not l q =
      fails_first (literal (b ∷ [])) _
      (record { reads = ⊎_elim (λ h. rw (drop-cons s at 0 h.0, ne_eqb (get_or s at 0) b h.1)) (λ h. rw (drop_of_length-le s h)) (stands_not s at b q); onward = omega arith; inside = l })

-- ---- digits, and constants
module _ (s : Bytes) (at : ℕ) where
  pub digit_between : is_at is_digit s at ≡ true → (at < length s) × (48 ≤ get_or s at 0) × (get_or s at 0 ≤ 57)
  unfolding is_digit
  digit_between e =
      let h = is_here is_digit s at e in
      let b = get_or s at 0 in
      (h.0, leb-true 48 b (and_left (leb 48 b) (leb b 57) h.1), leb-true b 57 (and_right (leb 48 b) (leb b 57) h.1))

  pub digits_here : is_at is_digit s at ≡ true → plain_digits (drop at s) ≡ digits (get_or s at 0 - 48) (drop (at + 1) s)
  digits_here e = let h = is_here is_digit s at e in rw (drop-cons s at 0 h.0, h.1, add-one at)

  pub digits_none : at ≤ length s → is_at is_digit s at ≡ false → Fails plain_digits s at at
  digits_none l e =
      record { reads = ⊎_elim (λ h. rw (drop-cons s at 0 h.0, h.1)) (λ h. rw (drop_of_length-le s {i = at} h)) (is_not is_digit s at e); onward = omega arith; inside = l }

constant_token : (s : Bytes) → constant s ≡ token plain_digits s
unfolding constant
constant_token [] = refl
constant_token (b ∷ s) = go (is_digit b)
  where
    go : (t : Bool) → cond t (token (digits (b - code "0")) s) (stuck (b ∷ s)) ≡ next (cond t (digits (b - code "0") s) (stuck (b ∷ s))) (λ v r. next (spaces r) (λ _ r'. got v r'))
    go true = refl
    go false = refl

module _ (low high : ℕ) (s : Bytes) (at : ℕ) where
  constant_got : {v i e : ℕ} → Got plain_digits s at v i → Got spaces s i tt e → Got constant s at v e
  constant_got {v} g h = got_as constant (token plain_digits) (constant_token (drop at s)) (got_then plain_digits _ g (got_then spaces _ h (got_give v h.inside)))

  pub constant_fails : {p : ℕ} → Fails plain_digits s at p → Fails constant s at p
  constant_fails f = fails_as constant (token plain_digits) (constant_token (drop at s)) (fails_first plain_digits _ f)

  -- the white space behind it is of it
  pub constant_ranged : {i e : ℕ} (v : Option ℕ) → RangedAt plain_digits low high s at i v → Got spaces s i tt e → RangedAt constant low high s at e v
  constant_ranged (Some v) r g = record { above = r.above; below = r.below; taken = constant_got r.taken g }
  constant_ranged None r g = record { value = r.value; outside = r.outside; taken = constant_got r.taken g }

-- ---- the bytes of a name
abbrev pub NameTo : Bytes → ℕ → ℕ → Type 0
NameTo s at i = ReadUpTo name_rest (λ n. n ≡ part at (i - at) s) s at i

module _ (s : Bytes) (at : ℕ) where
  module _ (i : ℕ) (p : NameTo s at i) where
    pub name_more : i < length s → is_ascii_alphanumeric (get_or s i 0) ≡ true → NameTo s at (i + 1)
    name_more k e =
        let o = p.onward in
        let j : i + 1 - at ≡ suc (i - at) = omega arith in
        let w : at + (i - at) ≡ i = omega arith in
        let c : get_or (drop at s) (i - at) 0 ≡ get_or s i 0 = get_or-drop at s (i - at) 0 ∙ ap (λ (k : ℕ). get_or s k 0) w in
        read_more name_rest s at i p (get_or s i 0) (i + 1) (rest_more s i k (sym (alphanumeric (get_or s i 0)) ∙ e)) (omega arith) (omega arith)
        (λ n q. rw (j, take-suc (drop at s) (i - at) 0 (omega (arith, length-drop at s)), c) (ap (λ (x : Bytes). x ++ (get_or s i 0 ∷ [])) q))

    over : name_rest (drop i s) ≡ got [] (drop i s) → Got name_rest s at (part at (i - at) s) i
    over q = subst (λ (n : Bytes). Got name_rest s at n i) p.holds (read_stop name_rest s at i p q)

    pub name_over : i < length s → is_ascii_alphanumeric (get_or s i 0) ≡ false → Got name_rest s at (part at (i - at) s) i
    name_over k e = over (rest_stop s i k (sym (alphanumeric (get_or s i 0)) ∙ e))

    pub name_all : i ≡ length s → Got name_rest s at (part at (length s - at) s) (length s)
    name_all e = subst (λ (j : ℕ). Got name_rest s at (part at (j - at) s) j) e (over (rest_end s i (omega arith)))
