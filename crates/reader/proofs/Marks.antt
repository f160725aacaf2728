-- Marks in a row: where they end, and which of them is the first out of its range. Assumes nothing.
use mathlib.Core.Path.{◌≡◌, refl, sym, ap, ap₂, ◌∙◌}
use mathlib.Core.Bool.{Bool, true, false, cond, ◌&&◌}
use mathlib.Core.List.{List, [], ◌∷◌, ◌++◌, append_assoc, append-nil}
use mathlib.Core.Logic.{⊎_elim}
use Prim.Native.Nat.{ℕ, ◌+◌}
use native.Mathlib.Omega.{arith}
use Rattle.std.proofs.Common.{Option, None, Some, unwrap_or, is_none}
use Rattle.std.specs.Option.{option_or}
use Rattle.std.proofs.lemmas.Option.{none-some}
use lib.Dec.{eqb}
use lib.ListN.{length}
use borrow.Author.Tests.{eqb-true, eqb-false, eq-eqb, ne_eqb}
use Rattle.ground.specs.Lists.{every, total, gather}
use Rattle.ground.proofs.Tests.{split}
use Rattle.limits.specs.Verdicts.{ACCEPTED, NUMBER}
use Rattle.paper.specs.Spelling.{spell_number}
use Rattle.reader.specs.Marks.{Mark, all_fine, span, first_outside, first_out, mark}
use Rattle.reader.specs.Fields.{first_of, Told}

-- ---- the first of two
pub first_none : (a b : ℕ) → a ≡ 0 → first_of a b ≡ b
unfolding first_of
first_none a b e = ap (λ (t : Bool). cond t b a) (eq-eqb a 0 e)

pub first_some : (a b : ℕ) → (a ≡ 0 → ⊥) → first_of a b ≡ a
unfolding first_of
first_some a b e = ap (λ (t : Bool). cond t b a) (ne_eqb a 0 e)

pub first_alone : (a : ℕ) → first_of a 0 ≡ a
unfolding first_of
first_alone a = ⊎_elim (λ t. ap (λ (t : Bool). cond t 0 a) t ∙ sym (eqb-true a 0 t)) (λ t. ap (λ (t : Bool). cond t 0 a) t) (split (eqb a 0))

pub both_accepted : (a b : ℕ) → first_of a b ≡ 0 → (a ≡ 0) × (b ≡ 0)
unfolding first_of
both_accepted a b e =
    ⊎_elim
    (λ t. (eqb-true a 0 t, sym (ap (λ (t : Bool). cond t b a) t) ∙ e))
    (λ t. absurd (eqb-false a 0 t (sym (ap (λ (t : Bool). cond t b a) t) ∙ e)))
    (split (eqb a 0))

-- ---- marks in a row
pub span_append : (ms ns : List Mark) → span (ms ++ ns) ≡ span ms + span ns
unfolding span total
span_append [] ns = omega arith
span_append (m ∷ ms) ns = omega (arith, span_append ms ns)

out_append : (at : ℕ) (ms ns : List Mark) → first_out at (ms ++ ns) ≡ option_or (first_out at ms) (first_out (at + span ms) ns)
unfolding first_out span total
out_append at [] ns =
    let e : at + 0 ≡ at = omega arith in
    ap (λ (k : ℕ). first_out k ns) (sym e)
out_append at (m ∷ ms) ns = go m.fine (out_append (at + (m.before + m.width)) ms ns)
  where
    e : at + (m.before + m.width) + span ms ≡ at + (m.before + m.width + span ms)
    e = omega arith

    go : (t : Bool)
        → first_out (at + (m.before + m.width)) (ms ++ ns)
        ≡ option_or (first_out (at + (m.before + m.width)) ms) (first_out (at + (m.before + m.width) + span ms) ns)
        → cond t (first_out (at + (m.before + m.width)) (ms ++ ns)) (Some (at + m.before + 1))
        ≡ option_or (cond t (first_out (at + (m.before + m.width)) ms) (Some (at + m.before + 1))) (first_out (at + (m.before + m.width + span ms)) ns)
    go true ih = ih ∙ ap (λ (k : ℕ). option_or (first_out (at + (m.before + m.width)) ms) (first_out k ns)) e
    go false ih = refl

-- the first number out of its range: whether there is one, and its byte
pub out_fine : (at : ℕ) (ms : List Mark) → is_none (first_out at ms) ≡ all_fine ms
unfolding first_out all_fine every
out_fine at [] = refl
out_fine at (m ∷ ms) = go m.fine (out_fine (at + (m.before + m.width)) ms)
  where
    go : (t : Bool) → is_none (first_out (at + (m.before + m.width)) ms) ≡ all_fine ms
        → is_none (cond t (first_out (at + (m.before + m.width)) ms) (Some (at + m.before + 1))) ≡ (t && all_fine ms)
    go true ih = ih
    go false ih = refl

pub out_byte : (at : ℕ) (ms : List Mark) → unwrap_or (first_out at ms) 0 ≡ first_outside at ms
unfolding first_out first_outside
out_byte at [] = refl
out_byte at (m ∷ ms) = go m.fine (out_byte (at + (m.before + m.width)) ms)
  where
    go : (t : Bool) → unwrap_or (first_out (at + (m.before + m.width)) ms) 0 ≡ first_outside (at + (m.before + m.width)) ms
        → unwrap_or (cond t (first_out (at + (m.before + m.width)) ms) (Some (at + m.before + 1))) 0
        ≡ cond t (first_outside (at + (m.before + m.width)) ms) (at + m.before + 1)
    go true ih = ih
    go false ih = refl

-- ---- what is told of them
pub told_none : (at : ℕ) → Told [] at at None
unfolding span total first_out
told_none at = record { ends = omega arith; first = refl }

pub told_then : {ms ns : List Mark} {at i e : ℕ} {o p : Option ℕ} → Told ms at i o → Told ns i e p → Told (ms ++ ns) at e (option_or o p)
told_then {ms} {ns} {at} a b = record {
  ends = omega (arith, a.ends, b.ends, span_append ms ns);
  first = ap₂ option_or a.first (b.first ∙ ap (λ (k : ℕ). first_out k ns) a.ends) ∙ sym (out_append at ms ns);
}

pub or_none : {A : Type 0} (o : Option A) → option_or o None ≡ o
or_none None = refl
or_none (Some x) = refl

-- neither of two
pub neither_out : {A : Type 0} (o p : Option A) → option_or o p ≡ None → (o ≡ None) × (p ≡ None)
neither_out None p e = (refl, e)
neither_out (Some x) p e = absurd (none-some x (sym e))

-- the same, with nothing to refuse
pub told_fine : {ms ns : List Mark} {at i e : ℕ} {o : Option ℕ} → Told ms at i o → Told ns i e None → Told (ms ++ ns) at e o
told_fine {o = o} a b = rw (← or_none o) (told_then a b)

-- the verdict on them
pub verdict_then : (a b : Bool) → first_of (cond a ACCEPTED NUMBER) (cond b ACCEPTED NUMBER) ≡ cond (a && b) ACCEPTED NUMBER
unfolding first_of
verdict_then true b = refl
verdict_then false b = refl

pub accepted_none : {A : Type 0} (o : Option A) → cond (is_none o) ACCEPTED NUMBER ≡ ACCEPTED → o ≡ None
accepted_none None e = refl
accepted_none (Some x) e = absurd (let z : ⊥ = omega arith in z)

pub told_verdict : {ms : List Mark} {at e : ℕ} {o : Option ℕ} → Told ms at e o → is_none o ≡ all_fine ms
told_verdict {ms} {at} t = ap (λ (p : Option ℕ). is_none p) t.first ∙ out_fine at ms

pub told_byte : {ms : List Mark} {at e : ℕ} {o : Option ℕ} → Told ms at e o → unwrap_or o 0 ≡ first_outside at ms
told_byte {ms} {at} t = ap (λ (p : Option ℕ). unwrap_or p 0) t.first ∙ out_byte at ms

-- ---- one number
module _ (fine : ℕ → Bool) (before n : ℕ) {at e : ℕ} (h : e ≡ at + (before + length (spell_number n))) where
  pub mark_fine : fine n ≡ true → Told (mark fine before n ∷ []) at e None
  unfolding mark span total first_out
  mark_fine f = rw f (record { ends = omega arith; first = refl })

  pub mark_outside : fine n ≡ false → Told (mark fine before n ∷ []) at e (Some (at + before + 1))
  unfolding mark span total first_out
  mark_outside f = rw f (record { ends = omega arith; first = refl })

-- more bytes before the first number
pub told_lead : (fine : ℕ → Bool) (before before' d n : ℕ) (ms : List Mark) {at e : ℕ} {o : Option ℕ} → before' ≡ d + before
    → Told (mark fine before n ∷ ms) (at + d) e o → Told (mark fine before' n ∷ ms) at e o
unfolding mark span total first_out
told_lead fine before before' d n ms {at} {e} {o} h t =
    record { ends = omega (arith, t.ends); first = t.first ∙ go (fine n) }
  where
    w : ℕ
    w = length (spell_number n)

    x : at + d + (before + w) ≡ at + (before' + w)
    x = omega arith

    y : at + d + before + 1 ≡ at + before' + 1
    y = omega arith

    go : (f : Bool) → cond f (first_out (at + d + (before + w)) ms) (Some (at + d + before + 1)) ≡ cond f (first_out (at + (before' + w)) ms) (Some (at + before' + 1))
    go true = ap (λ (k : ℕ). first_out k ms) x
    go false = ap (λ (k : ℕ). Some k) y

-- ---- the marks of items, and of one more behind them
pub gather_last : {A B : Type 0} (f : A → List B) (xs : List A) (x : A) → gather f (xs ++ (x ∷ [])) ≡ gather f xs ++ f x
unfolding gather
gather_last f [] x = append-nil (f x)
gather_last f (y ∷ xs) x = ap (λ (l : List _). f y ++ l) (gather_last f xs x) ∙ sym (append_assoc (f y) (gather f xs) (f x))
