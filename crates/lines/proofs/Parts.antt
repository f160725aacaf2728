-- Parts of a line: one part behind another or behind a tab, and numbers. Assumes nothing.
use mathlib.Core.Path.{◌≡◌, refl, sym, ap, ap₂, subst, ◌∙◌}
use mathlib.Core.Bool.{Bool, true, false, ◌&&◌}
use mathlib.Core.Logic.{⊎_elim}
use Prim.Native.Nat.{ℕ, ◌+◌, ◌≤◌}
use native.Mathlib.Numerals.{add-one}
use native.Mathlib.Omega.{arith}
use lib.ListN.{length, drop, get_or, drop_of_length-le}
use lib.Seq.{drop-cons}
use borrow.Author.Tests.{eq-eqb, ne_eqb}
use Rattle.std.specs.Prelude.{Some, None, Result, Ok, Err, IsErrAnd}
use Rattle.limits.specs.Verdicts.{ACCEPTED, NUMBER}
use Rattle.paper.specs.Grammar.{Bytes, bytes, Reader, next, give, literal, decimal, tab}
use Rattle.paper.specs.Statement.{within}
use Rattle.paper.specs.Rules.{first}
use Rattle.reader.specs.Places.{Got, Fails, StopsOr}
use Rattle.reader.specs.Numbers.{InRange, OutOfRange, RangedAt, NumberAt}
use Rattle.reader.specs.declared.number.Number.{Number}
use Rattle.reader.specs.Fields.{stands_at}
use Rattle.reader.specs.Verdicts.{verdict_of, lesser_of}
use Rattle.reader.specs.declared.stop.Stop.{Stop}
use Rattle.reader.proofs.Fields.{stands, stands_not}
use Rattle.reader.proofs.Numbers.{within_yes}
use Rattle.reader.proofs.Following.{got_then, got_give, fails_then}
use Rattle.reader.proofs.Verdicts.{verdict_both, lesser_accepted}
use Rattle.lines.specs.Parts.{Taken, NumberPart}

-- ---- one reader as another
module _ {A : Type 0} {read read' : Reader A} {s : Bytes} {at : ℕ} (q : read' (drop at s) ≡ read (drop at s)) where
  pub got_as : {x : A} {e : ℕ} → Got read s at x e → Got read' s at x e
  got_as g = record { reads = q ∙ g.reads; onward = g.onward; inside = g.inside }

  pub fails_as : {p : ℕ} → Fails read s at p → Fails read' s at p
  fails_as g = record { reads = q ∙ g.reads; onward = g.onward; inside = g.inside }

-- ---- a reader that stops, as at a `?`
pub stops_on : {A B : Type 0} {read : Reader A} {s : Bytes} {at : ℕ} (P : B → Type 0) {e : Stop} → Fails read s at e.at → (r : Result B Stop) → IsErrAnd r (λ d. d ≡ e) → StopsOr read s at P r
stops_on P f (Ok x) h = absurd h
stops_on {read = read} {s} {at} P f (Err d) h = subst (λ (d : Stop). Fails read s at d.at) (sym h) f

-- ---- a part behind a reader that gives nothing
module _ {A : Type 0} {read : Reader A} (before : Reader (Unit {0})) {s : Bytes} {m at : ℕ} (g : Got before s m tt at) where
  pub taken_behind : {ranged few : A → Bool} {P : A → Type 0} {e why : ℕ} → Taken read ranged few P s at e why → Taken (λ r. next (before r) (λ _. read)) ranged few P s m e why
  taken_behind t = record { value = t.value; taken = got_then before _ g t.taken; verdict = t.verdict; holds = t.holds }

-- it stops, or it is read
module _ {A B : Type 0} (read : Reader A) (before : Reader (Unit {0})) {s : Bytes} {m at : ℕ} (g : Got before s m tt at) {P Q : B → Type 0} (f : (x : B) → P x → Q x) where
  pub stops_behind : (r : Result B Stop) → StopsOr read s at P r → StopsOr (λ r. next (before r) (λ _. read)) s m Q r
  stops_behind (Ok x) h = f x h
  stops_behind (Err e) h = fails_then before (λ _. read) g h

-- ---- one part behind another; where either stops, reader's `fails_first` and `fails_then` say so
module _ {A B : Type 0} (read : Reader A) {ranged few : A → Bool} {P : A → Type 0} (ranged' few' : B → Bool) (R : B → Type 0) {s : Bytes} {at : ℕ} where
  -- the value used
  unfoldable pub took_map : {e why : ℕ} (g : A → B) (t : Taken read ranged few P s at e why) → ranged t.value ≡ ranged' (g t.value) → few t.value ≡ few' (g t.value)
      → (P t.value → R (g t.value)) → Taken (λ r. next (read r) (λ x. give (g x))) ranged' few' R s at e why
  took_map g t i j h =
      record {
        value = g t.value;
        taken = got_then read _ t.taken (got_give (g t.value) t.taken.inside);
        verdict = t.verdict ∙ ap₂ verdict_of i j;
        holds = λ a. h (t.holds a);
      }

  unfoldable pub took_then : {ranged₂ few₂ : B → Bool} {Q : B → Type 0} {m e v w why : ℕ} (f : A → Reader B) (t : Taken read ranged few P s at m v)
      (u : Taken (f t.value) ranged₂ few₂ Q s m e w) → why ≡ lesser_of v w
      → (ranged t.value && ranged₂ u.value) ≡ ranged' u.value → (few t.value && few₂ u.value) ≡ few' u.value
      → (P t.value → Q u.value → R u.value) → Taken (λ r. next (read r) f) ranged' few' R s at e why
  took_then {ranged₂} {few₂} {v = v} {w} f t u c i j h =
      record {
        value = u.value;
        taken = got_then read f t.taken u.taken;
        verdict =
            c ∙ ap₂ lesser_of t.verdict u.verdict
            ∙ sym (verdict_both (ranged t.value) (ranged₂ u.value) (few t.value) (few₂ u.value))
            ∙ ap₂ verdict_of i j;
        holds = λ a. let b = lesser_accepted v w (sym c ∙ a) in h (t.holds b.0) (u.holds b.1);
      }

-- ---- tabs
module _ (s : Bytes) (at : ℕ) where
  pub tab_got : stands_at s at 9 ≡ true → Got tab s at tt (at + 1)
  unfolding tab bytes literal
  tab_got t =
      let h = stands s at 9 t in
      record { reads = rw (drop-cons s at 0 h.0, eq-eqb (get_or s at 0) 9 h.1, add-one at); onward = omega arith; inside = omega (arith, h.0) }

  pub tab_fails : at ≤ length s → stands_at s at 9 ≡ false → Fails tab s at at
  unfolding tab bytes literal
  tab_fails l t =
      ⊎_elim (λ h. record { reads = rw (drop-cons s at 0 h.0, ne_eqb (get_or s at 0) 9 h.1); onward = omega arith; inside = l })
      (λ h. record { reads = rw (drop_of_length-le s h); onward = omega arith; inside = l }) (stands_not s at 9 t)

-- ---- numbers: one in its range, and one out of it
module _ (low high : ℕ) {s : Bytes} {at : ℕ} (n : Number) (r : NumberAt decimal low high s at n) where
  pub number_fine : {v : ℕ} → n.value ≡ Some v → NumberPart decimal (within low high) s at (Ok (record { value = v; end = n.end; why = ACCEPTED }))
  unfolding first
  number_fine {v} q =
      let h : InRange decimal low high s at v n.end = subst (RangedAt decimal low high s at n.end) q r in
      record { value = v; taken = h.taken; verdict = ap (λ (b : Bool). verdict_of b true) (sym (within_yes low high v h.above h.below)); holds = λ a. refl }

  pub number_out : {x : ℕ} → n.value ≡ None → NumberPart decimal (within low high) s at (Ok (record { value = x; end = n.end; why = NUMBER }))
  unfolding first
  number_out q =
      let h : OutOfRange decimal low high s at n.end = subst (RangedAt decimal low high s at n.end) q r in
      record {
        value = h.value;
        taken = h.taken;
        verdict = ap (λ (b : Bool). verdict_of b true) (sym h.outside);
        holds = λ a. absurd (let z : ⊥ = omega arith in z);
      }
