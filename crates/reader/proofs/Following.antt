-- Readers in a row, and as many items as follow. Assumes nothing.
use mathlib.Core.Path.{◌≡◌, refl, sym, ap, ◌∙◌}
use mathlib.Core.Bool.{Bool}
use mathlib.Core.List.{List, [], ◌∷◌, ◌++◌, append_assoc, append-nil}
use Prim.Native.Nat.{ℕ, ◌+◌, ◌≤◌, ◌<◌}
use native.Mathlib.Omega.{arith}
use lib.ListN.{length, drop, get_or, length-drop, drop_of_length-le}
use lib.Seq.{drop-cons}
use Rattle.std.proofs.Common.{Option, Result, Ok, Err}
use Rattle.std.specs.Result.{IsErrAnd}
use Rattle.paper.specs.Grammar.{Bytes, Read, got, stuck, Reader, next, give, end, each}
use Rattle.paper.proofs.Reading.{next_assoc, next_give, Takes, after_length, each_more, each_stuck}
use Rattle.reader.specs.Places.{Got, Fails}
use Rattle.reader.specs.Marks.{Mark}
use Rattle.reader.specs.Fields.{Told, Took}

-- what `?` hands on is the same
pub same_err : {B E : Type 0} {e : E} (r : Result B E) → IsErrAnd r (λ d. d ≡ e) → r ≡ Err e
same_err (Ok x) q = absurd q
same_err (Err d) q = ap (λ i. Err i) q

-- ---- one reader after the other
module _ {A B : Type 0} (read : Reader A) (f : A → Reader B) {s : Bytes} {at : ℕ} where
  pub got_then : {m : ℕ} {x : A} {y : B} {e : ℕ} → Got read s at x m → Got (f x) s m y e → Got (λ r. next (read r) f) s at y e
  got_then g h =
      let a = g.onward in
      let b = h.onward in
      record { reads = ap (λ (r : Read A). next r f) g.reads ∙ h.reads; onward = omega arith; inside = h.inside }

  pub fails_then : {m : ℕ} {x : A} {p : ℕ} → Got read s at x m → Fails (f x) s m p → Fails (λ r. next (read r) f) s at p
  fails_then g h =
      let a = g.onward in
      let b = h.onward in
      record { reads = ap (λ (r : Read A). next r f) g.reads ∙ h.reads; onward = omega arith; inside = h.inside }

  pub fails_first : {p : ℕ} → Fails read s at p → Fails (λ r. next (read r) f) s at p
  fails_first h = record { reads = ap (λ (r : Read A). next r f) h.reads; onward = h.onward; inside = h.inside }

pub got_give : {A : Type 0} (x : A) {s : Bytes} {at : ℕ} → at ≤ length s → Got (give x) s at x at
got_give x {s} {at} h = record { reads = refl; onward = omega arith; inside = h }

-- the end of a line
module _ (s : Bytes) (e : ℕ) where
  pub end_not : e < length s → Fails end s e e
  unfolding end
  end_not h = record { reads = rw (drop-cons s e 0 h); onward = omega arith; inside = omega arith }

  pub end_here : length s ≤ e → e ≤ length s → Got end s e tt e
  unfolding end
  end_here h l = record { reads = rw (drop_of_length-le s h); onward = omega arith; inside = l }

-- a reader that takes n bytes or more
pub got_onward : {A : Type 0} {allowed : ℕ → Bool} {n : ℕ} (read : Reader A) → Takes allowed n read → {s : Bytes} {at : ℕ} {x : A} {e : ℕ} → Got read s at x e → at + n ≤ e
got_onward read t {s} {at} {x} {e} g =
    let o = g.onward in
    let i = g.inside in
    omega (arith, after_length (t (drop at s) x (drop e s) g.reads), length-drop at s, length-drop e s)

-- ---- as many items as follow
next_same : {A B : Type 0} (r : Read A) (f g : A → Reader B) → ((x : A) (s : Bytes) → f x s ≡ g x s) → next r f ≡ next r g
next_same (got x s) f g h = h x s
next_same (stuck s) f g h = refl

-- some items stand from at up to i, P holds of them, and what is left to read is at i
pub record ReadUpTo {A : Type 0} (more : Reader (List A)) (P : List A → Type 0) (s : Bytes) (at i : ℕ) : Type 0 where
  pub items : List A
  pub reads : more (drop at s) ≡ next (more (drop i s)) (λ xs r. got (items ++ xs) r)
  pub onward : at ≤ i
  pub inside : i ≤ length s
  pub holds : P items

module _ {A : Type 0} (more : Reader (List A)) (s : Bytes) (at : ℕ) where
  pub read_none : {P : List A → Type 0} → at ≤ length s → P [] → ReadUpTo more P s at at
  read_none h p = record { items = []; reads = next_give (more (drop at s)); onward = omega arith; inside = h; holds = p }

  module _ {P : List A → Type 0} (i : ℕ) (p : ReadUpTo more P s at i) where
    pub read_more : {Q : List A → Type 0} (x : A) (e : ℕ) → more (drop i s) ≡ next (more (drop e s)) (λ xs r. got (x ∷ xs) r) → i ≤ e → e ≤ length s
        → ((xs : List A) → P xs → Q (xs ++ (x ∷ []))) → ReadUpTo more Q s at e
    read_more x e m o l f =
        let a = p.onward in
        record {
          items = p.items ++ (x ∷ []);
          reads =
              p.reads
              ∙ ap (λ (r : Read (List A)). next r (λ xs r. got (p.items ++ xs) r)) m
              ∙ next_assoc (more (drop e s)) (λ xs r. got (x ∷ xs) r) (λ xs r. got (p.items ++ xs) r)
              ∙ next_same (more (drop e s)) (λ xs r. got (p.items ++ (x ∷ xs)) r) (λ xs r. got ((p.items ++ (x ∷ [])) ++ xs) r)
              (λ xs r. ap (λ (l : List A). got l r) (sym (append_assoc p.items (x ∷ []) xs)));
          onward = omega arith;
          inside = l;
          holds = f p.items p.holds;
        }

    pub read_stuck : {q : ℕ} → more (drop i s) ≡ stuck (drop q s) → i ≤ q → q ≤ length s → Fails more s at q
    read_stuck {q} m o l =
        let a = p.onward in
        record { reads = p.reads ∙ ap (λ (r : Read (List A)). next r (λ xs r. got (p.items ++ xs) r)) m; onward = omega arith; inside = l }

    pub read_stop : more (drop i s) ≡ got [] (drop i s) → Got more s at p.items i
    read_stop e =
        record {
          reads = p.reads ∙ ap (λ (r : Read (List A)). next r (λ xs r. got (p.items ++ xs) r)) e ∙ ap (λ (l : List A). got l (drop i s)) (append-nil p.items);
          onward = p.onward;
          inside = p.inside;
        }

-- each behind a byte c
abbrev pub ItemsUpTo : {A : Type 0} → ℕ → Reader A → (List A → Type 0) → Bytes → ℕ → ℕ → Type 0
ItemsUpTo c item P s at i = ReadUpTo (each c item) P s at i

module _ {A : Type 0} (c : ℕ) (item : Reader A) (s : Bytes) (at : ℕ) where
  pub passed_none : {P : List A → Type 0} → at ≤ length s → P [] → ItemsUpTo c item P s at at
  passed_none h p = read_none (each c item) s at h p

  module _ {P : List A → Type 0} (i : ℕ) (p : ItemsUpTo c item P s at i) (h : i < length s) (b : get_or s i 0 ≡ c) where
    pub passed_more : {Q : List A → Type 0} {allowed : ℕ → Bool} {n : ℕ} {x : A} {e : ℕ} → Takes allowed n item → Got item s (i + 1) x e
        → ((xs : List A) → P xs → Q (xs ++ (x ∷ []))) → ItemsUpTo c item Q s at e
    passed_more {x = x} {e = e} t g f = let o = g.onward in read_more (each c item) s at i p x e (each_more c item t s i h b x (drop e s) g.reads) (omega arith) g.inside f

    pub passed_stuck : {q : ℕ} → Fails item s (i + 1) q → Fails (each c item) s at q
    passed_stuck {q} g = let o = g.onward in read_stuck (each c item) s at i p (each_stuck c item s i h b (drop q s) g.reads) (omega arith) g.inside

  pub passed_stop : {P : List A → Type 0} (i : ℕ) (p : ItemsUpTo c item P s at i) → each c item (drop i s) ≡ got [] (drop i s) → Got (each c item) s at p.items i
  passed_stop i p e = read_stop (each c item) s at i p e

-- the items all told
pub passed_took : {A : Type 0} (c : ℕ) (item : Reader A) (marks : List A → List Mark) {P : List A → Type 0} (s : Bytes) (at i : ℕ) (outside : Option ℕ)
    → ItemsUpTo c item (λ xs. Told (marks xs) at i outside × P xs) s at i → each c item (drop i s) ≡ got [] (drop i s) → Took (each c item) marks P s at i outside
passed_took c item marks s at i outside p e =
    record { value = p.items; taken = passed_stop c item s at i p e; told = p.holds.0; holds = p.holds.1 }
