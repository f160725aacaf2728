-- Readers that go by their first byte: one that must be there, one that may, as many as follow; literals. Assumes nothing.
use mathlib.Core.Path.{◌≡◌, refl, sym, ap, ◌∙◌}
use mathlib.Core.Bool.{Bool, true, false}
use mathlib.Core.Logic.{⊎_elim}
use mathlib.Core.List.{[], ◌∷◌, ◌++◌}
use Prim.Native.Nat.{ℕ, zero, suc, ◌≤◌}
use native.Mathlib.Nat.{not-suc-le-zero}
use native.Mathlib.Omega.{arith}
use lib.Dec.{eqb}
use lib.ListN.{length, take, drop, length-append}
use lib.Seq.{drop-append_seam}
use borrow.Author.Tests.{eqb-true, eq-eqb}
use Rattle.ground.proofs.Tests.{split, or_cases, cond_yes, cond_no}
use Rattle.paper.specs.Grammar.{Bytes, Read, got, stuck, Reader, next, give, literal, up_to, each}
use Rattle.paper.proofs.Reading.{clash, byte, Takes, every_true, after_length, takes_literal, each_more, each_stuck, each_stop, each_end}
use Rattle.paper.proofs.Exact.{Halts, Begins, Reads, StopsAt, Exact, ExactAt, no_byte, only, either, Among, Unlike, true_false, among_left, among_right, exact_at, exact_all, at_wider, exact_give, fills, at_next, exact_next}

-- ---- no bytes, one, and those of two kinds
pub among_none : (p : ℕ → Bool) → Among no_byte p
among_none p b e = absurd (true_false e refl)

pub unlike_none : (p : ℕ → Bool) → Unlike no_byte p
unlike_none p b e = absurd (true_false e refl)

pub unlike_one : (c : ℕ) (p : ℕ → Bool) → p c ≡ false → Unlike (only c) p
unlike_one c p e b h = ap p (eqb-true b c h) ∙ e

pub unlike_both : {p q r : ℕ → Bool} → Unlike p r → Unlike q r → Unlike (either p q) r
unlike_both {p} {q} f g b e = ⊎_elim (f b) (g b) (or_cases (p b) (q b) e)

-- ---- what the first byte says
-- by whether a byte that is among these comes first
by_first : (P : Bytes → Type 0) (here : ℕ → Bool) → ((b : ℕ) (s : Bytes) → here b ≡ true → P (b ∷ s)) → ((s : Bytes) → Halts here s → P s) → (s : Bytes) → P s
by_first P here f g [] = g [] tt
by_first P here f g (b ∷ s) = ⊎_elim (f b s) (g (b ∷ s)) (split (here b))

module _ {A : Type 0} {read : Reader A} where
  -- read as another reader does behind the byte b
  at_behind : (b : ℕ) {q : Reader A} → ((z : Bytes) → read (b ∷ z) ≡ q z) → {goes s₁ : ℕ → Bool} (starts : ℕ → Bool) {s : Bytes} → ExactAt goes s₁ q s → ExactAt goes starts read (b ∷ s)
  at_behind b {q} same {goes} {s₁} starts {s} e = record { gets = λ x u d. reads (e.gets x u (sym (same s) ∙ d)); stops = λ u d. stops (e.stops u (sym (same s) ∙ d)) }
    where
      reads : {x : A} {u : Bytes} → Reads q goes s x u → Reads read goes (b ∷ s) x u
      reads a = record {
        taken = b ∷ a.taken;
        parts = ap (λ (w : Bytes). b ∷ w) a.parts;
        going = a.going;
        among = a.among;
        halts = a.halts;
        reads = λ z h. same (a.taken ++ z) ∙ a.reads z h;
      }

      stops : {u : Bytes} → StopsAt q goes s₁ s u → StopsAt read goes starts (b ∷ s) u
      stops a = record {
        taken = b ∷ a.taken;
        parts = ap (λ (w : Bytes). b ∷ w) a.parts;
        more = a.more;
        value = a.value;
        begins = λ e. absurd (let z : ◌≡◌ {A = ℕ} 0 1 = cc in let y : ⊥ = omega arith in y);
        reads = λ z h. same (a.taken ++ (a.more ++ z)) ∙ a.reads z h;
        refuses = λ c v w e. same (a.taken ++ (c ∷ w)) ∙ a.refuses c v w e;
      }

  module _ (here : ℕ → Bool) where
    -- nothing is taken where none of these comes first
    at_rests : (x : A) → ((z : Bytes) → Halts here z → read z ≡ got x z) → (starts : ℕ → Bool) (s : Bytes) → Halts here s → ExactAt here starts read s
    at_rests x rests starts s h = record { gets = reads; stops = λ u e. absurd (clash (sym e ∙ rests s h)) }
      where
        reads : (y : A) (u : Bytes) → read s ≡ got y u → Reads read here s y u
        reads y u e =
            let d = rests s h in
            let p : s ≡ u = cc in
            let q : x ≡ y = cc in
            record { taken = []; parts = p; going = here; among = λ b h. h; halts = rw p at h; reads = λ z l. rests z l ∙ ap (λ (v : A). got v z) q }

    -- it stops where none of these comes first
    at_stops : ((z : Bytes) → Halts here z → read z ≡ stuck z) → {goes starts : ℕ → Bool} (more : Bytes) (x : A) → Begins starts more
        → ((z : Bytes) → Halts goes z → read (more ++ z) ≡ got x z) → (s : Bytes) → Halts here s → ExactAt goes starts read s
    at_stops ends {goes} {starts} more x begins reads s h = record { gets = λ y u e. absurd (clash (sym (ends s h) ∙ e)); stops = stops }
      where
        stops : (u : Bytes) → read s ≡ stuck u → StopsAt read goes starts s u
        stops u e =
            let d = ends s h in
            let p : s ≡ u = cc in
            record {
              taken = [];
              parts = p;
              more = more;
              value = x;
              begins = λ e. begins;
              reads = reads;
              refuses = λ b v w e. ends (b ∷ w) (let l : Halts here (b ∷ v) = rw (p ∙ e) at h in l);
            }

  module _ (here : ℕ → Bool) (item : ℕ → Reader A) (led : (b : ℕ) (z : Bytes) → here b ≡ true → read (b ∷ z) ≡ item b z)
      {goes : ℕ → Bool} {s₁ : ℕ → ℕ → Bool} (exact : (b : ℕ) → here b ≡ true → Exact goes (s₁ b) (item b)) where
    -- one of these comes first, c for example
    pub exact_led : ((z : Bytes) → Halts here z → read z ≡ stuck z) → (c : ℕ) → here c ≡ true → Exact goes (only c) read
    exact_led ends c h =
        let w = fills (item c) (exact_at (exact c h) []) in
        exact_all (by_first (λ s. ExactAt goes (only c) read s) here (λ b s l. at_behind b (λ z. led b z l) (only c) (exact_at (exact b l) s))
        (at_stops here ends (c ∷ w.bytes) w.value (eq-eqb c c refl) (λ z l. led c (w.bytes ++ z) h ∙ w.reads z l)))

    -- one of these may come first
    pub exact_maybe : (x : A) → ((z : Bytes) → Halts here z → read z ≡ got x z) → Exact (either here goes) no_byte read
    exact_maybe x rests =
        exact_all (by_first (λ s. ExactAt (either here goes) no_byte read s) here
        (λ b s l. at_wider (among_right here goes) (λ b h. h) (at_behind b (λ z. led b z l) no_byte (exact_at (exact b l) s)))
        (λ s l. at_wider (among_left here goes) (λ b h. h) (at_rests here x rests no_byte s l)))

-- ---- as many items as follow
reads_fewer : {A : Type 0} {read : Reader A} {goes : ℕ → Bool} {s : Bytes} {x : A} {u : Bytes} → Reads read goes s x u → length u ≤ length s
reads_fewer {u = u} a = omega (arith, ap length a.parts, length-append a.taken u)

-- each behind one of these bytes; `read n` is the reader where the bytes so far made n, `join` puts an item before what follows it
module _ {N X Y : Type 0} (read : N → Reader Y) (here : ℕ → Bool) (item : ℕ → Reader X) (step : N → ℕ → N) (join : X → Y → Y) (empty : N → Y)
    (led : (n : N) (b : ℕ) (z : Bytes) → here b ≡ true → read n (b ∷ z) ≡ next (item b z) (λ x r. next (read (step n b) r) (λ y t. got (join x y) t)))
    (rests : (n : N) (z : Bytes) → Halts here z → read n z ≡ got (empty n) z)
    {goes : ℕ → Bool} {s₁ : ℕ → ℕ → Bool} (exact : (b : ℕ) → here b ≡ true → Exact goes (s₁ b) (item b)) where
  -- one item more than in k bytes
  at_more : {k : ℕ} → ((n : N) (s : Bytes) → length s ≤ k → ExactAt (either here goes) no_byte (read n) s)
      → (n : N) (b : ℕ) (s : Bytes) → here b ≡ true → length s ≤ k → ExactAt (either here goes) no_byte (read n) (b ∷ s)
  at_more {k} fewer n b s h l =
      at_behind b (λ z. led n b z h) no_byte
      (at_next (item b) (λ x r. next (read (step n b) r) (λ y t. got (join x y) t)) (λ c e. e) (λ x s y e. among_right here goes) (unlike_none goes)
      (λ c e. e) (λ s x e. among_none (s₁ b)) s (exact_at (exact b h) s)
      (λ x m e. behind x m (omega (arith, reads_fewer ((exact b h).gets s x m e)))) (λ x. behind x [] (omega arith)))
    where
      behind : (x : X) (m : Bytes) → length m ≤ k → ExactAt (either here goes) no_byte (λ r. next (read (step n b) r) (λ y t. got (join x y) t)) m
      behind x m l =
          at_next (read (step n b)) (λ y t. got (join x y) t) (among_none (either here goes)) (λ y s z e c h. h) (unlike_none (either here goes))
          (λ c e. e) (λ s x e c h. h) m (fewer (step n b) m l) (λ y t e. exact_at (exact_give (join x y)) t) (λ y. exact_at (exact_give (join x y)) [])

  -- no item
  at_none : (n : N) (s : Bytes) → Halts here s → ExactAt (either here goes) no_byte (read n) s
  at_none n s h = at_wider (among_left here goes) (λ b h. h) (at_rests here (empty n) (rests n) no_byte s h)

  many_at : (k : ℕ) (n : N) (s : Bytes) → length s ≤ k → ExactAt (either here goes) no_byte (read n) s
  many_at zero n s l =
      by_first (λ s. length s ≤ 0 → ExactAt (either here goes) no_byte (read n) s) here (λ b s h l. absurd (not-suc-le-zero l)) (λ s h l. at_none n s h) s l
  many_at (suc k) n s l =
      by_first (λ s. length s ≤ suc k → ExactAt (either here goes) no_byte (read n) s) here (λ b s h l. at_more (many_at k) n b s h (omega arith)) (λ s h l. at_none n s h) s l

  pub exact_many : (n : N) → Exact (either here goes) no_byte (read n)
  exact_many n = exact_all (λ s. many_at (length s) n s (omega arith))

-- ---- items behind one byte, and literals
-- what is left is an end of what was there
pub exact_takes : {A : Type 0} {goes starts : ℕ → Bool} (read : Reader A) → Exact goes starts read → Takes byte 0 read
exact_takes read e s x r d =
    let a = e.gets s x r d in
    record {
      taken = length a.taken;
      least = omega arith;
      inside = omega (arith, ap length a.parts, length-append a.taken r);
      rest = sym (ap (drop (length a.taken)) a.parts ∙ drop-append_seam a.taken r);
      clear = every_true (take (length a.taken) s);
    }

-- each behind the byte c
pub exact_each : {A : Type 0} {goes starts : ℕ → Bool} (c : ℕ) (item : Reader A) → Exact goes starts item → Exact (either (only c) goes) no_byte (each c item)
unfolding up_to
exact_each {A} {goes} {starts} c item exact =
    exact_many (λ (_ : Unit {0}). each c item) (only c) (λ b. item) (λ n b. tt) (λ x xs. x ∷ xs) (λ n. []) led rests (λ b h. exact) tt
  where
    led : (n : Unit {0}) (b : ℕ) (z : Bytes) → eqb b c ≡ true → each c item (b ∷ z) ≡ next (item z) (λ x r. next (each c item r) (λ xs t. got (x ∷ xs) t))
    led n b z h = go (item z) refl
      where
        go : (r : Read A) → item z ≡ r → each c item (b ∷ z) ≡ next r (λ x r. next (each c item r) (λ xs t. got (x ∷ xs) t))
        go (got x r) e = each_more c item (exact_takes item exact) (b ∷ z) 0 (omega arith) (eqb-true b c h) x r e
        go (stuck r) e = each_stuck c item (b ∷ z) 0 (omega arith) (eqb-true b c h) r e

    rests : (n : Unit {0}) (z : Bytes) → Halts (only c) z → each c item z ≡ got [] z
    rests n [] h = each_end c item [] 0 (omega arith)
    rests n (b ∷ z) h = each_stop c item (b ∷ z) 0 (omega arith) (λ e. true_false (eq-eqb b c e) h)

-- the byte with which a literal begins
abbrev pub leading : Bytes → ℕ → Bool
leading [] = no_byte
leading (c ∷ w) = only c

-- nothing goes on from a literal
pub exact_literal : (w : Bytes) → Exact no_byte (leading w) (literal w)
unfolding literal
exact_literal [] = exact_give tt
exact_literal (c ∷ w) =
    exact_led (only c) (λ b. literal w) (λ b z h. cond_yes (eqb b c) (literal w z) (stuck (b ∷ z)) h) (λ b h. exact_literal w) ends c (eq-eqb c c refl)
  where
    ends : (z : Bytes) → Halts (only c) z → literal (c ∷ w) z ≡ stuck z
    ends [] h = refl
    ends (b ∷ z) h = cond_no (eqb b c) (literal w z) (stuck (b ∷ z)) h

-- ---- forms of readers in a row
module _ {A B : Type 0} (read : Reader A) {g₁ s₁ : ℕ → Bool} (exact : Exact g₁ s₁ read) where
  -- with something made of what was read
  pub exact_map : (f : A → B) → Exact g₁ s₁ (λ s. next (read s) (λ x. give (f x)))
  exact_map f =
      exact_next read (λ x. give (f x)) (among_none g₁) (λ x s y e b h. h) (unlike_none g₁) (λ b h. h) (λ s x e. among_none s₁) exact (λ x. exact_give (f x))

  -- the second never stops at its first byte
  pub exact_more : (f : A → Reader B) {g₂ : ℕ → Bool} → ((x : A) → Exact g₂ no_byte (f x)) → Exact (either g₁ g₂) s₁ (λ s. next (read s) f)
  exact_more f {g₂} d = exact_next read f (among_right g₁ g₂) (λ x s y e. among_left g₁ g₂) (unlike_none g₁) (λ b h. h) (λ s x e. among_none s₁) exact d

-- behind a literal
pub exact_behind : {A : Type 0} (c : ℕ) (w : Bytes) (read : Reader A) {goes starts : ℕ → Bool} → Exact goes starts read → Exact goes (only c) (λ s. next (literal (c ∷ w) s) (λ _. read))
exact_behind c w read {goes} {starts} e =
    exact_next (literal (c ∷ w)) (λ _. read) (λ b h. h) (λ x s y e. among_none goes) (λ b h. refl) (λ b h. h) (λ s x d. absurd (some s x d)) (exact_literal (c ∷ w)) (λ x. e)
  where
    some : (s : Bytes) (x : Unit {0}) → literal (c ∷ w) s ≡ got x s → ⊥
    some s x d = omega (arith, after_length (takes_literal (c ∷ w) s x s d))
