-- Readers that decide by the next byte: what they read stays what it is before any other rest that does not go on, and where they stop, some
-- other rest would have been read and none that begins with the same byte is. Assumes nothing.
use mathlib.Core.Path.{◌≡◌, refl, sym, ap, subst, ◌∙◌}
use mathlib.Core.Bool.{Bool, true, false, ◌||◌}
use mathlib.Core.Logic.{⊎_elim}
use mathlib.Core.List.{[], ◌∷◌, ◌++◌, append_assoc}
use Prim.Native.Nat.{ℕ}
use native.Mathlib.Omega.{arith}
use lib.Dec.{eqb}
use Rattle.ground.proofs.Tests.{split, or_cases}
use Rattle.paper.specs.Grammar.{Bytes, Read, got, stuck, Reader, next, give}
use Rattle.paper.proofs.Reading.{clash, parted}

-- z is empty, or begins with a byte that is not among these
abbrev pub Halts : (ℕ → Bool) → Bytes → Type 0
Halts goes [] = Unit {0}
Halts goes (b ∷ s) = goes b ≡ false

-- w begins with a byte that is among these
abbrev pub Begins : (ℕ → Bool) → Bytes → Type 0
Begins starts [] = ⊥
Begins starts (b ∷ s) = starts b ≡ true

-- x was read of s and u is left: it is read before every rest that does not begin with a byte that goes on from there
pub record Reads {A : Type 0} (read : Reader A) (goes : ℕ → Bool) (s : Bytes) (x : A) (u : Bytes) : Type 0 where
  pub taken : Bytes
  pub parts : s ≡ taken ++ u
  -- the bytes that would go on here
  pub going : ℕ → Bool
  pub among : (b : ℕ) → going b ≡ true → goes b ≡ true
  pub halts : Halts going u
  pub reads : (z : Bytes) → Halts going z → read (taken ++ z) ≡ got x z

-- the reader stops at u: what stands before u could have gone on, and no rest that begins with the byte at which it stops can
pub record StopsAt {A : Type 0} (read : Reader A) (goes starts : ℕ → Bool) (s u : Bytes) : Type 0 where
  pub taken : Bytes
  pub parts : s ≡ taken ++ u
  pub more : Bytes
  pub value : A
  pub begins : taken ≡ [] → Begins starts more
  pub reads : (z : Bytes) → Halts goes z → read (taken ++ (more ++ z)) ≡ got value z
  pub refuses : (b : ℕ) (v w : Bytes) → u ≡ b ∷ v → read (taken ++ (b ∷ w)) ≡ stuck (b ∷ w)

-- `goes`: all bytes that may go on from what was read; `starts`: those with which it may begin
pub record Exact {A : Type 0} (goes starts : ℕ → Bool) (read : Reader A) : Type 0 where
  pub gets : (s : Bytes) (x : A) (u : Bytes) → read s ≡ got x u → Reads read goes s x u
  pub stops : (s u : Bytes) → read s ≡ stuck u → StopsAt read goes starts s u

-- the same of one s
pub record ExactAt {A : Type 0} (goes starts : ℕ → Bool) (read : Reader A) (s : Bytes) : Type 0 where
  pub gets : (x : A) (u : Bytes) → read s ≡ got x u → Reads read goes s x u
  pub stops : (u : Bytes) → read s ≡ stuck u → StopsAt read goes starts s u

-- ---- bytes: none, one of two kinds, some that are among others, some that are not
abbrev pub no_byte : ℕ → Bool
no_byte b = false

abbrev pub only : ℕ → ℕ → Bool
only c b = eqb b c

abbrev pub either : (ℕ → Bool) → (ℕ → Bool) → ℕ → Bool
either p q b = p b || q b

abbrev pub Among : (ℕ → Bool) → (ℕ → Bool) → Type 0
Among p q = (b : ℕ) → p b ≡ true → q b ≡ true

abbrev pub Unlike : (ℕ → Bool) → (ℕ → Bool) → Type 0
Unlike p q = (b : ℕ) → p b ≡ true → q b ≡ false

pub true_false : {b : Bool} → b ≡ true → b ≡ false → ⊥
true_false e d = let z : ◌≡◌ {A = Bool} true false = cc in let y : ◌≡◌ {A = ℕ} 0 1 = cc in omega arith

module _ (p q : ℕ → Bool) where
  pub among_left : Among p (either p q)
  among_left b e = ap (λ (t : Bool). t || q b) e

  pub among_right : Among q (either p q)
  among_right b e = go (p b)
    where
      go : (t : Bool) → (t || q b) ≡ true
      go true = refl
      go false = e

  pub halts_both : (z : Bytes) → Halts p z → Halts q z → Halts (either p q) z
  halts_both [] h l = tt
  halts_both (b ∷ z) h l = ap (λ (t : Bool). t || q b) h ∙ l

module _ {p q : ℕ → Bool} where
  pub among_both : {r : ℕ → Bool} → Among p r → Among q r → Among (either p q) r
  among_both f g b e = ⊎_elim (f b) (g b) (or_cases (p b) (q b) e)

  pub halts_fewer : Among p q → (z : Bytes) → Halts q z → Halts p z
  halts_fewer f [] h = tt
  halts_fewer f (b ∷ z) h = ⊎_elim (λ e. absurd (true_false (f b e) h)) (λ e. e) (split (p b))

  pub begins_more : Among p q → (w : Bytes) → Begins p w → Begins q w
  begins_more f [] h = h
  begins_more f (b ∷ w) h = f b h

  pub begins_halts : Unlike p q → (w z : Bytes) → Begins p w → Halts q (w ++ z)
  begins_halts f [] z h = absurd h
  begins_halts f (b ∷ w) z h = f b h

pub halts_none : (z : Bytes) → Halts no_byte z
halts_none [] = tt
halts_none (b ∷ z) = refl

-- only what comes first matters
halts_first : (p : ℕ → Bool) (t v w : Bytes) (b : ℕ) → Halts p (t ++ (b ∷ v)) → Halts p (t ++ (b ∷ w))
halts_first p [] v w b h = h
halts_first p (c ∷ t) v w b h = h

halts_on : (p : ℕ → Bool) (t u z : Bytes) → Halts p (t ++ u) → (t ≡ [] → Halts p z) → Halts p (t ++ z)
halts_on p [] u z h f = f refl
halts_on p (c ∷ t) u z h f = h

begins_append : (p : ℕ → Bool) (w v : Bytes) → Begins p w → Begins p (w ++ v)
begins_append p [] v h = absurd h
begins_append p (b ∷ w) v h = h

no_bytes : (t u : Bytes) → t ++ u ≡ [] → (t ≡ []) × (u ≡ [])
no_bytes [] u e = (refl, e)
no_bytes (b ∷ t) u e = absurd (let z : ◌≡◌ {A = ℕ} 0 1 = cc in let y : ⊥ = omega arith in y)

-- ---- more bytes than need be, and a reader that reads alike
module _ {A : Type 0} {read : Reader A} where
  -- from all to one, and back
  pub exact_at : {goes starts : ℕ → Bool} → Exact goes starts read → (s : Bytes) → ExactAt goes starts read s
  exact_at e s = record { gets = e.gets s; stops = e.stops s }

  pub exact_all : {goes starts : ℕ → Bool} → ((s : Bytes) → ExactAt goes starts read s) → Exact goes starts read
  exact_all e = record { gets = λ s. (e s).gets; stops = λ s. (e s).stops }

  pub at_wider : {goes goes' starts starts' : ℕ → Bool} → Among goes goes' → Among starts starts' → {s : Bytes} → ExactAt goes starts read s → ExactAt goes' starts' read s
  at_wider {goes} {goes'} {starts} {starts'} g f {s} e = record { gets = λ x u d. reads (e.gets x u d); stops = λ u d. stops (e.stops u d) }
    where
      reads : {x : A} {u : Bytes} → Reads read goes s x u → Reads read goes' s x u
      reads a = record { taken = a.taken; parts = a.parts; going = a.going; among = λ b h. g b (a.among b h); halts = a.halts; reads = a.reads }

      stops : {u : Bytes} → StopsAt read goes starts s u → StopsAt read goes' starts' s u
      stops a =
          record {
            taken = a.taken;
            parts = a.parts;
            more = a.more;
            value = a.value;
            begins = λ e. begins_more f a.more (a.begins e);
            reads = λ z h. a.reads z (halts_fewer g z h);
            refuses = a.refuses;
          }

  pub exact_wider : {goes goes' starts starts' : ℕ → Bool} → Among goes goes' → Among starts starts' → Exact goes starts read → Exact goes' starts' read
  exact_wider g f e = exact_all (λ s. at_wider g f (exact_at e s))

  pub exact_same : {goes starts : ℕ → Bool} {read' : Reader A} → ((s : Bytes) → read s ≡ read' s) → Exact goes starts read → Exact goes starts read'
  exact_same {goes} {starts} h e = subst (λ (r : Reader A). Exact goes starts r) (λ i s. h s i) e

-- nothing is taken
pub exact_give : {A : Type 0} (x : A) → Exact no_byte no_byte (give x)
exact_give x = record { gets = got_it; stops = λ s u e. absurd (clash (sym e)) }
  where
    got_it : (s : Bytes) (y : _) (u : Bytes) → got x s ≡ got y u → Reads (give x) no_byte s y u
    got_it s y u e =
        let d : x ≡ y = cc in
        record { taken = []; parts = cc; going = no_byte; among = λ b h. h; halts = halts_none u; reads = λ z h. ap (λ (v : _). got v z) d }

-- ---- one reader after the other
-- some bytes that are read before every rest that does not go on: none, or first one of `starts`
pub record Fills {A : Type 0} (read : Reader A) (goes starts : ℕ → Bool) : Type 0 where
  pub bytes : Bytes
  pub value : A
  pub apart : (p : ℕ → Bool) → Unlike starts p → (z : Bytes) → (bytes ≡ [] → Halts p z) → Halts p (bytes ++ z)
  pub reads : (z : Bytes) → Halts goes z → read (bytes ++ z) ≡ got value z

pub fills : {A : Type 0} {goes starts : ℕ → Bool} (read : Reader A) → ExactAt goes starts read [] → Fills read goes starts
fills {A} {goes} {starts} read e = go (read []) refl
  where
    go : (r : Read A) → read [] ≡ r → Fills read goes starts
    go (got x u) d =
        let a = e.gets x u d in
        let n : a.taken ≡ [] = (no_bytes a.taken u (sym a.parts)).0 in
        record {
          bytes = [];
          value = x;
          apart = λ p d z h. h refl;
          reads = λ z h. ap (λ (t : Bytes). read (t ++ z)) (sym n) ∙ a.reads z (halts_fewer a.among z h);
        }
    go (stuck u) d =
        let a = e.stops u d in
        let n : a.taken ≡ [] = (no_bytes a.taken u (sym a.parts)).0 in
        record {
          bytes = a.more;
          value = a.value;
          apart = λ p d z h. begins_halts d a.more z (a.begins n);
          reads = λ z h. ap (λ (t : Bytes). read (t ++ (a.more ++ z))) (sym n) ∙ a.reads z h;
        }

-- P, if the reader can read nothing
abbrev pub IfNone : {A : Type 0} → Reader A → Type 0 → Type 0
IfNone {A} read P = (s : Bytes) (x : A) → read s ≡ got x s → P

module _ {A B : Type 0} (read : Reader A) (f : A → Reader B) {g₁ g₂ goes : ℕ → Bool} (in₂ : Among g₂ goes) (in₁ : (x : A) → IfNone (f x) (Among g₁ goes)) where
  -- both read
  next_reads : {s m u : Bytes} {x : A} {y : B} → Reads read g₁ s x m → Reads (f x) g₂ m y u → Reads (λ s. next (read s) f) goes s y u
  next_reads {s} {m} {u} {x} {y} a b = go b.taken b.parts b.reads
    where
      go : (t : Bytes) → m ≡ t ++ u → ((z : Bytes) → Halts b.going z → f x (t ++ z) ≡ got y z) → Reads (λ s. next (read s) f) goes s y u
      go [] p d =
          let h : Halts a.going u = subst (Halts a.going) p a.halts in
          record {
            taken = a.taken;
            parts = a.parts ∙ ap (λ (w : Bytes). a.taken ++ w) p;
            going = either a.going b.going;
            among = among_both (λ c h. in₁ x u y (d u b.halts) c (a.among c h)) (λ c h. in₂ c (b.among c h));
            halts = halts_both a.going b.going u h b.halts;
            reads = λ z h. ap (λ (r : Read A). next r f) (a.reads z (halts_fewer (among_left a.going b.going) z h))
                ∙ d z (halts_fewer (among_right a.going b.going) z h);
          }
      go (c ∷ t) p d =
          let h : a.going c ≡ false = subst (Halts a.going) p a.halts in
          record {
            taken = a.taken ++ (c ∷ t);
            parts = a.parts ∙ ap (λ (w : Bytes). a.taken ++ w) p ∙ sym (append_assoc a.taken (c ∷ t) u);
            going = b.going;
            among = λ c h. in₂ c (b.among c h);
            halts = b.halts;
            reads = λ z l. ap (λ (w : Bytes). next (read w) f) (append_assoc a.taken (c ∷ t) z)
                ∙ ap (λ (r : Read A). next r f) (a.reads ((c ∷ t) ++ z) h)
                ∙ d z l;
          }

  module _ {s₂ starts : ℕ → Bool} (apart : Unlike s₂ g₁) where
    -- the second stops
    next_stops : IfNone read (Among s₂ starts) → {s m u : Bytes} {x : A} → Reads read g₁ s x m → StopsAt (f x) g₂ s₂ m u → StopsAt (λ s. next (read s) f) goes starts s u
    next_stops into {s} {m} {u} {x} a b =
        let t : Bytes = b.taken in
        let h : Halts a.going (t ++ u) = subst (Halts a.going) b.parts a.halts in
        record {
          taken = a.taken ++ t;
          parts = a.parts ∙ ap (λ (w : Bytes). a.taken ++ w) b.parts ∙ sym (append_assoc a.taken t u);
          more = b.more;
          value = b.value;
          begins = λ e. let n = no_bytes a.taken t e in begins_more (into m x (ap (λ (w : Bytes). read (w ++ m)) (sym n.0) ∙ a.reads m a.halts)) b.more (b.begins n.1);
          reads = λ z l. ap (λ (w : Bytes). next (read w) f) (append_assoc a.taken t (b.more ++ z))
              ∙ ap (λ (r : Read A). next r f)
              (a.reads (t ++ (b.more ++ z)) (halts_on a.going t u (b.more ++ z) h (λ e. halts_fewer a.among (b.more ++ z) (begins_halts apart b.more z (b.begins e)))))
              ∙ b.reads z (halts_fewer in₂ z l);
          refuses = λ c v w e. ap (λ (w : Bytes). next (read w) f) (append_assoc a.taken t (c ∷ w))
              ∙ ap (λ (r : Read A). next r f) (a.reads (t ++ (c ∷ w)) (halts_first a.going t v w c (subst (λ (q : Bytes). Halts a.going (t ++ q)) e h)))
              ∙ b.refuses c v w e;
        }

    -- the first stops
    stops_next : {s₁ : ℕ → Bool} → ((x : A) → Fills (f x) g₂ s₂) → Among s₁ starts → {s u : Bytes} → StopsAt read g₁ s₁ s u → StopsAt (λ s. next (read s) f) goes starts s u
    stops_next fill into {s} {u} a =
        let w = fill a.value in
        record {
          taken = a.taken;
          parts = a.parts;
          more = a.more ++ w.bytes;
          value = w.value;
          begins = λ e. begins_append starts a.more w.bytes (begins_more into a.more (a.begins e));
          reads = λ z h. ap (λ (v : Bytes). next (read (a.taken ++ v)) f) (append_assoc a.more w.bytes z)
              ∙ ap (λ (r : Read A). next r f) (a.reads (w.bytes ++ z) (w.apart g₁ apart z (λ e. halts_fewer (in₁ a.value z w.value (ap (λ (v : Bytes). f a.value (v ++ z)) (sym e) ∙ w.reads z (halts_fewer in₂ z h))) z h)))
              ∙ w.reads z (halts_fewer in₂ z h);
          refuses = λ c v w e. ap (λ (r : Read A). next r f) (a.refuses c v w e);
        }

    module _ {s₁ : ℕ → Bool} (i : Among s₁ starts) (j : IfNone read (Among s₂ starts)) where
      -- all that is asked of the second is at what the first leaves, and at nothing
      pub at_next : (s : Bytes) → ExactAt g₁ s₁ read s → ((x : A) (m : Bytes) → read s ≡ got x m → ExactAt g₂ s₂ (f x) m) → ((x : A) → ExactAt g₂ s₂ (f x) [])
          → ExactAt goes starts (λ s. next (read s) f) s
      at_next s e d fill =
          record {
            gets = λ y u h. let p = parted (read s) f h in next_reads (e.gets p.value p.rest p.first) ((d p.value p.rest p.first).gets y u p.second);
            stops = λ u h. go u (read s) refl h;
          }
        where
          go : (u : Bytes) (r : Read A) → read s ≡ r → next r f ≡ stuck u → StopsAt (λ s. next (read s) f) goes starts s u
          go u (got x m) q h = next_stops j (e.gets x m q) ((d x m q).stops u h)
          go u (stuck m) q h = let n : m ≡ u = cc in stops_next (λ x. fills (f x) (fill x)) i (e.stops u (q ∙ ap stuck n))

      pub exact_next : Exact g₁ s₁ read → ((x : A) → Exact g₂ s₂ (f x)) → Exact goes starts (λ s. next (read s) f)
      exact_next e d = exact_all (λ s. at_next s (exact_at e s) (λ x m q. exact_at (d x) m) (λ x. exact_at (d x) []))

-- with no more said of the two than that the second does not begin as the first goes on
pub exact_then : {A B : Type 0} (read : Reader A) (f : A → Reader B) {g₁ g₂ s₁ s₂ : ℕ → Bool} → Unlike s₂ g₁ → Exact g₁ s₁ read → ((x : A) → Exact g₂ s₂ (f x))
    → Exact (either g₁ g₂) (either s₁ s₂) (λ s. next (read s) f)
exact_then read f {g₁} {g₂} {s₁} {s₂} apart =
    exact_next read f (among_right g₁ g₂) (λ x s y e. among_left g₁ g₂) apart (among_left s₁ s₂) (λ s x e. among_right s₁ s₂)
