-- The byte of bad form: where a reader of the whole stops is one past the longest beginning that a well-formed one shares. Assumes nothing.
use mathlib.Core.Path.{◌≡◌, refl, sym, ap, subst, ◌∙◌}
use mathlib.Core.Bool.{Bool, true, false}
use mathlib.Core.List.{[], ◌∷◌, ◌++◌, append_assoc, append-nil}
use Prim.Native.Nat.{ℕ, suc, ◌-◌, ◌≤◌, ◌<◌}
use native.Mathlib.Omega.{arith}
use native.Mathlib.Numerals.{add-one}
use lib.ListN.{length, take, drop, length-append, take-append-drop}
use lib.Seq.{take-append_seam, take-append-add}
use Rattle.ground.proofs.Lists.{take_fewer}
use Rattle.paper.specs.Grammar.{Bytes, Read, got, stuck, Reader, next, give, end, if_ended}
use Rattle.paper.specs.Beginnings.{Formed, Shares, FormByte}
use Rattle.paper.proofs.Reading.{clash}
use Rattle.paper.proofs.Exact.{Exact}

-- u is left of s: what stands before it begins a well-formed one, and with the first byte of u it does not
pub record FailsAt {A : Type 0} (read : Reader A) (s u : Bytes) : Type 0 where
  pub taken : Bytes
  pub parts : s ≡ taken ++ u
  pub more : Bytes
  pub formed : 0 < length taken → Formed read (taken ++ more)
  pub refuses : (b : ℕ) (v w : Bytes) → u ≡ b ∷ v → Formed read (taken ++ (b ∷ w)) → ⊥

-- one byte more
goes_on : (t u w : Bytes) (b : ℕ) → take (suc (length t)) w ≡ take (suc (length t)) (t ++ (b ∷ u)) → w ≡ t ++ (b ∷ drop (suc (length t)) w)
goes_on t u w b e =
    let d : take (suc (length t)) (t ++ (b ∷ u)) ≡ t ++ (b ∷ []) = rw (← add-one (length t)) (take-append-add t (b ∷ u) 1) in
    sym (take-append-drop (suc (length t)) w)
    ∙ ap (λ (v : Bytes). v ++ drop (suc (length t)) w) (e ∙ d)
    ∙ append_assoc t (b ∷ []) (drop (suc (length t)) w)

module _ {A : Type 0} {read : Reader A} where
  pub fails_inside : {s u : Bytes} → FailsAt read s u → length u ≤ length s
  fails_inside {u = u} a = omega (arith, ap length a.parts, length-append a.taken u)

  -- one past what was taken
  form_byte : (t u more : Bytes) → (0 < length t → Formed read (t ++ more)) → ((b : ℕ) (v w : Bytes) → u ≡ b ∷ v → Formed read (t ++ (b ∷ w)) → ⊥)
      → FormByte read (t ++ u) (suc (length t))
  form_byte t u more formed refuses =
      record {
        shared = length t;
        counted = refl;
        inside = omega (arith, length-append t u);
        before = λ h. record {
          whole = t ++ more;
          formed = formed h;
          long = omega (arith, length-append t more);
          alike = take-append_seam t more ∙ sym (take-append_seam t u);
        };
        beyond = beyond u refuses;
      }
    where
      beyond : (u : Bytes) → ((b : ℕ) (v w : Bytes) → u ≡ b ∷ v → Formed read (t ++ (b ∷ w)) → ⊥) → length t < length (t ++ u) → Shares read (suc (length t)) (t ++ u) → ⊥
      beyond [] f h a = omega (arith, length-append t [])
      beyond (b ∷ v) f h a = f b v (drop (suc (length t)) a.whole) refl (subst (Formed read) (goes_on t v a.whole b a.alike) a.formed)

  pub fails_byte : {s u : Bytes} → FailsAt read s u → FormByte read s (suc (length s - length u))
  fails_byte {s} {u} a =
      let n : length a.taken ≡ length s - length u = omega (arith, ap length a.parts, length-append a.taken u) in
      subst (λ (m : ℕ). FormByte read s (suc m)) n (subst (λ (w : Bytes). FormByte read w (suc (length a.taken))) (sym a.parts) (form_byte a.taken u a.more a.formed a.refuses))

  -- a shorter beginning is shared as well
  no_later : {s : Bytes} {b c : ℕ} → FormByte read s b → FormByte read s c → b < c → ⊥
  no_later {s} p q h =
      let k : p.shared < q.shared = omega arith in
      let a = q.before (omega arith) in
      let l = a.long in
      p.beyond (omega arith)
      (record { whole = a.whole; formed = a.formed; long = omega arith; alike = take_fewer (suc p.shared) q.shared s a.whole k a.alike })

  -- there is one such byte
  pub one_form_byte : {s : Bytes} {b c : ℕ} → FormByte read s b → FormByte read s c → b ≡ c
  one_form_byte {s} {b} {c} p q = let f : b < c → ⊥ = no_later p q in let g : c < b → ⊥ = no_later q p in omega arith

-- ---- a reader of the whole
abbrev pub whole : {A : Type 0} → Reader A → Reader A
whole read = λ s. next (read s) (λ x r. next (end r) (λ _. give x))

module _ {A : Type 0} (read : Reader A) where
  whole_of : {s : Bytes} {r : Read A} → read s ≡ r → whole read s ≡ next r (λ x r. next (end r) (λ _. give x))
  whole_of e = ap (λ (r : Read A). next r (λ x r. next (end r) (λ _. give x))) e

  -- nothing is left
  pub whole_all : (s : Bytes) (x : A) (u : Bytes) → whole read s ≡ got x u → u ≡ []
  unfolding end
  whole_all s x u e = go (read s) e
    where
      go : (r : Read A) → next r (λ x r. next (end r) (λ _. give x)) ≡ got x u → u ≡ []
      go (stuck m) e = absurd (clash e)
      go (got y []) e = cc
      go (got y (b ∷ v)) e = absurd (clash e)

  module _ {goes starts : ℕ → Bool} (exact : Exact goes starts read) where
    -- the reader stops
    stops_fails : {s u : Bytes} → read s ≡ stuck u → FailsAt (whole read) s u
    unfolding end
    stops_fails {s} {u} e =
        let a = exact.stops s u e in
        record {
          taken = a.taken;
          parts = a.parts;
          more = a.more;
          formed = λ h. record { says = a.value; reads = whole_of (ap (λ (w : Bytes). read (a.taken ++ w)) (sym (append-nil a.more)) ∙ a.reads [] tt) };
          refuses = λ b v w d f. clash (sym (whole_of (a.refuses b v w d)) ∙ f.reads);
        }

    -- something is left
    left_fails : {s : Bytes} {x : A} {b : ℕ} {v : Bytes} → read s ≡ got x (b ∷ v) → FailsAt (whole read) s (b ∷ v)
    unfolding end
    left_fails {s} {x} {b} {v} e =
        let a = exact.gets s x (b ∷ v) e in
        record {
          taken = a.taken;
          parts = a.parts;
          more = [];
          formed = λ h. record { says = x; reads = whole_of (a.reads [] tt) };
          refuses = λ c u w d f. clash (sym (whole_of (a.reads (c ∷ w) (let q : b ≡ c = cc in let h : a.going b ≡ false = a.halts in ap a.going (sym q) ∙ h))) ∙ f.reads);
        }

    -- it stops where no well-formed one goes on
    pub whole_fails : (s u : Bytes) → whole read s ≡ stuck u → FailsAt (whole read) s u
    unfolding end
    whole_fails s u e = go (read s) refl e
      where
        go : (r : Read A) → read s ≡ r → next r (λ x r. next (end r) (λ _. give x)) ≡ stuck u → FailsAt (whole read) s u
        go (stuck m) d e = let q : m ≡ u = cc in stops_fails (d ∙ ap stuck q)
        go (got x []) d e = absurd (clash (sym e))
        go (got x (b ∷ v)) d e = let q : b ∷ v ≡ u = cc in subst (FailsAt (whole read) s) q (left_fails d)

    -- the byte at which it stops is that of the form
    pub whole_byte : (s u : Bytes) → whole read s ≡ stuck u → FormByte (whole read) s (suc (length s - length u))
    whole_byte s u e = fails_byte (whole_fails s u e)

-- ---- what lacks its end, what begins as another, what begins as none
module _ {A : Type 0} {read : Reader A} where
  -- all was read
  all_fails : {s : Bytes} {x : A} → read s ≡ got x [] → FailsAt read s []
  all_fails {s} {x} e =
      record {
        taken = s;
        parts = sym (append-nil s);
        more = [];
        formed = λ h. record { says = x; reads = ap read (append-nil s) ∙ e };
        refuses = λ b v w d f. absurd (let z : ◌≡◌ {A = ℕ} 0 1 = cc in let y : ⊥ = omega arith in y);
      }

  -- what is read to its end and lacks its last byte stops there
  pub ended_fails : ((s : Bytes) (x : A) (r : Bytes) → read s ≡ got x r → r ≡ []) → ((s u : Bytes) → read s ≡ stuck u → FailsAt read s u)
      → (ended : Bool) (s u : Bytes) → if_ended ended (read s) ≡ stuck u → FailsAt read s u
  ended_fails all fails true s u e = fails s u e
  ended_fails all fails false s u e = go (read s) refl e
    where
      go : (r : Read A) → read s ≡ r → next {B = A} r (λ x r. stuck r) ≡ stuck u → FailsAt read s u
      go (got x r) d e = let n : r ≡ [] = all s x r d in let q : r ≡ u = cc in subst (FailsAt read s) (sym n ∙ q) (all_fails (d ∙ ap (got x) n))
      go (stuck r) d e = let q : r ≡ u = cc in fails s u (d ∙ ap stuck q)

  -- no well-formed one begins with this byte, or nothing stands there
  pub none_fails : (s : Bytes) → ((b : ℕ) (v w : Bytes) → s ≡ b ∷ v → read (b ∷ w) ≡ stuck (b ∷ w)) → FailsAt read s s
  none_fails s ends =
      record { taken = []; parts = refl; more = []; formed = λ h. absurd (let y : ⊥ = omega arith in y); refuses = λ b v w d f. clash (sym (ends b v w d) ∙ f.reads) }

  -- another reader that reads alike what begins with the byte b
  pub fails_alike : {other : Reader A} (b : ℕ) → ((z : Bytes) → read (b ∷ z) ≡ other (b ∷ z)) → (s u : Bytes) → FailsAt read (b ∷ s) u → FailsAt other (b ∷ s) u
  fails_alike {other} b same s u a = go a.taken a.parts a.formed a.refuses
    where
      go : (t : Bytes) → b ∷ s ≡ t ++ u → (0 < length t → Formed read (t ++ a.more)) → ((c : ℕ) (v w : Bytes) → u ≡ c ∷ v → Formed read (t ++ (c ∷ w)) → ⊥) → FailsAt other (b ∷ s) u
      go [] p f r =
          record {
            taken = [];
            parts = p;
            more = [];
            formed = λ h. absurd (let y : ⊥ = omega arith in y);
            refuses = λ c v w d x. let q : b ≡ c = cc in
                r c v w d (record { says = x.says; reads = ap (λ (k : ℕ). read (k ∷ w)) (sym q) ∙ same w ∙ ap (λ (k : ℕ). other (k ∷ w)) q ∙ x.reads });
          }
      go (c ∷ t) p f r =
          let q : b ≡ c = cc in
          let like : (z : Bytes) → read (c ∷ z) ≡ other (c ∷ z) = λ z. ap (λ (k : ℕ). read (k ∷ z)) (sym q) ∙ same z ∙ ap (λ (k : ℕ). other (k ∷ z)) q in
          record {
            taken = c ∷ t;
            parts = p;
            more = a.more;
            formed = λ h. let x = f h in record { says = x.says; reads = sym (like (t ++ a.more)) ∙ x.reads };
            refuses = λ d v w e x. r d v w e (record { says = x.says; reads = like (t ++ (d ∷ w)) ∙ x.reads });
          }
