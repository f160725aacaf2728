-- The names of a room: how many, where each is, and what one more changes. Assumes nothing.
use mathlib.Core.Path.{◌≡◌, refl, sym, ap, ap₂, ◌∙◌}
use mathlib.Core.Bool.{Bool, true, false}
use mathlib.Core.List.{List, [], ◌∷◌, ◌++◌}
use mathlib.Core.Logic.{⊎_elim}
use Prim.Native.Nat.{ℕ, zero, suc, ◌+◌, ◌*◌, ◌≤◌, ◌<◌}
use native.Mathlib.Nat.{not-suc-le-zero}
use native.Mathlib.Numerals.{add-one}
use native.Mathlib.Omega.{arith}
use lib.Dec.{ltb}
use lib.ListN.{length, drop, get_or, set, length-append, length-set, get_or-append}
use lib.Seq.{get_or-take, get_or_at, take-set-le, drop-set-lt, get_or-set_same, paste, take-length}
use borrow.Author.Tests.{ltb-true, ltb-false}
use Rattle.ground.proofs.Tests.{split}
use Rattle.limits.specs.Limits.{name_bytes, variables}
use Rattle.words.specs.Parts.{part, Within}
use Rattle.words.proofs.Parts.{within_trans, within_wider, below_kept, paste_within, part_paste}
use Rattle.paper.specs.Grammar.{Bytes}
use Rattle.paper.specs.Published.{Name}
use Rattle.paper.specs.Named.{same_name, place_in, with_names}
use Rattle.paper.proofs.Names.{same_name_law, is_in, place_here, place_further, place_behind, with_new, once_with}
use Rattle.names.specs.Names.{slot_bytes, name_in, held, Holding, HeldBehind}

pub length_held : (n : ℕ) (room : Bytes) → length (held n room) ≡ n
unfolding held
length_held zero room = refl
length_held (suc n) room = omega (arith, length-append (held n room) (name_in room n ∷ []), length_held n room)

pub held_at : (n : ℕ) (room : Bytes) (i : ℕ) → i < n → get_or (held n room) i [] ≡ name_in room i
unfolding held
held_at zero room i h = absurd (not-suc-le-zero h)
held_at (suc n) room i h = ⊎_elim (λ t. let l = ltb-true i n t in before l (held_at n room i l)) (λ t. last (ltb-false i n t)) (split (ltb i n))
  where
    before : i < n → get_or (held n room) i [] ≡ name_in room i → get_or (held n room ++ (name_in room n ∷ [])) i [] ≡ name_in room i
    before l ih = get_or-append (held n room) (name_in room n ∷ []) [] i (omega (arith, length_held n room)) ∙ ih

    last : n ≤ i → get_or (held n room ++ (name_in room n ∷ [])) i [] ≡ name_in room i
    last l =
        let e : n ≡ i = omega arith in
        get_or_at (held n room) (name_in room n) [] [] i (length_held n room ∙ e) ∙ ap (name_in room) e

-- no other place is that of the i-th
pub alone_at : (n : ℕ) (room : Bytes) (s : Name) (i : ℕ) → Holding n room → i < n → same_name (name_in room i) s ≡ true → i ≡ place_in (held n room) s
alone_at n room s i h l e =
    sym (h.apart i (omega (arith, length_held n room))) ∙ ap (place_in (held n room)) (held_at n room i l ∙ same_name_law (name_in room i) s e)

-- ---- a search from the first on: none of the first i is the name
abbrev pub NotBefore : ℕ → Bytes → Name → ℕ → Type 0
NotBefore n room s i = place_in (held n room) s ≡ i + place_in (drop i (held n room)) s

module _ (n : ℕ) (room : Bytes) (s : Name) (i : ℕ) (p : NotBefore n room s i) where
  module _ (l : i < n) (b : Bool) (e : b ≡ same_name (name_in room i) s) where
    is_at : same_name (get_or (held n room) i []) s ≡ b
    is_at = ap (λ (m : Name). same_name m s) (held_at n room i l) ∙ sym e

    pub found : b ≡ true → i ≡ place_in (held n room) s
    found t = sym (place_here (held n room) s i p (omega (arith, length_held n room)) (is_at ∙ t))

    pub passed_more : b ≡ false → NotBefore n room s (i + 1)
    passed_more t = place_further (held n room) s i p (omega (arith, length_held n room)) (is_at ∙ t)

  pub passed_all : i ≡ n → n ≡ place_in (held n room) s
  passed_all e = sym (place_behind (held n room) s i p (e ∙ sym (length_held n room)) ∙ e)

-- ---- a change behind the first n
module _ (n e : ℕ) (room room' : Bytes) (w : Within (n * slot_bytes) e room room') where
  size_kept : (i : ℕ) → i < n → get_or room' (i * slot_bytes) 0 ≡ get_or room (i * slot_bytes) 0
  size_kept i h =
      sym (get_or-take (n * slot_bytes) room' (i * slot_bytes) 0 (omega arith)) ∙ ap (λ (l : Bytes). get_or l (i * slot_bytes) 0) w.before
      ∙ get_or-take (n * slot_bytes) room (i * slot_bytes) 0 (omega arith)

  module _ (short : (i : ℕ) → i < n → get_or room (i * slot_bytes) 0 ≤ name_bytes) where
    name_kept : (i : ℕ) → i < n → name_in room' i ≡ name_in room i
    name_kept i h =
        ap (λ (k : ℕ). part (i * slot_bytes + 1) k room') (size_kept i h)
        ∙ below_kept (n * slot_bytes) e room room' w (i * slot_bytes + 1) (get_or room (i * slot_bytes) 0) (omega (arith, short i h))

    held_kept : (m : ℕ) → m ≤ n → held m room' ≡ held m room
    unfolding held
    held_kept zero h = refl
    held_kept (suc m) h = ap₂ (λ (ms : List Name) (k : Name). ms ++ (k ∷ [])) (held_kept m (omega arith)) (name_kept m (omega arith))

-- ---- one more: its length, and its bytes behind that
set_within : (a e : ℕ) (s : Bytes) (i x : ℕ) → a ≤ i → i < e → Within a e s (set s i x)
set_within a e s i x h k = record { before = take-set-le a s i x h; after = drop-set-lt e s i x k; same = length-set s i x }

module _ (n : ℕ) (room : Bytes) (name : Name) (l : n < variables) (k : length name ≤ name_bytes) (f : variables * slot_bytes ≤ length room) where
  -- with its bytes
  abbrev pub put : Bytes
  put = paste (set room (n * slot_bytes) (length name)) (n * slot_bytes + 1) name (length name)

  pub put_all : HeldBehind n name room put
  put_all =
      let at : ℕ = n * slot_bytes in
      let m : Bytes = set room at (length name) in
      let g : at + 1 + length name ≤ length m = omega (arith, length-set room at (length name)) in
      let w : Within (at + 1) (at + 1 + length name) m put = paste_within m (at + 1) name (length name) g (omega arith) in
      let size : get_or put at 0 ≡ length name =
      sym (get_or-take (at + 1) put at 0 (omega arith)) ∙ ap (λ (x : Bytes). get_or x at 0) w.before ∙ get_or-take (at + 1) m at 0 (omega arith)
      ∙ get_or-set_same room at (length name) 0 (omega arith) in
      record {
        within = within_trans (set_within at ((n + 1) * slot_bytes) room at (length name) (omega arith) (omega arith))
            (within_wider at (at + 1) (at + 1 + length name) ((n + 1) * slot_bytes) m put (omega arith) (omega arith) w);
        size = size;
        bytes = ap (λ (i : ℕ). part (at + 1) i put) size ∙ part_paste m (at + 1) name (length name) g (omega arith) ∙ take-length name;
      }

module _ (n : ℕ) (room room' : Bytes) (name : Name) (h : Holding n room) (p : HeldBehind n name room room') where
  pub put_held : held (n + 1) room' ≡ held n room ++ (name ∷ [])
  unfolding held
  put_held =
      rw (add-one n) (ap₂ (λ (ms : List Name) (k : Name). ms ++ (k ∷ [])) (held_kept n ((n + 1) * slot_bytes) room room' p.within h.short n (omega arith)) p.bytes)

  pub put_holding : n < variables → length name ≤ name_bytes → is_in (held n room) name ≡ false → Holding (n + 1) room'
  put_holding l s o =
      record {
        few = omega arith;
        fits = omega (arith, p.within.same, h.fits);
        short = short;
        apart = let e : held (n + 1) room' ≡ with_names (held n room) (name ∷ []) = put_held ∙ sym (with_new (held n room) name o) in rw e (once_with (held n room) (name ∷ []) h.apart);
      }
    where
      short : (i : ℕ) → i < n + 1 → get_or room' (i * slot_bytes) 0 ≤ name_bytes
      short i k =
          ⊎_elim
          (λ t. let j = ltb-true i n t in omega (arith, size_kept n ((n + 1) * slot_bytes) room room' p.within i j, h.short i j))
          (λ t. let e : n ≡ i = omega (arith, ltb-false i n t) in omega (arith, p.size, ap (λ (m : ℕ). get_or room' (m * slot_bytes) 0) e))
          (split (ltb i n))
