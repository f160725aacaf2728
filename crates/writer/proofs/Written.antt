-- Bytes written one behind the other, and what is left to write. Assumes nothing.
use mathlib.Core.Path.{◌≡◌, refl, sym, ap, ap₂, ◌∙◌, subst}
use mathlib.Core.List.{[], ◌∷◌, ◌++◌, append_assoc}
use Prim.Native.Nat.{ℕ, ◌+◌, ◌≤◌, ◌<◌}
use native.Mathlib.Nat.{add-zero, add_assoc}
use native.Mathlib.Numerals.{add-one}
use native.Mathlib.Omega.{arith}
use lib.ListN.{length, take, drop, set, length-append, length-drop, take-append-drop}
use lib.Seq.{length-take-le, take_at, drop_at, take-take, take-append-le, drop-drop, set_split}
use Rattle.paper.specs.Grammar.{Bytes}
use Rattle.writer.specs.Writing.{written, Wrote}

written_none : (d : Bytes) (at : ℕ) → written d at [] ≡ d
unfolding written
written_none d at = rw (add-zero at) (take-append-drop at d)

length_written : (d : Bytes) (at : ℕ) (w : Bytes) → at + length w ≤ length d → length (written d at w) ≡ length d
unfolding written
length_written d at w h =
    simp (length-append, length-drop) (omega (arith, length-take-le at d (omega arith)))

-- one behind the other
written_both : (d : Bytes) (at : ℕ) (u w : Bytes) → at ≤ length d → written (written d at u) (at + length u) w ≡ written d at (u ++ w)
unfolding written
written_both d at u w h =
    ap₂ (λ (x y : Bytes). x ++ (w ++ y)) front back
    ∙ append_assoc (take at d) u (w ++ drop (at + length (u ++ w)) d)
    ∙ ap (λ (x : Bytes). take at d ++ x) (sym (append_assoc u w (drop (at + length (u ++ w)) d)))
  where
    rest : Bytes
    rest = drop (at + length u) d

    joined : take at d ++ (u ++ rest) ≡ (take at d ++ u) ++ rest
    joined = sym (append_assoc (take at d) u rest)

    long : length (take at d ++ u) ≡ at + length u
    long = length-append (take at d) u ∙ ap (λ (n : ℕ). n + length u) (length-take-le at d h)

    front : take (at + length u) (take at d ++ (u ++ rest)) ≡ take at d ++ u
    front = ap (take (at + length u)) joined ∙ take_at (take at d ++ u) rest (at + length u) long

    back : drop (at + length u + length w) (take at d ++ (u ++ rest)) ≡ drop (at + length (u ++ w)) d
    back =
        sym (drop-drop (length w) (at + length u) (take at d ++ (u ++ rest)))
        ∙ ap (drop (length w)) (ap (drop (at + length u)) joined ∙ drop_at (take at d ++ u) rest (at + length u) long)
        ∙ drop-drop (length w) (at + length u) d
        ∙ ap (λ (n : ℕ). drop n d) (add_assoc at (length u) (length w) ∙ ap (λ (n : ℕ). at + n) (sym (length-append u w)))

-- what comes later, written first
pub written_later : (d : Bytes) (at : ℕ) (u w : Bytes) → at + length u ≤ length d → written (written d (at + length u) w) at u ≡ written d at (u ++ w)
unfolding written
written_later d at u w h =
    ap₂ (λ (x y : Bytes). x ++ (u ++ y)) front back
    ∙ ap (λ (x : Bytes). take at d ++ x) (sym (append_assoc u w (drop (at + length (u ++ w)) d)))
  where
    rest : Bytes
    rest = w ++ drop (at + length u + length w) d

    long : length (take (at + length u) d) ≡ at + length u
    long = length-take-le (at + length u) d h

    front : take at (take (at + length u) d ++ rest) ≡ take at d
    front = take-append-le at (take (at + length u) d) rest (omega (arith, long)) ∙ take-take at (at + length u) d (omega arith)

    back : drop (at + length u) (take (at + length u) d ++ rest) ≡ w ++ drop (at + length (u ++ w)) d
    back = drop_at (take (at + length u) d) rest (at + length u) long
        ∙ ap (λ (n : ℕ). w ++ drop n d) (add_assoc at (length u) (length w) ∙ ap (λ (n : ℕ). at + n) (sym (length-append u w)))

pub written_byte : (d : Bytes) (at b : ℕ) → at < length d → set d at b ≡ written d at (b ∷ [])
unfolding written
written_byte d at b h = set_split d at b h ∙ ap (λ (n : ℕ). take at d ++ b ∷ drop n d) (sym (add-one at))

pub wrote_byte : (d : Bytes) (at b : ℕ) → at < length d → Wrote d at (b ∷ []) (set d at b) (at + 1)
wrote_byte d at b h = record { bytes = written_byte d at b h; next = refl }

pub wrote_as : {d : Bytes} {at : ℕ} {u w e : Bytes} {r : ℕ} → u ≡ w → Wrote d at u e r → Wrote d at w e r
wrote_as {d} {at} {e = e} {r = r} s p = subst (λ (x : Bytes). Wrote d at x e r) s p

pub wrote_both : {d : Bytes} {at : ℕ} {u e : Bytes} {m : ℕ} {w f : Bytes} {r : ℕ} → at ≤ length d
    → Wrote d at u e m → Wrote e m w f r → Wrote d at (u ++ w) f r
wrote_both {d} {at} {u} {e} {m} {w} {f} {r} h p q = record {
  bytes = q.bytes ∙ ap₂ (λ (x : Bytes) (n : ℕ). written x n w) p.bytes p.next ∙ written_both d at u w h;
  next = omega (arith, p.next, q.next, length-append u w);
}

-- e, once rest is written from `at` on, is d with w written from `start` on
pub record Left (d : Bytes) (start : ℕ) (w e : Bytes) (at : ℕ) (rest : Bytes) : Type 0 where
  pub bytes : written e at rest ≡ written d start w
  pub next : at + length rest ≡ start + length w
  pub same : length e ≡ length d

pub left_start : (d : Bytes) (start : ℕ) (w : Bytes) → Left d start w d start w
left_start d start w = record { bytes = refl; next = refl; same = refl }

pub left_as : {d : Bytes} {start : ℕ} {w e : Bytes} {at : ℕ} {rest rest' : Bytes} → rest ≡ rest' → Left d start w e at rest → Left d start w e at rest'
left_as {d} {start} {w} {e} {at} s l = subst (λ (x : Bytes). Left d start w e at x) s l

pub left_more : {d : Bytes} {start : ℕ} {w e : Bytes} {at : ℕ} {rest u rest' f : Bytes} {r : ℕ} → start + length w ≤ length d
    → rest ≡ u ++ rest' → Left d start w e at rest → Wrote e at u f r → Left d start w f r rest'
left_more {d} {start} {w} {e} {at} {rest} {u} {rest'} {f} {r} h s l p = record {
  bytes = ap₂ (λ (x : Bytes) (n : ℕ). written x n rest') p.bytes p.next ∙ written_both e at u rest' (omega arith) ∙ ap (written e at) (sym s) ∙ l.bytes;
  next = omega (arith, p.next, l.next, long);
  same = ap length p.bytes ∙ length_written e at u (omega (arith, l.next, l.same, long)) ∙ l.same;
}
  where
    long : length rest ≡ length u + length rest'
    long = ap length s ∙ length-append u rest'

-- there is room for the next piece
pub left_room : {d : Bytes} {start : ℕ} {w e : Bytes} {at : ℕ} {rest : Bytes} (u rest' : Bytes) → start + length w ≤ length d
    → rest ≡ u ++ rest' → Left d start w e at rest → at + length u ≤ length e
left_room u rest' h s l = omega (arith, l.next, l.same, ap length s ∙ length-append u rest')

pub left_end : {d : Bytes} {start : ℕ} {w e : Bytes} {at : ℕ} {rest : Bytes} → rest ≡ [] → Left d start w e at rest → Wrote d start w e at
left_end {d} {start} {w} {e} {at} {rest} s l = record {
  bytes = sym (written_none e at) ∙ ap (written e at) (sym s) ∙ l.bytes;
  next = omega (arith, l.next, ap length s);
}
