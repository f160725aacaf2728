-- Regions of a list: what a change within one leaves as it was, and what a copy into one does. Assumes nothing.
use Rattle.std.proofs.Common.{◌≡◌, ℕ, ◌+◌, ◌-◌, ◌<◌, ◌≤◌, List, ◌++◌, length, get_or, take, drop, set, sym, refl, ap, ◌∙◌, append_assoc, add-one, arith, length-drop, length-take-le, take_all, take-take, take_at, drop_at}
use lib.Seq.{paste, paste-suc, length-paste, take-paste, drop-paste}
use borrow.Rule.Slice.PartMut.{put_mid, take_put, drop_put, same_len_mid, mid_len}
use Rattle.ground.proofs.Lists.{take_fewer, drop_more, drop_take}
use Rattle.words.specs.Parts.{part, Within}

pub within_refl : {a e : ℕ} {s : List ℕ} → Within a e s s
within_refl = record { before = refl; after = refl; same = refl }

pub within_trans : {a e : ℕ} {s x y : List ℕ} → Within a e s x → Within a e x y → Within a e s y
within_trans p q = record { before = q.before ∙ p.before; after = q.after ∙ p.after; same = q.same ∙ p.same }

-- a change within a region is one within a larger region
pub within_wider : (a b d e : ℕ) (s r : List ℕ) → a ≤ b → d ≤ e → Within b d s r → Within a e s r
within_wider a b d e s r h k w = record { before = take_fewer a b s r h w.before; after = drop_more d e s r k w.after; same = w.same }

pub length_part : (a k : ℕ) (s : List ℕ) → a + k ≤ length s → length (part a k s) ≡ k
length_part a k s h = length-take-le k (drop a s) (simp length-drop (omega arith))

-- the region from a to the end
pub part_rest : (a : ℕ) (s : List ℕ) → part a (length s - a) s ≡ drop a s
part_rest a s = take_all (length s - a) (drop a s) (omega (arith, length-drop a s))

-- a region that ends before the change, and one that starts after it, are as they were
module _ (a e : ℕ) (s r : List ℕ) (w : Within a e s r) where
  pub below_kept : (b j : ℕ) → b + j ≤ a → part b j r ≡ part b j s
  below_kept b j h = sym (drop_take b j r) ∙ ap (drop b) (take_fewer (b + j) a s r h w.before) ∙ drop_take b j s

  pub above_kept : (b j : ℕ) → e ≤ b → part b j r ≡ part b j s
  above_kept b j h = ap (take j) (drop_more e b s r h w.after)

-- ---- a copy into a region
module _ (d : List ℕ) (at : ℕ) (s : List ℕ) (n : ℕ) (hd : at + n ≤ length d) (hs : n ≤ length s) where
  pub paste_within : Within at (at + n) d (paste d at s n)
  paste_within = record {
    before = sym (take-take at (at + n) (paste d at s n) (omega arith)) ∙ ap (take at) (take-paste d at s n (omega arith) hs)
        ∙ take_at (take at d) (take n s) at (length-take-le at d (omega arith));
    after = drop-paste d at s n (omega arith) hs;
    same = length-paste d at s n hd hs;
  }

  pub drop_to_paste : drop at (paste d at s n) ≡ take n s ++ drop (at + n) d
  drop_to_paste = rw (append_assoc (take at d) (take n s) (drop (at + n) d)) (drop_at (take at d) (take n s ++ drop (at + n) d) at (length-take-le at d (omega arith)))

  pub part_paste : part at n (paste d at s n) ≡ take n s
  part_paste = rw drop_to_paste (take_at (take n s) (drop (at + n) d) n (length-take-le n s hs))

-- a turn of a loop that copies
pub paste_more : (d : List ℕ) (at : ℕ) (s : List ℕ) (j : ℕ) → at + j < length d → j < length s
    → set (paste d at s j) (at + j) (get_or s j 0) ≡ paste d at s (j + 1)
paste_more d at s j hd hs = rw (add-one) (paste-suc d at s j 0 hd hs)

-- ---- a region that was lent
module _ (s ys : List ℕ) (a e : ℕ) (h : a ≤ e) (l : e ≤ length s) (k : length ys ≡ length (part a (e - a) s)) where
  long : length ys ≡ e - a
  long = k ∙ mid_len a e s l

  pub put_part : part a (e - a) (put_mid a (e - a) s ys) ≡ ys
  put_part =
      let d : drop a (put_mid a (e - a) s ys) ≡ ys ++ _ = drop_at (take a s) _ a (length-take-le a s (omega arith)) in
      rw d (take_at ys _ (e - a) long)

  pub put_within : Within a e s (put_mid a (e - a) s ys)
  put_within = record {
    before = take_put a (e - a) s ys (omega arith);
    after = drop_put a e s ys h l long;
    same = same_len_mid a (e - a) s ys k;
  }
