-- A checked text: no run ends with SHORT or LONGTEXT, so all that was read leaves its rooms zero. Assumes nothing.
use mathlib.Core.Path.{◌≡◌, refl, sym, ap, ◌∙◌}
use mathlib.Core.Bool.{true, false, ◌||◌, not}
use mathlib.Core.Logic.{◌⊎◌, inl, inr}
use mathlib.Core.List.{List}
use Prim.Native.Nat.{ℕ, ◌≤◌, ◌<◌}
use native.Mathlib.Omega.{arith}
use lib.Dec.{leb, ltb}
use lib.ListN.{length, replicate}
use borrow.Author.Tests.{lt-ltb, le-ltb, not-true}
use Rattle.ground.proofs.Tests.{and_left}
use Rattle.limits.specs.Limits.{text_bytes, least_pool, least_scratch}
use Rattle.limits.specs.Verdicts.{SHORT, LONGTEXT, NAMES}
use Rattle.paper.specs.Rules.{start}
use Rattle.paper.specs.Grammar.{Bytes}
use Rattle.paper.specs.Answer as answers
use Rattle.paper.specs.Answer.{items, run, capacity_of, unread, answer, room_after}
use Rattle.paper.proofs.Verdicts.{early, late, text_late}
use Rattle.checker.specs.declared.answer.Answer.{Answer}
use Rattle.checker.specs.Checked.{answer_of, Rooms, Checked}

-- ---- rooms
pub unread_kept : (a : Answer) (v : ℕ) (room : List ℕ) → early v ≡ true → answer_of a ≡ unread v → room ≡ room_after a.verdict room
unfolding room_after unread
unread_kept a v room h q = let w : early a.verdict ≡ true = ap (λ (x : answers.Answer). early x.verdict) q ∙ h in rw w refl

pub room_zeroed : (v : ℕ) (room : List ℕ) → early v ≡ false → replicate (length room) 0 ≡ room_after v room
unfolding room_after
room_zeroed v room e = rw e refl

-- one of them is too short
abbrev pub TooShort : ℕ → ℕ → Type 0
TooShort pool scratch = (pool < least_pool) ⊎ ((least_pool ≤ pool) × (scratch < least_scratch))

pub short_rooms : {pool scratch : ℕ} → TooShort pool scratch → (ltb pool least_pool || ltb scratch least_scratch) ≡ true
short_rooms {pool} {scratch} (inl h) = rw (lt-ltb pool least_pool h) refl
short_rooms {pool} {scratch} (inr h) = rw (le-ltb pool least_pool h.0, lt-ltb scratch least_scratch h.1) refl

-- ---- the terms that a pool holds
pub rooms_fit : {r : ℕ} {pool scratch : List ℕ} → r ≡ capacity_of (length pool) → least_scratch ≤ length scratch → Rooms r pool scratch
unfolding capacity_of
rooms_fit e h = record { words = omega arith; most = omega arith; least = h }

-- ---- the whole
whole : (text : Bytes) (pool scratch : ℕ) → least_pool ≤ pool → least_scratch ≤ scratch → length text ≤ text_bytes
    → answer text pool scratch ≡ run (capacity_of pool) start 0 (items text)
unfolding answer
whole text pool scratch g h l = rw (le-ltb pool least_pool g, le-ltb scratch least_scratch h, le-ltb text_bytes (length text) l) refl

module _ {text : Bytes} {pool scratch : List ℕ} {a : Answer} where
  checked_unread : (v : ℕ) → early v ≡ true → answer text (length pool) (length scratch) ≡ unread v → answer_of a ≡ unread v → Checked text pool scratch a pool scratch
  checked_unread v h e q = record { answer = q ∙ sym e; pool_after = unread_kept a v pool h q; scratch_after = unread_kept a v scratch h q }

  pub checked_short : TooShort (length pool) (length scratch) → answer_of a ≡ unread SHORT → Checked text pool scratch a pool scratch
  unfolding answer
  checked_short h = checked_unread SHORT refl (rw (short_rooms h) refl)

  module _ (g : least_pool ≤ length pool) (h : least_scratch ≤ length scratch) where
    pub checked_text : text_bytes < length text → answer_of a ≡ unread LONGTEXT → Checked text pool scratch a pool scratch
    unfolding answer
    checked_text l = checked_unread LONGTEXT refl (rw (le-ltb (length pool) least_pool g, le-ltb (length scratch) least_scratch h, lt-ltb text_bytes (length text) l) refl)

    pub checked_run : length text ≤ text_bytes → {capacity m n : ℕ} {p' q' : List ℕ} → capacity ≡ capacity_of (length pool) → answer_of a ≡ run capacity start 0 (items text)
        → m ≡ length pool → n ≡ length scratch → p' ≡ replicate m 0 → q' ≡ replicate n 0 → Checked text pool scratch a p' q'
    checked_run l {capacity} c r i j d e =
        let v : ℕ = a.verdict in
        let w : early v ≡ false = not-true (early v) (and_left (not (early v)) (leb v NAMES) (ap (λ (x : answers.Answer). late x.verdict) r ∙ text_late capacity start 0 text)) in
        record {
          answer = r ∙ ap (λ (n : ℕ). run n start 0 (items text)) c ∙ sym (whole text (length pool) (length scratch) g h l);
          pool_after = d ∙ ap (λ (n : ℕ). replicate n 0) i ∙ room_zeroed v pool w;
          scratch_after = e ∙ ap (λ (n : ℕ). replicate n 0) j ∙ room_zeroed v scratch w;
        }
