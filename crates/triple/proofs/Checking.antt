-- Three texts that are checked: their length, k, and the rooms afterwards. Assumes nothing.
use mathlib.Core.Path.{◌≡◌, refl, sym, ap, ◌∙◌}
use mathlib.Core.Bool.{Bool, true, false, not, cond}
use mathlib.Core.List.{List}
use Prim.Native.Nat.{ℕ, ◌+◌, ◌≤◌}
use lib.Dec.{leb, ltb}
use lib.ListN.{length, replicate}
use borrow.Author.Tests.{le-ltb, not-true}
use Rattle.ground.proofs.Tests.{and_left, by_cond}
use Rattle.limits.specs.Limits.{text_bytes, least_pool, least_scratch}
use Rattle.limits.specs.Verdicts.{SHORT, LONGTEXT, NUMBER, NAMES}
use Rattle.paper.specs.Statement.{modulo, is_ring, ring}
use Rattle.paper.specs.Rules.{start, after}
use Rattle.paper.specs.Answer as answers
use Rattle.paper.specs.Answer.{capacity_of, unread}
use Rattle.paper.specs.Named.{Texts, published_answer}
use Rattle.paper.proofs.Verdicts.{early, late, texts_late}
use Rattle.checker.specs.declared.answer.Answer.{Answer}
use Rattle.checker.specs.Checked.{answer_of}
use Rattle.checker.proofs.Checking.{unread_kept, room_zeroed, TooShort, short_rooms}
use Rattle.triple.specs.Triple.{answer_in, CheckedTexts}

-- ---- the whole
abbrev too_many_bytes : Texts → Bool
too_many_bytes t = ltb text_bytes (length t.constraints + length t.target + length t.proof)

abbrev answer_at : ℕ → ℕ → Texts → answers.Answer
answer_at capacity k t = cond (is_ring (modulo k)) (answer_in capacity k t) (unread NUMBER)

answer_late : (capacity k : ℕ) (t : Texts) → late (answer_at capacity k t).verdict ≡ true
unfolding unread
answer_late capacity k t =
    by_cond (λ (a : answers.Answer). late a.verdict ≡ true) (is_ring (modulo k)) (λ _. texts_late capacity (after start (ring (modulo k))) 0 t) (λ _. refl)

whole : (k : ℕ) (t : Texts) (pool scratch : ℕ) → least_pool ≤ pool → least_scratch ≤ scratch → too_many_bytes t ≡ false → published_answer k t pool scratch ≡ answer_at (capacity_of pool) k t
unfolding published_answer
whole k t pool scratch g h l = rw (le-ltb pool least_pool g, le-ltb scratch least_scratch h, l) refl

module _ {k : ℕ} {t : Texts} {pool scratch : List ℕ} {a : Answer} where
  texts_unread : (v : ℕ) → early v ≡ true → published_answer k t (length pool) (length scratch) ≡ unread v → answer_of a ≡ unread v → CheckedTexts k t pool scratch a pool scratch
  texts_unread v h e q = record { answer = q ∙ sym e; pool_after = unread_kept a v pool h q; scratch_after = unread_kept a v scratch h q }

  pub texts_short : TooShort (length pool) (length scratch) → answer_of a ≡ unread SHORT → CheckedTexts k t pool scratch a pool scratch
  unfolding published_answer
  texts_short h = texts_unread SHORT refl (rw (short_rooms h) refl)

  module _ (g : least_pool ≤ length pool) (h : least_scratch ≤ length scratch) where
    pub texts_long : too_many_bytes t ≡ true → answer_of a ≡ unread LONGTEXT → CheckedTexts k t pool scratch a pool scratch
    unfolding published_answer
    texts_long l = texts_unread LONGTEXT refl (rw (le-ltb (length pool) least_pool g, le-ltb (length scratch) least_scratch h, l) refl)

    pub texts_judged : too_many_bytes t ≡ false → {capacity m n : ℕ} {p' q' : List ℕ} → capacity ≡ capacity_of (length pool) → answer_of a ≡ answer_at capacity k t
        → m ≡ length pool → n ≡ length scratch → p' ≡ replicate m 0 → q' ≡ replicate n 0 → CheckedTexts k t pool scratch a p' q'
    texts_judged l {capacity} c r i j d e =
        let v : ℕ = a.verdict in
        let w : early v ≡ false = not-true (early v) (and_left (not (early v)) (leb v NAMES) (ap (λ (x : answers.Answer). late x.verdict) r ∙ answer_late capacity k t)) in
        record {
          answer = r ∙ ap (λ (n : ℕ). answer_at n k t) c ∙ sym (whole k t (length pool) (length scratch) g h l);
          pool_after = d ∙ ap (λ (n : ℕ). replicate n 0) i ∙ room_zeroed v pool w;
          scratch_after = e ∙ ap (λ (n : ℕ). replicate n 0) j ∙ room_zeroed v scratch w;
        }
