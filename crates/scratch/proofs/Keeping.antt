-- What a change in one region leaves of the others. Assumes nothing.
use mathlib.Core.Path.{◌≡◌, refl, ◌∙◌}
use mathlib.Core.List.{List}
use Prim.Native.Nat.{ℕ, ◌+◌, ◌-◌, ◌*◌, ◌≤◌}
use native.Mathlib.Omega.{arith}
use lib.ListN.{drop}
use Rattle.ground.proofs.Lists.{take_fewer, drop_more}
use Rattle.limits.specs.Limits.{field_terms, term_words}
use Rattle.words.specs.Parts.{Within}
use Rattle.words.proofs.Parts.{within_wider, above_kept, below_kept}
use Rattle.terms.specs.Terms.{decode}
use Rattle.terms.proofs.Decode.{decode_same}
use Rattle.paper.specs.Statement.{Written}
use Rattle.written.specs.Worded.{Holds}
use Rattle.scratch.specs.Scratch.{stated_at, factor_at, goal_at, Kept}
use Rattle.written.proofs.Meaning.{holds_few}

pub kept_refl : {s : List ℕ} → Kept s s
kept_refl = record { stated = refl; goal = refl; same = refl }

pub kept_trans : {s x r : List ℕ} → Kept s x → Kept x r → Kept s r
kept_trans p q = record { stated = q.stated ∙ p.stated; goal = q.goal ∙ p.goal; same = q.same ∙ p.same }

-- the stated region in terms
kept_stated : (s r : List ℕ) → Kept s r → (n : ℕ) → n * term_words ≤ factor_at - stated_at → decode n (drop stated_at r) ≡ decode n (drop stated_at s)
kept_stated s r k n h = decode_same n (drop stated_at s) (drop stated_at r) (take_fewer (n * term_words) (factor_at - stated_at) (drop stated_at s) (drop stated_at r) h k.stated)

pub kept_front : (a e : ℕ) (s r : List ℕ) → Within a e s r → e ≤ stated_at → Kept s r
kept_front a e s r w h =
    record { stated = above_kept a e s r w stated_at (factor_at - stated_at) h; goal = drop_more e goal_at s r (omega arith) w.after; same = w.same }

pub kept_factor : (s r : List ℕ) → Within factor_at goal_at s r → Kept s r
kept_factor s r w = record { stated = below_kept factor_at goal_at s r w stated_at (factor_at - stated_at) (omega arith); goal = w.after; same = w.same }

-- a change of the stated region is one before the goal's
pub stated_kept : {s r : List ℕ} → Within stated_at (stated_at + field_terms * term_words) s r → Within 0 goal_at s r
stated_kept {s} {r} w = within_wider 0 stated_at (stated_at + field_terms * term_words) goal_at s r (omega arith) (omega arith) w

-- a field in the stated region stays there
pub holds_kept : {p : Written} {n : ℕ} {s r : List ℕ} → Kept s r → Holds p n stated_at s → Holds p n stated_at r
holds_kept {n = n} {s} {r} k h = record { run = kept_stated s r k n (omega (arith, holds_few h)) ∙ h.run; terms = h.terms; ranged = h.ranged; short = h.short }
