-- The stated region copied to the goal's, term by term. Assumes nothing.
use mathlib.Core.Path.{◌≡◌, refl, sym, ap, ap₂, ◌∙◌}
use mathlib.Core.List.{List, [], ◌∷◌, ◌++◌}
use Prim.Native.Nat.{ℕ, ◌+◌, ◌*◌, ◌≤◌, ◌<◌}
use native.Mathlib.Omega.{arith}
use lib.ListN.{length, take, drop}
use lib.Seq.{paste, drop-drop}
use Rattle.limits.specs.Limits.{field_terms, term_words, least_scratch}
use Rattle.algebra.specs.Polynomial.{Poly}
use Rattle.words.specs.Parts.{part}
use Rattle.words.proofs.Parts.{within_refl, within_trans, within_wider, below_kept}
use Rattle.terms.specs.Terms.{term_of, decode}
use Rattle.terms.proofs.Decode.{decode_last, behind_within, decode_behind}
use Rattle.scratch.specs.Scratch.{stated_at, goal_at, RunAt}

-- the first i terms of the stated region of s in the goal's of x
abbrev pub Copied : List ℕ → ℕ → List ℕ → Type 0
Copied s i x = RunAt goal_at (decode i (drop stated_at s)) s x i

pub copied_start : (s : List ℕ) → Copied s 0 s
unfolding decode
copied_start s = record { run = refl; few = omega arith; within = within_refl }

-- t is the next of the terms, and stands behind the others
pub copied_more : (s x t r : List ℕ) (i : ℕ) → i < field_terms → least_scratch ≤ length s → Copied s i x → t ≡ part (stated_at + i * term_words) term_words x → length t ≡ term_words
    → r ≡ paste x (goal_at + i * term_words) t term_words → Copied s (i + 1) r
copied_more s x t r i h l c et lt er = record {
  run = decode_behind goal_at i x t r room lt er ∙ ap₂ (λ (p : Poly) (u : List ℕ). p ++ (term_of u ∷ [])) c.run next ∙ sym (decode_last i (drop stated_at s));
  few = omega arith;
  within = within_trans c.within (within_wider goal_at (goal_at + i * term_words) (goal_at + i * term_words + term_words) (goal_at + field_terms * term_words) x r (omega arith) (omega arith)
      (behind_within goal_at i x t r room lt er));
}
  where
    room : goal_at + (i + 1) * term_words ≤ length x
    room = omega (arith, c.within.same)

    next : t ≡ part (i * term_words) term_words (drop stated_at s)
    next = et ∙ below_kept goal_at (goal_at + field_terms * term_words) s x c.within (stated_at + i * term_words) term_words (omega arith)
        ∙ ap (take term_words) (sym (drop-drop (i * term_words) stated_at s))
