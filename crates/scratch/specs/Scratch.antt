-- The scratch in regions: the products of a line from word 0 on, then a stated polynomial or p, a factor, and the goal.
use Rattle.std.specs.Prelude.{◌≡◌, List, ℕ, ◌+◌, ◌-◌, ◌*◌, ◌≤◌, length, drop}
use Rattle.limits.specs.Limits.{field_terms, line_products, term_words}
use Rattle.algebra.specs.Polynomial.{Poly}
use Rattle.words.specs.Parts.{part, Within}
use Rattle.words.specs.Words.{number_of}
use Rattle.terms.specs.Terms.{decode}
use Rattle.paper.specs.Statement.{Written, reduced}
use Rattle.paper.specs.Rules.{shows}
use Rattle.scratch.specs.declared.Reduced.{Reduced}

-- the words at which the regions behind the products begin
abbrev pub stated_at : ℕ
stated_at = line_products * term_words

abbrev pub factor_at : ℕ
factor_at = stated_at + field_terms * term_words

abbrev pub goal_at : ℕ
goal_at = factor_at + field_terms * term_words

-- n terms, p, in the region from word base on, and all other words as in s
pub record RunAt (base : ℕ) (p : Poly) (s r : List ℕ) (n : ℕ) : Type 0 where
  pub run : decode n (drop base r) ≡ p
  pub few : n ≤ field_terms
  pub within : Within base (base + field_terms * term_words) s r

-- the field w, reduced at k, in the region from word base on, and the variables that it makes seen
pub record ReducedAt (k : ℕ) (w : Written) (base : ℕ) (s r : List ℕ) (f : Reduced) : Type 0 where
  pub at : RunAt base (reduced k w) s r f.terms
  pub shown : number_of f.shown ≡ shows k w

-- the stated region, and all from the goal's on, are as they were
pub record Kept (s r : List ℕ) : Type 0 where
  pub stated : part stated_at (factor_at - stated_at) r ≡ part stated_at (factor_at - stated_at) s
  pub goal : drop goal_at r ≡ drop goal_at s
  pub same : length r ≡ length s
