-- What the contracts of `scratch` decide: results, the terms of a region, and all words outside it. The words of the region
-- behind its terms are left open. Assumes nothing.
use mathlib.Core.Path.{◌≡◌, sym, ◌∙◌}
use mathlib.Core.List.{List}
use Prim.Native.Nat.{ℕ, ◌+◌, ◌*◌}
use lib.ListN.{length}
use Rattle.limits.specs.Limits.{field_terms, set_words, term_words}
use Rattle.algebra.specs.Polynomial.{Poly}
use Rattle.words.proofs.Laws.{Words}
use Rattle.words.proofs.Decided.{one_set}
use Rattle.reduction.proofs.Decided.{SameRun, same_run}
use Rattle.paper.specs.Statement.{Written}
use Rattle.written.specs.Worded.{Holds}
use Rattle.scratch.specs.declared.Reduced.{Reduced}
use Rattle.scratch.specs.Scratch.{RunAt, ReducedAt}

-- `define`, `copy_to_goal`
pub run_alike : (base : ℕ) (p : Poly) (s r q : List ℕ) (i j : ℕ) → Words r → Words q → RunAt base p s r i → RunAt base p s q j → SameRun base (base + field_terms * term_words) r q i j
run_alike base p s r q i j u w x y = same_run base (base + field_terms * term_words) p s r q i j u w x.within y.within x.run y.run

-- `reduce_field`
module _ (k n base : ℕ) (s r q : List ℕ) (f g : Reduced) (held : (w : Written) × Holds w n base s) where
  pub reduced_alike : Words r → Words q → Words f.shown → Words g.shown → length f.shown ≡ set_words → length g.shown ≡ set_words
      → ((w : Written) → Holds w n base s → ReducedAt k w base s r f) → ((w : Written) → Holds w n base s → ReducedAt k w base s q g)
      → (f ≡ g) × SameRun base (base + field_terms * term_words) r q f.terms g.terms
  reduced_alike u w a b l m x y = ((λ i. record { terms = same.count i; shown = shown i }), same)
    where
      x' : ReducedAt k held.0 base s r f
      x' = x held.0 held.1

      y' : ReducedAt k held.0 base s q g
      y' = y held.0 held.1

      same : SameRun base (base + field_terms * term_words) r q f.terms g.terms
      same = run_alike base _ s r q f.terms g.terms u w x'.at y'.at

      shown : f.shown ≡ g.shown
      shown = one_set f.shown g.shown l m a b (x'.shown ∙ sym y'.shown)
