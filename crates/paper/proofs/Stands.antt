-- Where no row refuses a statement, the test of none of them holds. Assumes nothing.
use mathlib.Core.Path.{◌≡◌, refl}
use mathlib.Core.Bool.{Bool, true, false, cond}
use mathlib.Core.List.{List, [], ◌∷◌}
use Prim.Native.Nat.{ℕ, ◌<◌}
use native.Mathlib.Omega.{arith}
use lib.Dec.{eqb, ltb}
use borrow.Author.Tests.{ltb-true, eqb-true, not-false}
use Rattle.ground.specs.Lists.{every, any}
use Rattle.ground.proofs.Tests.{and_left, and_right, by_cond}
use Rattle.limits.specs.Verdicts.{ORDER, TAKEN, MISSING}
use Rattle.paper.specs.Statement.{Statement, new_index, named_indices}
use Rattle.paper.specs.Rules.{State, stored, place, first, rules}

-- ---- any table
past : (b : Bool) (v w : ℕ) → 0 < v → cond b v w ≡ 0 → (b ≡ false) × (w ≡ 0)
past true v w h e = absurd (omega arith)
past false v w h e = (refl, e)

-- the test in the row of a verdict
abbrev test_of : ℕ → List (ℕ × Bool) → Bool
test_of v [] = false
test_of v (r ∷ rs) = cond (eqb v r.0) r.1 (test_of v rs)

none_refuses : (rs : List (ℕ × Bool)) → every (λ r. ltb 0 r.0) rs ≡ true → first rs ≡ 0 → (v : ℕ) → test_of v rs ≡ false
unfolding first every
none_refuses [] h e v = refl
none_refuses (r ∷ rs) h e v =
    let p : (r.1 ≡ false) × (first rs ≡ 0) = past r.1 r.0 (first rs) (ltb-true 0 r.0 (and_left (ltb 0 r.0) (every (λ r. ltb 0 r.0) rs) h)) e in
    by_cond (λ (b : Bool). b ≡ false) (eqb v r.0) (λ _. p.0) (λ _. none_refuses rs (and_right (ltb 0 r.0) (every (λ r. ltb 0 r.0) rs) h) p.1 v)

-- ---- the table of statements
pub record Stands (capacity : ℕ) (s : State) (st : Statement) : Type 0 where
  pub placed : place st ≡ s.phase
  pub free : any (stored s.store) (new_index st) ≡ false
  pub present : every (stored s.store) (named_indices st) ≡ true
  pub passed : (v : ℕ) → test_of v (rules capacity s st) ≡ false

pub stands_none : (capacity : ℕ) (s : State) (st : Statement) → first (rules capacity s st) ≡ 0 → Stands capacity s st
unfolding rules every
stands_none capacity s st e =
    let n = none_refuses (rules capacity s st) refl e in
    record {
      placed = eqb-true (place st) s.phase (not-false (eqb (place st) s.phase) (n ORDER));
      free = n TAKEN;
      present = not-false (every (stored s.store) (named_indices st)) (n MISSING);
      passed = n;
    }
