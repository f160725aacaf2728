-- The first row that refuses, of rows one behind the other. Assumes nothing.
use mathlib.Core.Path.{◌≡◌, refl, sym, ap}
use mathlib.Core.Bool.{Bool, true, false, cond}
use mathlib.Core.List.{[], ◌∷◌, ◌++◌}
use Prim.Native.Nat.{ℕ, ◌<◌}
use native.Mathlib.Omega.{arith}
use borrow.Author.Tests.{ne_eqb}
use Rattle.limits.specs.Verdicts.{ACCEPTED}
use Rattle.paper.specs.Rules.{first}
use Rattle.sums.specs.Rows.{Rows, or_else}

pub else_stop : (v w : ℕ) → (v ≡ 0 → ⊥) → or_else v w ≡ v
else_stop v w n = ap (λ (b : Bool). cond b w v) (ne_eqb v ACCEPTED n)

-- every row can refuse
abbrev pub Refusing : Rows → Type 0
Refusing [] = Unit {0}
Refusing (r ∷ rs) = (0 < r.0) × Refusing rs

pub first_append : (a b : Rows) → Refusing a → first (a ++ b) ≡ or_else (first a) (first b)
unfolding first
first_append [] b h = refl
first_append (r ∷ a) b h = go r.1 (first_append a b h.1)
  where
    go : (t : Bool) → first (a ++ b) ≡ or_else (first a) (first b) → cond t r.0 (first (a ++ b)) ≡ or_else (cond t r.0 (first a)) (first b)
    go true e = sym (else_stop r.0 (first b) (λ z. omega (arith, h.0, z)))
    go false e = e

-- a row that lets pass, and those behind it
pub first_open : (v : ℕ) (t : Bool) (rs : Rows) → 0 < v → first ((v, t) ∷ rs) ≡ 0 → (t ≡ false) × (first rs ≡ 0)
unfolding first
first_open v true rs l e = absurd (let z : ⊥ = omega arith in z)
first_open v false rs l e = (refl, e)
