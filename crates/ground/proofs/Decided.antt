-- When a contract leaves one result. Assumes nothing.
use mathlib.Core.Path.{◌≡◌, sym, ◌∙◌}
use Prim.Native.Nat.{ℕ, ◌<◌}
use native.Mathlib.Omega.{arith}

-- an equation does
pub by_equation : {A : Type 0} {x r q : A} → r ≡ x → q ≡ x → r ≡ q
by_equation e d = e ∙ sym d

-- the first place with a property does
pub one_first : (P : ℕ → Type 0) (i j : ℕ) → P i → P j → ((k : ℕ) → k < i → P k → ⊥) → ((k : ℕ) → k < j → P k → ⊥) → i ≡ j
one_first P i j p q f g =
    let a : i < j → ⊥ = λ l. g i l p in
    let b : j < i → ⊥ = λ l. f j l q in
    omega arith
