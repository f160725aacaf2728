-- Reducing brings in no variable. Assumes nothing.
use mathlib.Core.List.{[], ◌∷◌}
use Prim.Native.Nat.{ℕ, ◌+◌, ◌-◌, ◌%◌, ◌^◌, ◌≤◌}
use native.Mathlib.Omega.{arith}
use lib.Bits.{bit_or}
use lib.Dec.{eqb, ltb}
use Rattle.ground.proofs.Tests.{by_cond}
use Rattle.algebra.specs.Polynomial.{bit, Poly, vars, put, insert, reduce, extension}
use Rattle.algebra.proofs.Sets.{bit_or_law}

module _ (k w : ℕ) where
  abbrev In : ℕ → Poly → Type 0
  In m p = bit (vars p) w ≤ bit m w

  vars_put : (m c : ℕ) (p : Poly) → In (bit_or m (vars p)) (put k m c p)
  unfolding put vars
  vars_put m c p =
      by_cond (In (bit_or m (vars p))) (eqb (c % 2 ^ k) 0) (λ e. omega (arith, bit_or_law m (vars p) w)) (λ e. omega arith)

  vars_insert : (m c : ℕ) (p : Poly) → In (bit_or m (vars p)) (insert k m c p)
  unfolding insert vars
  vars_insert m c [] = vars_put m c []
  vars_insert m c (t ∷ p) =
      by_cond Goal (eqb m t.set)
      (λ e. omega (arith, vars_put m (c + t.coef) p, bit_or_law m (vars p) w, bit_or_law m (bit_or t.set (vars p)) w, bit_or_law t.set (vars p) w))
      (λ e. by_cond Goal (ltb t.set m)
      (λ l. vars_put m c (t ∷ p))
      (λ l. omega (arith, vars_insert m c p, bit_or_law t.set (vars (insert k m c p)) w, bit_or_law m (vars p) w, bit_or_law m (bit_or t.set (vars p)) w, bit_or_law t.set (vars p) w)))
    where
      Goal : Poly → Type 0
      Goal q = In (bit_or m (bit_or t.set (vars p))) q

  vars_reduce : (p : Poly) → In (vars p) (reduce k p)
  unfolding reduce vars
  vars_reduce [] = omega arith
  vars_reduce (t ∷ p) =
      omega (arith, vars_insert t.set t.coef (reduce k p), vars_reduce p, bit_or_law t.set (vars (reduce k p)) w, bit_or_law t.set (vars p) w)

  pub vars_extension : (v : ℕ) (p : Poly) → In (bit_or (2 ^ v) (vars p)) (extension k v p)
  unfolding extension vars
  vars_extension v p = vars_reduce (record { set = 2 ^ v; coef = 2 ^ k - 1 } ∷ p)
