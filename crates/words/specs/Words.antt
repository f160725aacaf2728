-- The number that words stand for, the order of two numbers, and the lowest variable of a set.
use Rattle.std.specs.Prelude.{◌≡◌, ℕ, ◌+◌, ◌*◌, ◌^◌, ◌<◌, List, [], ◌∷◌}
use Rattle.algebra.specs.Polynomial.{bit}
use Rattle.std.specs.declared.cmp.Ordering.{Ordering}
use Rattle.std.specs.Ordering.{nat_cmp}

-- the lowest word first
unfoldable pub number_of : List ℕ → ℕ
number_of [] = 0
number_of (w ∷ ws) = number_of ws * 2 ^ 64 + w

-- which of two numbers is the larger
abbrev pub order_of : ℕ → ℕ → Ordering
order_of m n = nat_cmp m n

-- v is the lowest variable of the set m, and one of the first n
pub record Lowest (n m v : ℕ) : Type 0 where
  pub inside : v < n
  pub here : bit m v ≡ 1
  pub none : (u : ℕ) → u < v → bit m u ≡ 0
