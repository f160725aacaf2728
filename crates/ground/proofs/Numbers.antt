-- Products of numbers, row by row. Assumes nothing.
use mathlib.Core.Path.{◌≡◌}
use Prim.Native.Nat.{ℕ, ◌+◌, ◌*◌, ◌≤◌, ◌<◌}
use native.Mathlib.Nat.{mul-le-mul_right}
use native.Mathlib.Omega.{arith}

-- one row more of n each
pub row_more : (i n : ℕ) → (i + 1) * n ≡ i * n + n
row_more i n = omega arith

pub row_fits : (i m n : ℕ) → i < m → i * n + n ≤ m * n
row_fits i m n h = rw (← row_more i n) (mul-le-mul_right {m = i + 1} {n = m} n (omega arith))
