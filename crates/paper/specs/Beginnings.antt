-- The byte at which a line or a statement of bad form fails: one past the longest beginning that some well-formed one shares.
use mathlib.Core.{Path.◌≡◌, List.[]}
use Rattle.std.specs.Prelude.{ℕ, suc, ◌≤◌, ◌<◌, length, take}
use Rattle.paper.specs.Grammar.{Bytes, got, Reader}

-- well formed: all of it is read, whatever its length, its terms and its numbers
pub record Formed {A : Type 0} (read : Reader A) (s : Bytes) : Type 0 where
  pub says : A
  pub reads : read s ≡ got says []

-- the first n bytes of s begin a well-formed one
pub record Shares {A : Type 0} (read : Reader A) (n : ℕ) (s : Bytes) : Type 0 where
  pub whole : Bytes
  pub formed : Formed read whole
  pub long : n ≤ length whole
  pub alike : take n whole ≡ take n s

-- b, counted from 1: the bytes before it are shared, if there are any, and one more are not
pub record FormByte {A : Type 0} (read : Reader A) (s : Bytes) (b : ℕ) : Type 0 where
  pub shared : ℕ
  pub counted : b ≡ suc shared
  pub inside : shared ≤ length s
  pub before : 0 < shared → Shares read shared s
  pub beyond : shared < length s → Shares read (suc shared) s → ⊥
