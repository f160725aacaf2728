-- A region of a slice, a change that stays within one, and eight elements in a row.
use Rattle.std.specs.Prelude.{◌≡◌, ℕ, List, length, take, drop}

-- the k elements from a, as the borrow checker has the part s[a..a + k]
abbrev pub part : ℕ → ℕ → List ℕ → List ℕ
part a k s = take k (drop a s)

-- s and r differ at most from a up to e
pub record Within (a e : ℕ) (s r : List ℕ) : Type 0 where
  pub before : take a r ≡ take a s
  pub after : drop e r ≡ drop e s
  pub same : length r ≡ length s
