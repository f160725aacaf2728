-- A line `k<tab>field`, by places.
use Rattle.std.specs.Prelude.{◌≡◌, Bool, true, ◌&&◌, ℕ, ◌+◌, ◌≤◌, ◌<◌, eqb, ltb, length, get_or, Option, None, Some}
use Prim.Native.Char.{code}
use Rattle.limits.specs.Limits.{greatest_ring}
use Rattle.paper.specs.Grammar.{Bytes, decimal}
use Rattle.reader.specs.Places.{Got}
use Rattle.lpac_spell.specs.declared.Asked.{Asked}

unfoldable pub tab_at : Bytes → ℕ → Bool
tab_at s i = ltb i (length s) && eqb (get_or s i 0) (code "\t")

-- a decimal and a tab stand before `at`; k is its value, or beyond the greatest k as the value is
pub record Asks (s : Bytes) (k at : ℕ) : Type 0 where
  pub value : ℕ
  pub tab : ℕ
  pub taken : Got decimal s 0 value tab
  pub tabbed : tab_at s tab ≡ true
  pub behind : at ≡ tab + 1
  pub inside : at ≤ length s
  pub small : value ≤ greatest_ring → k ≡ value
  pub large : greatest_ring < value → greatest_ring < k

abbrev pub AskedIs : Bytes → Option Asked → Type 0
AskedIs s (Some a) = Asks s a.k a.at
AskedIs s None = (n e : ℕ) → Got decimal s 0 n e → tab_at s e ≡ true → ⊥
