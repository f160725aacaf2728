-- What a reader of the paper does at a place of a line, said by places.
use Rattle.std.specs.Prelude.{◌≡◌, ℕ, ◌≤◌, length, drop, Result, Ok, Err}
use Rattle.paper.specs.Grammar.{Bytes, Reader, got, stuck}
use Rattle.reader.specs.declared.stop.Stop.{Stop}

-- it reads x from at up to e
pub record Got {A : Type 0} (read : Reader A) (s : Bytes) (at : ℕ) (x : A) (e : ℕ) : Type 0 where
  pub reads : read (drop at s) ≡ got x (drop e s)
  pub onward : at ≤ e
  pub inside : e ≤ length s

-- it stops at the byte p, or past the end
pub record Fails {A : Type 0} (read : Reader A) (s : Bytes) (at p : ℕ) : Type 0 where
  pub reads : read (drop at s) ≡ stuck (drop p s)
  pub onward : at ≤ p
  pub inside : p ≤ length s

-- it stops, or P holds of the code's answer
abbrev pub StopsOr : {A B : Type 0} → Reader A → Bytes → ℕ → (B → Type 0) → Result B Stop → Type 0
StopsOr read s at P (Ok r) = P r
StopsOr read s at P (Err e) = Fails read s at e.at
