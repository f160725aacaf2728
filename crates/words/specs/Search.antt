-- Where an element of a list first stands, told by a test of whether two elements are the same.
use Rattle.std.specs.Prelude.{◌≡◌, ℕ, ◌≤◌, ◌<◌, Bool, true, false, List, length, Option, Some, None, MatchBool}
use Rattle.std.specs.List.{HoldsAt, AllWithin}

module _ {A : Type 0} (same : A → A → Bool) (s : List A) where
  -- x stands at k
  abbrev pub Stands : A → ℕ → Type 0
  Stands x k = HoldsAt (λ y. same y x ≡ true) s k

  -- x does not stand from at up to e
  abbrev pub Nowhere : ℕ → A → ℕ → Type 0
  Nowhere at x e = AllWithin (λ y. same y x ≡ false) s at e

  -- whether x stands somewhere from at up to e
  abbrev pub Among : ℕ → A → ℕ → Bool → Type 0
  Among at x e r = MatchBool r ((k : ℕ) × (at ≤ k) × (k < e) × Stands x k) (Nowhere at x e)

  -- x does not stand from at up to r
  pub record Passed (at : ℕ) (x : A) (r : ℕ) : Type 0 where
    pub onward : at ≤ r
    pub inside : r ≤ length s
    pub nowhere : Nowhere at x r

  -- r is the first place from at on where x stands
  pub record FirstFrom (at : ℕ) (x : A) (r : ℕ) : Type 0 where
    pub onward : at ≤ r
    pub inside : r < length s
    pub here : Stands x r
    pub earlier : Nowhere at x r

  abbrev pub FindsFrom : ℕ → A → Option ℕ → Type 0
  FindsFrom at x (Some r) = FirstFrom at x r
  FindsFrom at x None = Nowhere at x (length s)
