-- A search that looks at eight elements of a list in one turn. Assumes nothing.
use mathlib.Core.Path.{◌≡◌, sym}
use mathlib.Core.Bool.{Bool, true, false, ◌||◌}
use mathlib.Core.List.{List}
use Prim.Native.Nat.{ℕ, ◌+◌, ◌≤◌, ◌<◌}
use native.Mathlib.Omega.{arith}
use lib.ListN.{length, get_or}
use Rattle.std.proofs.lemmas.List.Elements.{at_read, AllWithin-more}
use Rattle.words.specs.Search.{Among}

module _ {A : Type 0} (same : A → A → Bool) (s : List A) (x : A) (at : ℕ) where
  pub none_yet : Among same s at x at false
  none_yet k d l m = absurd (let z : ⊥ = omega arith in z)

  -- one place more, by the test of the element y at e
  pub one_more : (e j : ℕ) (a b : Bool) (y : A) → at ≤ e → e < length s → j ≡ e + 1 → y ≡ get_or s e y → b ≡ same y x → Among same s at x e a
      → Among same s at x j (a || b)
  one_more e j true b y l m q r t p = (p.0, p.1, omega arith, p.3)
  one_more e j false true y l m q r t p = (e, l, omega arith, at_read s (λ z. same z x ≡ true) e y m r (sym t))
  one_more e j false false y l m q r t p =
      rw q (AllWithin-more (λ z. same z x ≡ false) s at e p (at_read s (λ z. same z x ≡ false) e y m r (sym t)))
