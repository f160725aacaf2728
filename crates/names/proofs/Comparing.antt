-- A name of a room compared with another byte by byte. Assumes nothing.
use mathlib.Core.Path.{◌≡◌, refl, ap, ◌∙◌}
use mathlib.Core.Bool.{Bool, ◌&&◌}
use mathlib.Core.List.{[], ◌∷◌}
use Prim.Native.Nat.{ℕ, ◌+◌, ◌-◌}
use native.Mathlib.Omega.{arith}
use lib.Dec.{eqb}
use lib.ListN.{take, drop}
use lib.Pointwise.{pointwise}
use Rattle.words.specs.Parts.{part}
use Rattle.paper.specs.Grammar.{Bytes}
use Rattle.paper.specs.Published.{Name}
use Rattle.paper.specs.Named.{same_name}

-- as `==` compares them
same_slice : (m n : Name) → pointwise eqb m n ≡ same_name m n
unfolding same_name
same_slice [] [] = refl
same_slice [] (c ∷ n) = refl
same_slice (b ∷ m) [] = refl
same_slice (b ∷ m) (c ∷ n) = ap (λ (t : Bool). eqb b c && t) (same_slice m n)

-- the k bytes of a room from a on
pub same_part : (room : Bytes) (a k : ℕ) (s : Name) {b : Bool} → b ≡ pointwise eqb (take (a + k - a) (drop a room)) s → b ≡ same_name (part a k room) s
same_part room a k s q =
    let e : a + k - a ≡ k = omega arith in
    q ∙ ap (λ (i : ℕ). pointwise eqb (take i (drop a room)) s) e ∙ same_slice (part a k room) s
