-- The contract `Wrote` decides the result and the output. Assumes nothing.
use mathlib.Core.Path.{◌≡◌, sym, ◌∙◌}
use Prim.Native.Nat.{ℕ}
use Rattle.paper.specs.Grammar.{Bytes}
use Rattle.writer.specs.Writing.{Wrote}

pub one_wrote : (d : Bytes) (at : ℕ) (w e f : Bytes) (r q : ℕ) → Wrote d at w e r → Wrote d at w f q → (e ≡ f) × (r ≡ q)
one_wrote d at w e f r q x y = (x.bytes ∙ sym y.bytes, x.next ∙ sym y.next)
