-- What a decimal and a number in a range are, said of the code's answers.
use Rattle.std.specs.Prelude.{◌≡◌, false, cond, ℕ, ◌^◌, ◌≤◌, Option, None, Some, Result}
use Rattle.paper.specs.Grammar.{Bytes, Reader}
use Rattle.paper.specs.Statement.{within}
use Rattle.reader.specs.Places.{Got, StopsOr}
use Rattle.reader.specs.declared.stop.Stop.{Stop}
use Rattle.reader.specs.declared.number.Number.{Number}

-- a number that no word holds ends at e
pub record TooLarge (read : Reader ℕ) (s : Bytes) (at e : ℕ) : Type 0 where
  pub value : ℕ
  pub large : 2 ^ 64 ≤ value
  pub taken : Got read s at value e

-- a decimal's value, or none, and its end
abbrev pub ValueAt : Reader ℕ → Bytes → ℕ → ℕ → Option ℕ → Type 0
ValueAt read s at e (Some v) = Got read s at v e
ValueAt read s at e None = TooLarge read s at e

abbrev pub DecimalAt : Reader ℕ → Bytes → ℕ → Number → Type 0
DecimalAt read s at n = ValueAt read s at n.end n.value

abbrev pub DecimalIs : Reader ℕ → Bytes → ℕ → Result Number Stop → Type 0
DecimalIs read s at r = StopsOr read s at (DecimalAt read s at) r

-- a value out of the range is none
abbrev pub kept : ℕ → ℕ → Option ℕ → Option ℕ
kept low high (Some v) = cond (within low high v) (Some v) None
kept low high None = None

abbrev pub clipped : ℕ → ℕ → Number → Number
clipped low high n = record { value = kept low high n.value; end = n.end }

-- a number in the range ends at e, and one outside it does
pub record InRange (read : Reader ℕ) (low high : ℕ) (s : Bytes) (at v e : ℕ) : Type 0 where
  pub above : low ≤ v
  pub below : v ≤ high
  pub taken : Got read s at v e

pub record OutOfRange (read : Reader ℕ) (low high : ℕ) (s : Bytes) (at e : ℕ) : Type 0 where
  pub value : ℕ
  pub outside : within low high value ≡ false
  pub taken : Got read s at value e

abbrev pub RangedAt : Reader ℕ → ℕ → ℕ → Bytes → ℕ → ℕ → Option ℕ → Type 0
RangedAt read low high s at e (Some v) = InRange read low high s at v e
RangedAt read low high s at e None = OutOfRange read low high s at e

abbrev pub NumberAt : Reader ℕ → ℕ → ℕ → Bytes → ℕ → Number → Type 0
NumberAt read low high s at n = RangedAt read low high s at n.end n.value

abbrev pub NumberIs : Reader ℕ → ℕ → ℕ → Bytes → ℕ → Result Number Stop → Type 0
NumberIs read low high s at r = StopsOr read s at (NumberAt read low high s at) r
