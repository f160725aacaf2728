-- Known bytes as they are read, one by one. Assumes nothing.
use mathlib.Core.Path.{◌≡◌}
use Prim.Native.Nat.{ℕ, ◌+◌, ◌≤◌, ◌<◌}
use native.Mathlib.Numerals.{add-one}
use lib.ListN.{length, drop, get_or, drop_of_length-le}
use lib.Seq.{drop-cons}
use borrow.Author.Tests.{eq-eqb, ne_eqb}
use Rattle.paper.specs.Grammar.{Bytes, got, stuck, literal}

module _ (s w : Bytes) (i j : ℕ) (l : j < length w) where
  pub literal_more : i < length s → get_or s i 0 ≡ get_or w j 0 → literal (drop j w) (drop i s) ≡ literal (drop (j + 1) w) (drop (i + 1) s)
  unfolding literal
  literal_more h b = rw (drop-cons s i 0 h, drop-cons w j 0 l, eq-eqb (get_or s i 0) (get_or w j 0) b, add-one i, add-one j)

  pub literal_not : i < length s → (get_or s i 0 ≡ get_or w j 0 → ⊥) → literal (drop j w) (drop i s) ≡ stuck (drop i s)
  unfolding literal
  literal_not h b = rw (drop-cons s i 0 h, drop-cons w j 0 l, ne_eqb (get_or s i 0) (get_or w j 0) b)

  pub literal_short : length s ≤ i → literal (drop j w) (drop i s) ≡ stuck (drop i s)
  unfolding literal
  literal_short h = rw (drop-cons w j 0 l, drop_of_length-le s h)

pub literal_all : (s w : Bytes) (i j : ℕ) → length w ≤ j → literal (drop j w) (drop i s) ≡ got tt (drop i s)
unfolding literal
literal_all s w i j h = rw (drop_of_length-le w h)
