-- What a statement that stores a polynomial asks for and changes. Assumes nothing.
use mathlib.Core.Path.{◌≡◌}
use mathlib.Core.Bool.{Bool, false, ◌||◌}
use mathlib.Core.List.{List, [], ◌++◌}
use Prim.Native.Nat.{ℕ, ◌*◌, ◌^◌, ◌<◌}
use native.Mathlib.Omega.{arith}
use lib.Bits.{bit_or}
use lib.ListN.{length}
use Rattle.algebra.specs.Polynomial.{Poly, equal, extension}
use Rattle.paper.specs.Statement.{Written, Pair, bits, Statement, input, lin, ext, reduced}
use Rattle.paper.specs.Rules.{entry, first, inputs, steps, State, stored, find, rules, after, shows, shows_all, overfull}
use Rattle.sums.specs.Rows.{Rows}
use Rattle.sums.specs.Sums.{factors_of, products_of}
use Rattle.sums.proofs.Rows.{Refusing}
use Rattle.steps.specs.Parts.{admit_rows, lin_rows, ext_rows, full_rows}
use Rattle.steps.proofs.Rules.{first_input, first_ext, first_lin}
use Rattle.steps.proofs.After.{storing, after_input, after_ext, after_lin}

-- q under x, in a phase behind the first, unless these rows or those around them refuse
pub record Stores (capacity : ℕ) (s : State) (st : Statement) (place x : ℕ) (rows : Rows) (q : Poly) (made shown : ℕ) (reached : Bool) : Type 0 where
  pub later : 0 < place
  pub refusing : Refusing rows
  pub verdict : first (rules capacity s st) ≡ first (admit_rows place s.phase (stored s.store x) ++ (rows ++ full_rows (overfull capacity s.store (entry x q))))
  pub next : after s st ≡ storing s x q made shown reached

abbrev k : State → ℕ
k s = bits s.ring

module _ {capacity : ℕ} {s : State} {x : ℕ} {p : Written} where
  pub input_stores : Stores capacity s (input x p) inputs x [] (reduced (k s) p) 0 (bit_or (shows (k s) p) s.seen) false
  input_stores = record { later = omega arith; refusing = tt; verdict = first_input capacity s x p; next = after_input s x p }

  pub ext_stores : {v : ℕ}
      → Stores capacity s (ext x v p) steps x (ext_rows (k s) s.seen v p) (extension (k s) v (reduced (k s) p)) (length (reduced (k s) p) * length (reduced (k s) p))
      (bit_or (bit_or (2 ^ v) (shows (k s) p)) s.seen) (s.reached || equal (extension (k s) v (reduced (k s) p)) s.goal)
  ext_stores {v} = record {
    later = omega arith;
    refusing = (omega arith, (omega arith, (omega arith, tt)));
    verdict = first_ext capacity s x v p;
    next = after_ext s x v p;
  }

  pub lin_stores : {qs : List Pair}
      → Stores capacity s (lin x p qs) steps x (lin_rows (k s) s.store p qs) (reduced (k s) p) (products_of (k s) (find s.store) qs)
      (bit_or (bit_or (shows (k s) p) (shows_all (k s) (factors_of qs))) s.seen) (s.reached || equal (reduced (k s) p) s.goal)
  lin_stores {qs} = record {
    later = omega arith;
    refusing = (omega arith, (omega arith, (omega arith, tt)));
    verdict = first_lin capacity s x p qs;
    next = after_lin s x p qs;
  }
