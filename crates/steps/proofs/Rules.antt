-- The rows that can refuse a statement of each kind. Assumes nothing.
use mathlib.Core.Path.{◌≡◌, refl, ap, ap₂}
use mathlib.Core.Bool.{Bool, not, or-false, and-true}
use mathlib.Core.List.{List, [], ◌∷◌, ◌++◌}
use Prim.Native.Nat.{ℕ, ◌*◌}
use native.Mathlib.Nat.{zero-add, add-zero}
use lib.Bits.{bit_or}
use lib.Dec.{eqb, ltb}
use lib.ListN.{length}
use Rattle.ground.specs.Lists.{every, any}
use Rattle.limits.specs.Limits.{line_products}
use Rattle.limits.specs.Verdicts.{ORDER, MISSING, SEEN, PRODUCTS, MISMATCH, NOTBIT}
use Rattle.algebra.specs.Polynomial.{has, equal, reduce, product, extension}
use Rattle.paper.specs.Statement.{Written, Pair, Ring, bits, ring, input, goal, lin, del, ext, new_index, named_indices, forgets, reduced}
use Rattle.paper.specs.Rules.{entry, first, opening, inputs, steps, State, stored, find, without, rules, place, entries, shows, combination, product_count, overfull}
use Rattle.sums.specs.Sums.{indices_of, products_of}
use Rattle.steps.specs.Parts.{admit_rows, lin_rows, ext_rows, full_rows}

module _ (capacity : ℕ) (s : State) where
  abbrev k : ℕ
  k = bits s.ring

  pub first_ring : (r : Ring) → first (rules capacity s (ring r)) ≡ first ((ORDER, not (eqb opening s.phase)) ∷ [])
  unfolding first rules place new_index named_indices any every product_count entries overfull
  first_ring r = refl

  pub first_goal : (p : Written) → first (rules capacity s (goal p)) ≡ first ((ORDER, not (eqb inputs s.phase)) ∷ [])
  unfolding first rules place new_index named_indices any every product_count entries overfull
  first_goal p = refl

  pub first_del : (i : ℕ) → first (rules capacity s (del i)) ≡ first ((ORDER, not (eqb steps s.phase)) ∷ (MISSING, not (stored s.store i)) ∷ [])
  unfolding first rules place new_index named_indices any every product_count entries overfull
  first_del i = ap (λ (b : Bool). first ((ORDER, not (eqb steps s.phase)) ∷ (MISSING, not b) ∷ [])) (and-true (stored s.store i))

  pub first_input : (i : ℕ) (p : Written)
      → first (rules capacity s (input i p)) ≡ first (admit_rows inputs s.phase (stored s.store i) ++ full_rows (overfull capacity s.store (entry i (reduced k p))))
  unfolding first rules place new_index named_indices forgets any every without product_count entries
  first_input i p = ap (λ (b : Bool). first (admit_rows inputs s.phase b ++ full_rows (overfull capacity s.store (entry i (reduced k p))))) (or-false (stored s.store i))

  pub first_ext : (i v : ℕ) (p : Written)
      → first (rules capacity s (ext i v p))
      ≡ first (admit_rows steps s.phase (stored s.store i) ++ (ext_rows k s.seen v p ++ full_rows (overfull capacity s.store (entry i (extension k v (reduced k p))))))
  unfolding first rules place new_index named_indices forgets any every without product_count entries
  first_ext i v p =
      ap₂ (λ (b : Bool) (n : ℕ). first (admit_rows steps s.phase b ++ ((SEEN, has (bit_or (shows k p) s.seen) v) ∷ (PRODUCTS, ltb line_products n)
      ∷ (NOTBIT, not (equal (product k (reduced k p) (reduced k p)) (reduced k p))) ∷ full_rows (overfull capacity s.store (entry i (extension k v (reduced k p)))))))
      (or-false (stored s.store i)) (zero-add (length (reduced k p) * length (reduced k p)))

  pub first_lin : (i : ℕ) (p : Written) (qs : List Pair)
      → first (rules capacity s (lin i p qs))
      ≡ first (admit_rows steps s.phase (stored s.store i) ++ (lin_rows k s.store p qs ++ full_rows (overfull capacity s.store (entry i (reduced k p)))))
  unfolding first rules place new_index named_indices forgets any every without product_count products_of entries
  first_lin i p qs =
      ap₂ (λ (b : Bool) (n : ℕ). first (admit_rows steps s.phase b ++ ((MISSING, not (every (stored s.store) (indices_of qs))) ∷ (PRODUCTS, ltb line_products n)
      ∷ (MISMATCH, not (equal (reduced k p) (reduce k (combination k (find s.store) qs)))) ∷ full_rows (overfull capacity s.store (entry i (reduced k p))))))
      (or-false (stored s.store i)) (add-zero (products_of k (find s.store) qs))
