-- The state after a statement of each kind, field by field. Assumes nothing.
use mathlib.Core.Path.{◌≡◌, ap, ◌∙◌}
use mathlib.Core.Bool.{Bool, false, ◌||◌, or-false}
use mathlib.Core.List.{List, ◌++◌, append-nil}
use Prim.Native.Nat.{ℕ, ◌+◌, ◌*◌, ◌^◌}
use native.Mathlib.Nat.{zero-add, add-zero}
use lib.Bits.{bit_or, or_zero_l, or_zero_r}
use lib.ListN.{length}
use Rattle.ground.specs.Lists.{any}
use Rattle.algebra.specs.Polynomial.{Poly, equal, extension}
use Rattle.paper.specs.Statement.{Written, Pair, Ring, bits, ring, input, goal, lin, del, ext, forgets, fields, reduced}
use Rattle.paper.specs.Rules.{entry, inputs, steps, State, find, remove, without, entries, shows, shows_all, makes_seen, product_count, holds_goal, after}
use Rattle.sums.specs.Sums.{factors_of, products_of}

-- with q stored under x, so many products more, and these variables seen
abbrev pub storing : State → ℕ → Poly → ℕ → ℕ → Bool → State
storing s x q made shown reached = record {
  phase = s.phase;
  ring = s.ring;
  store = s.store ++ entry x q;
  seen = shown;
  goal = s.goal;
  reached = reached;
  products = s.products + made;
}

module _ (s : State) where
  abbrev k : ℕ
  k = bits s.ring

  pub after_ring : (r : Ring) → after s (ring r)
      ≡ record { phase = inputs; ring = r; store = s.store; seen = s.seen; goal = s.goal; reached = s.reached; products = s.products }
  unfolding after forgets without entries makes_seen shows_all fields product_count holds_goal any
  after_ring r = λ i. record {
    phase = inputs;
    ring = r;
    store = append-nil s.store i;
    seen = or_zero_l s.seen i;
    goal = s.goal;
    reached = or-false s.reached i;
    products = add-zero s.products i;
  }

  pub after_del : (x : ℕ) → after s (del x)
      ≡ record { phase = s.phase; ring = s.ring; store = remove s.store x; seen = s.seen; goal = s.goal; reached = s.reached; products = s.products }
  unfolding after forgets without entries makes_seen shows_all fields product_count holds_goal any
  after_del x = λ i. record {
    phase = s.phase;
    ring = s.ring;
    store = append-nil (remove s.store x) i;
    seen = or_zero_l s.seen i;
    goal = s.goal;
    reached = or-false s.reached i;
    products = add-zero s.products i;
  }

  -- the variables that one field shows
  one : (p : Written) → bit_or 0 (bit_or (shows k p) 0) ≡ shows k p
  one p = or_zero_l (bit_or (shows k p) 0) ∙ or_zero_r (shows k p)

  pub after_goal : (p : Written) → after s (goal p)
      ≡ record {
        phase = steps;
        ring = s.ring;
        store = s.store;
        seen = bit_or (shows k p) s.seen;
        goal = reduced k p;
        reached = holds_goal (reduced k p) s.store;
        products = s.products;
      }
  unfolding after forgets without entries makes_seen shows_all fields product_count
  after_goal p = λ i. record {
    phase = steps;
    ring = s.ring;
    store = append-nil s.store i;
    seen = bit_or (one p i) s.seen;
    goal = reduced k p;
    reached = holds_goal (reduced k p) s.store;
    products = add-zero s.products i;
  }

  pub after_input : (x : ℕ) (p : Written) → after s (input x p) ≡ storing s x (reduced k p) 0 (bit_or (shows k p) s.seen) false
  unfolding after forgets without entries makes_seen shows_all fields product_count
  after_input x p = λ i. record {
    phase = s.phase;
    ring = s.ring;
    store = s.store ++ entry x (reduced k p);
    seen = bit_or (one p i) s.seen;
    goal = s.goal;
    reached = false;
    products = s.products + 0;
  }

  -- reached before, or the goal is the one polynomial that is stored
  reaches : (g p : Poly) (b : Bool) (x : ℕ) → (b || holds_goal g (entry x p)) ≡ (b || equal p g)
  unfolding holds_goal any
  reaches g p b x = ap (λ (c : Bool). b || c) (or-false (equal p g))

  pub after_ext : (x v : ℕ) (p : Written) → after s (ext x v p)
      ≡ storing s x (extension k v (reduced k p)) (length (reduced k p) * length (reduced k p)) (bit_or (bit_or (2 ^ v) (shows k p)) s.seen)
      (s.reached || equal (extension k v (reduced k p)) s.goal)
  unfolding after forgets without entries makes_seen shows_all fields product_count
  after_ext x v p = λ i. record {
    phase = s.phase;
    ring = s.ring;
    store = s.store ++ entry x (extension k v (reduced k p));
    seen = bit_or (bit_or (2 ^ v) (or_zero_r (shows k p) i)) s.seen;
    goal = s.goal;
    reached = reaches s.goal (extension k v (reduced k p)) s.reached x i;
    products = s.products + zero-add (length (reduced k p) * length (reduced k p)) i;
  }

  pub after_lin : (x : ℕ) (p : Written) (qs : List Pair) → after s (lin x p qs)
      ≡ storing s x (reduced k p) (products_of k (find s.store) qs) (bit_or (bit_or (shows k p) (shows_all k (factors_of qs))) s.seen)
      (s.reached || equal (reduced k p) s.goal)
  unfolding after forgets without entries makes_seen shows_all fields product_count products_of
  after_lin x p qs = λ i. record {
    phase = s.phase;
    ring = s.ring;
    store = s.store ++ entry x (reduced k p);
    seen = bit_or (or_zero_l (bit_or (shows k p) (shows_all k (factors_of qs))) i) s.seen;
    goal = s.goal;
    reached = reaches s.goal (reduced k p) s.reached x i;
    products = s.products + add-zero (products_of k (find s.store) qs) i;
  }
