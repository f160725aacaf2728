-- What the tests of ranges say of a ring and of a term, and choices by a test. Assumes nothing.
use mathlib.Core.Path.{◌≡◌}
use mathlib.Core.Bool.{Bool, true, ◌&&◌}
use Prim.Native.Nat.{ℕ, ◌≤◌}
use lib.Dec.{leb}
use borrow.Author.Tests.{leb-true}
use Rattle.ground.specs.Lists.{every}
use Rattle.ground.proofs.Tests.{and_left, and_right}
use Rattle.limits.specs.Limits.{greatest_ring, greatest_magnitude}
use Rattle.paper.specs.Statement.{WrittenTerm, modulo, is_ring, is_variable, is_term}

module _ (k : ℕ) (e : is_ring (modulo k) ≡ true) where
  pub ring_some : 1 ≤ k
  unfolding is_ring
  ring_some = leb-true 1 k (and_left (leb 1 k) (leb k greatest_ring) e)

  pub ring_most : k ≤ greatest_ring
  unfolding is_ring
  ring_most = leb-true k greatest_ring (and_right (leb 1 k) (leb k greatest_ring) e)

pub record TermInRange (t : WrittenTerm) : Type 0 where
  pub some : 1 ≤ t.magnitude
  pub most : t.magnitude ≤ greatest_magnitude
  pub named : every is_variable t.variables ≡ true

pub term_in_range : (t : WrittenTerm) → is_term t ≡ true → TermInRange t
unfolding is_term
term_in_range t e =
    let s : Bool = leb 1 t.magnitude in
    let m : Bool = leb t.magnitude greatest_magnitude in
    let w = and_left (s && m) (every is_variable t.variables) e in
    record {
      some = leb-true 1 t.magnitude (and_left s m w);
      most = leb-true t.magnitude greatest_magnitude (and_right s m w);
      named = and_right (s && m) (every is_variable t.variables) e;
    }
