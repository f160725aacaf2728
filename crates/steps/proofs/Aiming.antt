-- When a goal line stands. Assumes nothing.
use mathlib.Core.Path.{◌≡◌, refl, sym, ap, ◌∙◌}
use mathlib.Core.Bool.{Bool}
use mathlib.Core.List.{List, []}
use Prim.Native.Nat.{ℕ, ◌+◌, ◌-◌}
use native.Mathlib.Omega.{arith}
use lib.Bits.{bit_or}
use lib.ListN.{length, drop}
use Rattle.limits.specs.declared.refusal.Refusal.TheVariants.{Order}
use Rattle.std.specs.Prelude.{Ok, Err}
use Rattle.algebra.specs.Polynomial.{Poly}
use Rattle.words.specs.Parts.{part}
use Rattle.words.specs.Words.{number_of}
use Rattle.terms.specs.Terms.{decode}
use Rattle.terms.proofs.Decode.{decode_part}
use Rattle.paper.specs.Statement.{Written, modulo, goal, reduced}
use Rattle.paper.specs.Rules.{first, inputs, steps, shows, holds_goal}
use Rattle.table.specs.Table.{store_of}
use Rattle.scratch.specs.Scratch.{stated_at, goal_at, RunAt, ReducedAt}
use Rattle.scratch.specs.declared.Reduced.{Reduced}
use Rattle.steps.specs.declared.state.State.{State}
use Rattle.steps.specs.State.{state_of}
use Rattle.steps.specs.Stepped.{Room, Stepped}
use Rattle.steps.proofs.Rules.{first_goal}
use Rattle.steps.proofs.After.{after_goal}
use Rattle.steps.proofs.Stepping.{stepped_refused, order_refuses, order_passes}

abbrev aimed : State → List ℕ → ℕ → Bool → State
aimed s seen terms reached = record {
  phase = steps;
  ring = s.ring;
  table = s.table;
  seen = seen;
  goal_terms = terms;
  reached = reached;
  products = s.products;
  lines = s.lines + 1;
}

module _ {capacity : ℕ} {s : State} {pool scratch : List ℕ} {p : Written} where
  pub goal_misplaced : (s.phase ≡ inputs → ⊥) → Stepped capacity (goal p) s pool scratch (Err Order) s pool scratch
  goal_misplaced z = stepped_refused Order refl (first_goal capacity (state_of s pool scratch) p ∙ order_refuses inputs s.phase [] z) refl

  -- the field reduced, and copied to the goal's region
  pub goal_stands : {x scratch' seen : List ℕ} {reached : Bool} {f : Reduced} → Room capacity s pool scratch → s.phase ≡ inputs
      → ReducedAt s.ring p stated_at scratch x f → RunAt goal_at (decode f.terms (drop stated_at x)) x scratch' f.terms
      → number_of seen ≡ bit_or (number_of f.shown) (number_of s.seen)
      → reached ≡ holds_goal (decode f.terms (part goal_at (length scratch' - goal_at) scratch')) (store_of s.table pool)
      → Stepped capacity (goal p) s pool scratch (Ok tt) (aimed s seen f.terms reached) pool scratch'
  unfolding first
  goal_stands {scratch' = scratch'} {seen} {reached} {f} room z d g u b =
      let o = room.ready in
      let l : length scratch' ≡ length scratch = g.within.same ∙ d.at.within.same in
      let same : decode f.terms (drop goal_at scratch') ≡ reduced s.ring p = g.run ∙ d.at.run in
      let seen_too : number_of seen ≡ bit_or (shows s.ring p) (number_of s.seen) = u ∙ ap (λ (m : ℕ). bit_or m (number_of s.seen)) d.shown in
      let reached_too : reached ≡ holds_goal (reduced s.ring p) (store_of s.table pool)
      = b ∙ ap (λ (y : Poly). holds_goal y (store_of s.table pool)) (decode_part f.terms goal_at (length scratch' - goal_at) scratch' (omega (arith, d.at.few, l, o.room)) ∙ same) in
      record {
        verdict = first_goal capacity (state_of s pool scratch) p ∙ order_passes inputs s.phase [] z;
        next = λ _. (λ i. record {
          phase = steps;
          ring = modulo s.ring;
          store = store_of s.table pool;
          seen = seen_too i;
          goal = same i;
          reached = reached_too i;
          products = s.products;
        }) ∙ sym (after_goal (state_of s pool scratch) p);
        ready = λ _. record {
          fitting = o.fitting;
          room = omega (arith, o.room, l);
          aim = d.at.few;
          ringed = λ _. o.ringed (omega (arith, z));
          opened = λ _. omega arith;
          distinct = o.distinct;
          few = omega (arith, o.few);
        };
        lines = λ _. refl;
        back = λ n. absurd (n refl);
        untouched = λ n. refl;
        pool_length = refl;
        scratch_length = l;
      }
