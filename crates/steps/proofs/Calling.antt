-- For whoever calls the steps: what reading an item asks of the room, and what a change of other regions leaves. Assumes nothing.
use mathlib.Core.Path.{◌≡◌, ap}
use mathlib.Core.List.{List}
use Prim.Native.Nat.{ℕ, ◌<◌, ◌≤◌}
use native.Mathlib.Omega.{arith}
use lib.ListN.{length, drop}
use Rattle.limits.specs.Limits.{least_scratch}
use Rattle.terms.specs.Terms.{decode}
use Rattle.paper.specs.Statement.{modulo}
use Rattle.words.specs.Words.{number_of}
use Rattle.table.specs.Table.{store_of, PoolHolds}
use Rattle.table.proofs.Laws.{fitting_holds}
use Rattle.scratch.specs.Scratch.{goal_at}
use Rattle.steps.specs.declared.state.State.{State}
use Rattle.steps.specs.State.{state_of, Ready}
use Rattle.steps.specs.Stepped.{Room}

-- what reading an item asks for
pub ready_reads : {capacity : ℕ} {s : State} {pool scratch : List ℕ} → Ready capacity s pool scratch
    → PoolHolds s.table.starts s.table.counts s.table.stored pool × (0 < s.table.stored → (1 ≤ s.ring) × (s.ring ≤ 64)) × (least_scratch ≤ length scratch)
ready_reads {capacity} {s} {pool} r = (fitting_holds s.table pool capacity r.fitting, (λ h. r.ringed (r.opened h)), r.room)

-- of another scratch
pub room_kept : {capacity : ℕ} {s : State} {pool scratch scratch' : List ℕ} → length scratch' ≡ length scratch → Room capacity s pool scratch → Room capacity s pool scratch'
room_kept e room =
    let r = room.ready in
    record {
      ready = record {
        fitting = r.fitting;
        room = omega (arith, r.room, e);
        aim = r.aim;
        ringed = r.ringed;
        opened = r.opened;
        distinct = r.distinct;
        few = r.few;
      };
      early = room.early;
    }

-- the state stays where the goal's region does
pub state_kept : (s : State) (pool scratch scratch' : List ℕ) → drop goal_at scratch' ≡ drop goal_at scratch → state_of s pool scratch' ≡ state_of s pool scratch
state_kept s pool scratch scratch' e = ap (λ (l : List ℕ). record {
  phase = s.phase;
  ring = modulo s.ring;
  store = store_of s.table pool;
  seen = number_of s.seen;
  goal = decode s.goal_terms l;
  reached = s.reached;
  products = s.products;
}) e
