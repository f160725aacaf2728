-- What a step leaves: the verdict of the first row that refuses, and the state after the statement, or all as it was.
use Rattle.std.specs.Prelude.{◌≡◌, List, Result, ℕ, ◌+◌, ◌≤◌, length}
use Rattle.limits.specs.Limits.{text_bytes}
use Rattle.limits.specs.Verdicts.{ACCEPTED}
use Rattle.limits.specs.Refusals.{outcome}
use Rattle.limits.specs.declared.refusal.Refusal.{Refusal}
use Rattle.paper.specs.Rules.{first, rules, after}
use Rattle.paper.specs.Statement.{Statement}
use Rattle.steps.specs.declared.state.State.{State}
use Rattle.steps.specs.State.{state_of, Ready}

-- what a step asks of its room
pub record Room (capacity : ℕ) (s : State) (pool scratch : List ℕ) : Type 0 where
  pub ready : Ready capacity s pool scratch
  pub early : s.lines ≤ text_bytes

pub record Stepped (capacity : ℕ) (st : Statement) (s : State) (pool scratch : List ℕ) (r : Result Unit Refusal) (s' : State) (pool' scratch' : List ℕ) : Type 0 where
  pub verdict : first (rules capacity (state_of s pool scratch) st) ≡ outcome r
  pub next : outcome r ≡ ACCEPTED → state_of s' pool' scratch' ≡ after (state_of s pool scratch) st
  pub ready : outcome r ≡ ACCEPTED → Ready capacity s' pool' scratch'
  pub lines : outcome r ≡ ACCEPTED → s'.lines ≡ s.lines + 1
  pub back : (outcome r ≡ ACCEPTED → ⊥) → s' ≡ s
  pub untouched : (outcome r ≡ ACCEPTED → ⊥) → pool' ≡ pool
  pub pool_length : length pool' ≡ length pool
  pub scratch_length : length scratch' ≡ length scratch
