-- A line in its phase or not, with an index that is free or taken. Assumes nothing.
use mathlib.Core.Path.{◌≡◌, sym, ap, ◌∙◌}
use mathlib.Core.Bool.{Bool, true, false, not}
use mathlib.Core.List.{List, [], ◌∷◌}
use Prim.Native.Nat.{ℕ, ◌≤◌, ◌<◌}
use native.Mathlib.Omega.{arith}
use lib.Dec.{eqb}
use borrow.Author.Tests.{eqb-true, not-false}
use Rattle.limits.specs.Limits.{greatest_ring}
use Rattle.limits.specs.Verdicts.{ORDER, TAKEN}
use Rattle.paper.specs.Rules.{first, stored}
use Rattle.table.specs.Table.{store_of_columns, store_of}
use Rattle.table.specs.Columns.{Absent, FirstAt}
use Rattle.table.proofs.Laws.{absent_stored, found_stored}
use Rattle.sums.proofs.Rows.{first_open}
use Rattle.steps.specs.declared.state.State.{State}
use Rattle.steps.specs.Stepped.{Room}
use Rattle.steps.specs.Parts.{admit_rows}
use Rattle.steps.proofs.Stepping.{order_refuses, order_passes}

pub admit_misplaced : (place phase : ℕ) (taken : Bool) → (phase ≡ place → ⊥) → ORDER ≡ first (admit_rows place phase taken)
admit_misplaced place phase taken n = sym (order_refuses place phase ((TAKEN, taken) ∷ []) n)

module _ (indices starts counts pool : List ℕ) (n x place phase : ℕ) (z : phase ≡ place) where
  -- in its phase, by whether the index is stored
  admit_by : (b : Bool) → stored (store_of_columns indices starts counts pool n) x ≡ b → first ((TAKEN, b) ∷ []) ≡ first (admit_rows place phase (stored (store_of_columns indices starts counts pool n) x))
  admit_by b e = sym (order_passes place phase ((TAKEN, stored (store_of_columns indices starts counts pool n) x) ∷ []) z ∙ ap (λ (t : Bool). first ((TAKEN, t) ∷ [])) e)

  pub admit_taken : {j : ℕ} → FirstAt indices n x j → TAKEN ≡ first (admit_rows place phase (stored (store_of_columns indices starts counts pool n) x))
  unfolding first
  admit_taken {j} f = admit_by true (found_stored indices starts counts pool n x j f)

  pub admit_free : Absent indices n x → 0 ≡ first (admit_rows place phase (stored (store_of_columns indices starts counts pool n) x))
  unfolding first
  admit_free f = admit_by false (absent_stored indices starts counts pool n x f)

-- ---- what `admit` says of the index x, whatever the pool holds
abbrev pub AdmitIs : ℕ → State → ℕ → ℕ → Type 0
AdmitIs place s x v = (pool : List ℕ) → v ≡ first (admit_rows place s.phase (stored (store_of s.table pool) x))

-- where it accepts
module _ (place : ℕ) (s : State) (x : ℕ) {v : ℕ} (a : AdmitIs place s x v) (z : v ≡ 0) where
  passed : (pool : List ℕ) → (not (eqb place s.phase) ≡ false) × (first ((TAKEN, stored (store_of s.table pool) x) ∷ []) ≡ 0)
  passed pool =
      first_open ORDER (not (eqb place s.phase)) ((TAKEN, stored (store_of s.table pool) x) ∷ []) (omega arith) (sym (a pool) ∙ z)

  pub admitted_phase : s.phase ≡ place
  admitted_phase = sym (eqb-true place s.phase (not-false (eqb place s.phase) (passed []).0))

  pub admitted_free : (pool : List ℕ) → stored (store_of s.table pool) x ≡ false
  admitted_free pool = (first_open TAKEN (stored (store_of s.table pool) x) [] (omega arith) (passed pool).1).0

  -- behind the first phase, where the ring is known
  pub admitted_ring : {capacity : ℕ} {pool scratch : List ℕ} → Room capacity s pool scratch → 0 < place → (1 ≤ s.ring) × (s.ring ≤ greatest_ring)
  admitted_ring room l = room.ready.ringed (omega (arith, admitted_phase))
