-- `published::step::read_step` meets its contract: an id, a sign and what it stands for in a row. No loop. Assumes nothing.
use Prim.Native.Nat.{ℕ, ◌<◌}
use native.Mathlib.Omega.{arith}
use lib.ListN.{length, get_or}
use Rattle.words.proofs.Parts.{within_refl}
use Rattle.paper.specs.Published.{linear, delete, extend}
use Rattle.reader.proofs.Following.{same_err}
use Rattle.published.proofs.Closing.{whole_stops}
use Rattle.published.proofs.StepRules.{sign_delete, sign_extend, sign_linear, step_unread, step_ends, step_unknown, step_item}
use Rattle.published.specs.Pairs.{pairs_behind}
use Rattle.published.proofs.step.read_step.Goals as goal
use Rattle.published.proofs.step.read_step.Goals.{Else-end-s}

-- the sign behind the id
abbrev sign : Else-end-s → ℕ
sign c = get_or c.args.s.now c.in_ok-i.i.end 0

within : (c : Else-end-s) → c.in_ok-i.i.end < length c.args.s.now
within c = let l = c.in_ok-i.ensures.taken.inside in omega arith

pub returns-in_err-i-clause-read : goal.returns-in_err-i-clause-read
returns-in_err-i-clause-read c =
    rw (same_err c.from_residual.result c.from_residual.ensures.1) (record { said = whole_stops (step_unread c.args.s.now c.in_err-i.ensures); kept = within_refl })

pub returns-then-end-s-clause-read : goal.returns-then-end-s-clause-read
returns-then-end-s-clause-read c = record { said = whole_stops (step_ends c.args.s.now c.in_ok-i.ensures.taken c.if-end-s.true); kept = within_refl }

pub returns-in-61-clause-read : goal.returns-in-61-clause-read
returns-in-61-clause-read c =
    let g = c.in_ok-i.ensures in
    step_item c.args.s.now g.taken (within (goal.at.returns-in-61-clause-read c).Else-end-s) c.skip_spaces-at.ensures extend (sign_extend g.value c.in-61.is) c.read_extend.result
    (c.read_extend.ensures.read g _ _)

pub returns-in-100-clause-read : goal.returns-in-100-clause-read
returns-in-100-clause-read c =
    let g = c.in_ok-i.ensures in
    step_item c.args.s.now g.taken (within (goal.at.returns-in-100-clause-read c).Else-end-s) c.skip_spaces-at.ensures delete (sign_delete g.value c.in-100.is) c.read_delete.result
    (c.read_delete.ensures g _ _ c.args.names.now _)

pub returns-in_default-clause-read : goal.returns-in_default-clause-read
returns-in_default-clause-read c = record {
  said = whole_stops (step_unknown c.args.s.now c.in_ok-i.ensures.taken (within (goal.at.returns-in_default-clause-read c).Else-end-s) (λ e. omega arith) (λ e. omega arith) (λ e. omega arith) (λ e. omega arith) (λ e. omega arith));
  kept = within_refl;
}

pub returns-in_default-2-clause-read : goal.returns-in_default-2-clause-read
returns-in_default-2-clause-read c = record {
  said = whole_stops (step_unknown c.args.s.now c.in_ok-i.ensures.taken (within (goal.at.returns-in_default-2-clause-read c).Else-end-s) (λ e. omega arith) (λ e. omega arith) (λ e. omega arith) (λ e. omega arith) (λ e. omega arith));
  kept = within_refl;
}

pub returns-in-37-clause-read : goal.returns-in-37-clause-read
returns-in-37-clause-read c =
    let g = c.in_ok-i.ensures in
    let e = (goal.at.returns-in-37-clause-read c).Else-end-s in
    step_item c.args.s.now g.taken (within e) c.skip_spaces-at.ensures (linear (pairs_behind (sign e))) (sign_linear (sign e) (λ x y z. grind arith) g.value) c.read_linear.result
    (c.read_linear.ensures.read g)
