-- `speller::spell_within` meets its contract: the verdict where it refuses, else the reduced field where it fits. No loop.
-- Assumes nothing.
use mathlib.Core.Path.{refl, sym}
use native.Mathlib.Omega.{arith}
use lib.ListN.{length}
use Rattle.limits.proofs.Refusals.{refuses}
use Rattle.limits.specs.declared.refusal.Refusal.TheVariants.{Form}
use Rattle.paper.proofs.Ranges.{ring_some, ring_most}
use Rattle.written.specs.Worded.{Holds}
use Rattle.written.proofs.Meaning.{holds_few}
use Rattle.speller.specs.Spells.{Accepts}
use Rattle.speller.proofs.Judging.{judged_stuck, judged_below}
use Rattle.speller.proofs.Giving.{gives_as, gives_refused, gives_on, gives_field}
use Rattle.speller.proofs.spell_within.Goals as goal
use Rattle.speller.proofs.spell_within.Goals.{In_ok-judge}

pub returns-in_default : goal.returns-in_default
returns-in_default c = gives_as (sym (judged_stuck c.args.k (length c.args.out.now) c.in_default.ensures.said)) (gives_refused Form)

pub judge-requires : goal.judge-requires
judge-requires c = judged_below c.in-Ok.ensures.said

pub returns-in_err-judge : goal.returns-in_err-judge
returns-in_err-judge c =
    let why = c.in_err-judge.field-0.0 in
    gives_as (sym ((c.in_err-judge.ensures _ _ c.in-Ok.ensures.said).refused (refuses why) (length c.args.out.now))) (gives_on why c.from_residual.result c.from_residual.ensures.1)

-- the field stands at the front of the scratch
accepted : (c : In_ok-judge) → (a : Accepts c.args.field.now c.args.k) × Holds a.value c.in-Ok.f.terms 0 c.read_field.new.out
accepted c = (c.in_ok-judge.ensures _ _ c.in-Ok.ensures.said).accepted refl

pub overflow_cast-k : goal.overflow_cast-k
overflow_cast-k c = record { fits = omega (arith, ring_most c.args.k (accepted (goal.at.overflow_cast-k c).In_ok-judge).0.ring) }

pub invariant_of-write_reduced : goal.invariant_of-write_reduced
invariant_of-write_reduced c =
    let g = (accepted (goal.at.invariant_of-write_reduced c).In_ok-judge).0 in
    record { in_range = (ring_some c.args.k g.ring, ring_most c.args.k g.ring) }

pub write_reduced-requires : goal.write_reduced-requires
write_reduced-requires c =
    let g = accepted (goal.at.write_reduced-requires c).In_ok-judge in
    (holds_few g.1, omega (arith, holds_few g.1, c.read_field.auto.out, c.requires))

pub returns : goal.returns
returns c = let g = accepted (goal.at.returns c).In_ok-judge in gives_field g.0 g.1 c.write_reduced.ensures
