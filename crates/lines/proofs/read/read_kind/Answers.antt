-- `lines::read::read_kind` meets its contract: the first byte settles the kind. No loop. Assumes nothing.
use mathlib.Core.Path.{refl, sym, ap, ◌∙◌}
use native.Mathlib.Omega.{arith}
use Rattle.std.specs.Prelude.{Some}
use Rattle.paper.specs.Grammar.{bytes, kinds, begins_alike, one_of, ring_line, input_line, goal_line, lin_line, del_line, ext_line}
use Rattle.lines.proofs.LineKinds.{kind_line, no_kind, empty_kind, no_line}
use Rattle.lines.proofs.read.read_kind.Goals as goal

pub returns-in_default : goal.returns-in_default
returns-in_default c = no_line _ (empty_kind _ (sym c.in_default.ensures.value))

pub returns-in-114 : goal.returns-in-114
unfolding kinds one_of begins_alike bytes
returns-in-114 c = kind_line _ 114 ring_line (λ w. refl) (sym c.in-Some.ensures.value ∙ ap Some c.in-114.is) (c.read_ring.ensures _ _ _)

pub returns-in-105 : goal.returns-in-105
unfolding kinds one_of begins_alike bytes
returns-in-105 c = kind_line _ 105 input_line (λ w. refl) (sym c.in-Some.ensures.value ∙ ap Some c.in-105.is) (c.read_input.ensures _ _)

pub returns-in-103 : goal.returns-in-103
unfolding kinds one_of begins_alike bytes
returns-in-103 c = kind_line _ 103 goal_line (λ w. refl) (sym c.in-Some.ensures.value ∙ ap Some c.in-103.is) (c.read_goal.ensures _ _)

pub returns-in-108 : goal.returns-in-108
unfolding kinds one_of begins_alike bytes
returns-in-108 c = kind_line _ 108 lin_line (λ w. refl) (sym c.in-Some.ensures.value ∙ ap Some c.in-108.is) c.read_lin.ensures

pub returns-in-100 : goal.returns-in-100
unfolding kinds one_of begins_alike bytes
returns-in-100 c = kind_line _ 100 del_line (λ w. refl) (sym c.in-Some.ensures.value ∙ ap Some c.in-100.is) (c.read_del.ensures _ _ _)

pub returns-in-101 : goal.returns-in-101
unfolding kinds one_of begins_alike bytes
returns-in-101 c = kind_line _ 101 ext_line (λ w. refl) (sym c.in-Some.ensures.value ∙ ap Some c.in-101.is) (c.read_ext.ensures _ _)

pub returns-in_default-first : goal.returns-in_default-first
returns-in_default-first c =
    no_line _ (no_kind _ _ (sym c.in-Some.ensures.value) (λ e. omega arith) (λ e. omega arith) (λ e. omega arith) (λ e. omega arith) (λ e. omega arith) (λ e. omega arith))
