-- `lines::index::index_of` meets its contract: the first byte settles the kind. No loop. Assumes nothing.
use mathlib.Core.Path.{sym, ap, ◌∙◌}
use native.Mathlib.Omega.{arith}
use Rattle.std.specs.Prelude.{Some}
use Rattle.paper.specs.Grammar.{bytes}
use Rattle.lines.proofs.Indexing.{index_input, index_lin, index_del, index_ext, no_index, none_read}
use Rattle.lines.proofs.index.index_of.Goals as goal

pub returns-in_default : goal.returns-in_default
returns-in_default c = λ st t q r. none_read _ (sym c.in_default.ensures.value) st t q

pub returns-in-105 : goal.returns-in-105
unfolding bytes
returns-in-105 c = λ st t q r. index_input _ c.head_index.result st t q r (sym c.in-Some.ensures.value ∙ ap Some c.in-105.is) c.head_index.ensures

pub returns-in-108 : goal.returns-in-108
unfolding bytes
returns-in-108 c = λ st t q r. index_lin _ c.head_index-in-108.result st t q r (sym c.in-Some.ensures.value ∙ ap Some c.in-108.is) c.head_index-in-108.ensures

pub returns-in-100 : goal.returns-in-100
unfolding bytes
returns-in-100 c = λ st t q r. index_del _ c.head_index-in-100.result st t q r (sym c.in-Some.ensures.value ∙ ap Some c.in-100.is) c.head_index-in-100.ensures

pub returns-in-101 : goal.returns-in-101
unfolding bytes
returns-in-101 c = λ st t q r. index_ext _ c.head_index-in-101.result st t q r (sym c.in-Some.ensures.value ∙ ap Some c.in-101.is) c.head_index-in-101.ensures

pub returns-in_default-first : goal.returns-in_default-first
returns-in_default-first c =
    λ st t q r. no_index _ _ (sym c.in-Some.ensures.value) (λ e. omega arith) (λ e. omega arith) (λ e. omega arith) (λ e. omega arith) st t q
