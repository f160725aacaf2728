-- The contract of `spell` decides its result. Assumes nothing.
use mathlib.Core.Path.{◌≡◌, sym, ap, ◌∙◌}
use Rattle.std.specs.Prelude.{Ok, Err}
use Rattle.limits.specs.Refusals.{outcome}
use Rattle.limits.proofs.Refusals.{refuses, one_refusal}
use Rattle.speller.specs.Spells.{Answer, written_of, SpellDecided}

one_answer : (r q : Answer) → outcome r ≡ outcome q → written_of r ≡ written_of q → r ≡ q
one_answer (Ok n) (Ok m) v w = ap Ok w
one_answer (Ok n) (Err b) v w = absurd (refuses b (sym v))
one_answer (Err a) (Ok m) v w = absurd (refuses a v)
one_answer (Err a) (Err b) v w = ap Err (one_refusal a b v)

pub decided : SpellDecided
decided field k scratch out r q scratch' scratch'' out' out'' x y = (
  one_answer r q (x.gives.verdict ∙ sym y.gives.verdict) (x.gives.written ∙ sym y.gives.written),
  x.cleared ∙ sym y.cleared,
  x.gives.output ∙ sym y.gives.output,
)
