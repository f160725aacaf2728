-- Verdicts on what is written: NUMBER where a number is out of its range, else TERMS where a field has too many terms.
use Rattle.std.specs.Prelude.{Bool, not, cond, [], ◌∷◌, ℕ, eqb}
use Rattle.limits.specs.Verdicts.{ACCEPTED, NUMBER, TERMS}
use Rattle.paper.specs.Rules.{first}

abbrev pub verdict_of : Bool → Bool → ℕ
verdict_of ranged few = first ((NUMBER, not ranged) ∷ (TERMS, not few) ∷ [])

-- on two parts by those on each
unfoldable pub lesser_of : ℕ → ℕ → ℕ
lesser_of a b = cond (eqb a ACCEPTED) b (cond (eqb b NUMBER) b a)
