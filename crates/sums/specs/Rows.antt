-- Rows of the paper's table, and a verdict before a later one.
use Rattle.std.specs.Prelude.{Bool, cond, List, ℕ, eqb}
use Rattle.limits.specs.Verdicts.{ACCEPTED}

-- a verdict and its test each
abbrev pub Rows : Type 0
Rows = List (ℕ × Bool)

-- the verdict v, or w where v accepts
abbrev pub or_else : ℕ → ℕ → ℕ
or_else v w = cond (eqb v ACCEPTED) w v
