-- Where the numbers of a field stand, told from what is written. A number is a mark; decimals have no leading zero, so a number is as wide as its spelling.
use Rattle.std.specs.Prelude.{Bool, true, cond, List, [], ◌∷◌, ◌++◌, ℕ, ◌+◌, length, take, Option, None, Some}
use Rattle.ground.specs.Lists.{every, total, gather}
use Rattle.limits.specs.Limits.{field_terms}
use Rattle.paper.specs.Statement.{WrittenTerm, Written, within, is_variable, too_many_terms}
use Rattle.paper.specs.Spelling.{spell_number}

pub record Mark : Type 0 where
  -- the bytes between the number before it and its first digit
  pub before : ℕ
  pub width : ℕ
  -- whether it is in its range
  pub fine : Bool

unfoldable pub all_fine : List Mark → Bool
all_fine ms = every (λ m. m.fine) ms

-- the bytes up to the end of the last number
unfoldable pub span : List Mark → ℕ
span ms = total (λ m. m.before + m.width) ms

-- behind `at` bytes: the byte, counted from 1, of the first digit of the first number out of its range; 0 where there is none
unfoldable pub first_outside : ℕ → List Mark → ℕ
first_outside at [] = 0
first_outside at (m ∷ ms) = let rest : ℕ = first_outside (at + (m.before + m.width)) ms in cond m.fine rest (at + m.before + 1)

-- the same byte, if there is one
unfoldable pub first_out : ℕ → List Mark → Option ℕ
first_out at [] = None
first_out at (m ∷ ms) = let rest : Option ℕ = first_out (at + (m.before + m.width)) ms in cond m.fine rest (Some (at + m.before + 1))

-- ---- the numbers of what is written, the first of them behind some bytes
unfoldable pub mark : (ℕ → Bool) → ℕ → ℕ → Mark
mark fine before n = record { before = before; width = length (spell_number n); fine = fine n }

-- each behind a dot
unfoldable pub variable_marks : List ℕ → List Mark
variable_marks vs = gather (λ v. mark is_variable 1 v ∷ []) vs

module _ (greatest : ℕ) where
  unfoldable pub term_marks : ℕ → WrittenTerm → List Mark
  term_marks before t = mark (within 1 greatest) (before + cond t.negative 1 0) t.magnitude ∷ variable_marks t.variables

  -- each behind a space
  unfoldable pub more_marks : List WrittenTerm → List Mark
  more_marks ts = gather (term_marks 1) ts

  -- the field `0` is one number
  unfoldable pub field_marks : Written → List Mark
  field_marks [] = mark (λ n. true) 0 0 ∷ []
  field_marks (t ∷ ts) = term_marks 0 t ++ more_marks ts

  -- in a field behind `at` bytes: the byte, counted from 1, where the first term too many begins; 0 where there is none
  unfoldable pub first_too_many : ℕ → Written → ℕ
  first_too_many at p = cond (too_many_terms p) (at + span (field_marks (take field_terms p)) + 2) 0
