-- The fixed spelling of a polynomial, and the spelling writer.
use mathlib.Core.{Bool.Bool, Bool.◌&&◌, Bool.not, Bool.cond, List.List, List.[], List.◌∷◌, List.◌++◌}
use Prim.Native.{Nat.ℕ, Nat.zero, Nat.suc, Nat.◌+◌, Nat.◌-◌, Nat.◌/◌, Nat.◌%◌, Nat.◌^◌, Char.code}
use lib.{Dec.eqb, Dec.leb, Dec.ltb, ListN.length, ListN.drop, ListN.replicate}
use Rattle.limits.specs.Limits.{variables, line_bytes, least_spelling_scratch}
use Rattle.limits.specs.Verdicts.{ACCEPTED, SHORT, LONGLINE, FORM, NUMBER, TERMS, FULL}
use Rattle.ground.specs.Lists.{gather}
use Rattle.algebra.specs.Polynomial.{members, Term, Poly}
use Rattle.paper.specs.Statement.{Written, modulo, is_ring, in_range, too_many_terms, reduced}
use Rattle.paper.specs.Grammar.{Bytes, bytes, Read, got, stuck, Reader, ◌>>=◌, ◌>>◌, give, end, polynomial}
use Rattle.paper.specs.Rules.{first}

-- ---- the spelling; first, the decimal of n, which has at most d digits
unfoldable pub spell_digits : ℕ → ℕ → Bytes
spell_digits zero n = []
spell_digits (suc d) n =
    let leading : Bytes = spell_digits d (n / 10) in
    cond (ltb n 10) ((code "0" + n) ∷ []) (leading ++ ((code "0" + n % 10) ∷ []))

unfoldable pub spell_number : ℕ → Bytes
spell_number n = spell_digits (suc n) n

module _ (k : ℕ) where
  -- c where it is at most half of 2 ^ k, else minus what is left to 2 ^ k
  unfoldable pub spell_coefficient : ℕ → Bytes
  spell_coefficient c = cond (leb c (2 ^ (k - 1))) (spell_number c) (code "-" ∷ spell_number (2 ^ k - c))

  unfoldable pub spell_term : Term → Bytes
  spell_term t = spell_coefficient t.coef ++ gather (λ v. code "." ∷ spell_number v) (members variables 0 t.set)

  unfoldable pub spell : Poly → Bytes
  spell [] = bytes "0"
  spell (t ∷ p) = spell_term t ++ gather (λ u. code " " ∷ spell_term u) p

-- ---- the spelling writer: no bytes where refused
pub record Spelled : Type 0 where
  pub verdict : ℕ
  pub spelling : Bytes

abbrev pub refuse : ℕ → Spelled
refuse v = record { verdict = v; spelling = [] }

unfoldable pub spelling_rules : ℕ → ℕ → Written → List (ℕ × Bool)
spelling_rules k room p =
    (NUMBER, not (is_ring (modulo k) && in_range p))
    ∷ (TERMS, too_many_terms p)
    ∷ (FULL, ltb room (length (spell k (reduced k p))))
    ∷ []

unfoldable pub spell_read : ℕ → ℕ → Read Written → Spelled
spell_read k room (got p s) =
    let v : ℕ = first (spelling_rules k room p) in
    cond (eqb v ACCEPTED) (record { verdict = ACCEPTED; spelling = spell k (reduced k p) }) (refuse v)
spell_read k room (stuck s) = refuse FORM

unfoldable pub whole_field : Reader Written
whole_field = do p ← polynomial; end; give p

-- field, k, words of scratch, bytes of output
unfoldable pub spell_field : Bytes → ℕ → ℕ → ℕ → Spelled
spell_field field k scratch room =
    let read : Spelled = spell_read k room (whole_field field) in
    cond (ltb scratch least_spelling_scratch) (refuse SHORT) (cond (ltb line_bytes (length field)) (refuse LONGLINE) read)

-- the output afterwards: bytes past the spelling stay
unfoldable pub output_after : Spelled → Bytes → Bytes
output_after r output = r.spelling ++ drop (length r.spelling) output

-- the scratch afterwards: untouched after SHORT, else zero throughout
unfoldable pub scratch_after : ℕ → List ℕ → List ℕ
scratch_after verdict scratch = cond (eqb verdict SHORT) scratch (replicate (length scratch) 0)
