-- Bytes written into an output, and the pieces of a spelling.
use Rattle.std.specs.Prelude.{◌≡◌, true, false, cond, ◌∷◌, ◌++◌, ℕ, ◌+◌, ◌-◌, ◌*◌, ◌^◌, ◌<◌, leb, length, take, drop, get_or}
use Prim.Native.Char.{code}
use Rattle.ground.specs.Lists.{total}
use Rattle.limits.specs.Limits.{variables}
use Rattle.algebra.specs.Polynomial.{members, Term, Poly}
use Rattle.terms.specs.Terms.{none}
use Rattle.paper.specs.Grammar.{Bytes}
use Rattle.paper.specs.Spelling.{spell_number, spell_term}
use Rattle.writer.specs.declared.sign.Signed.{Signed}

-- ---- into an output
-- d with w in the place of what stood from `at` on
unfoldable pub written : Bytes → ℕ → Bytes → Bytes
written d at w = take at d ++ (w ++ drop (at + length w) d)

-- e is d with w written from `at` on, and r is the place after it
pub record Wrote (d : Bytes) (at : ℕ) (w : Bytes) (e : Bytes) (r : ℕ) : Type 0 where
  pub bytes : e ≡ written d at w
  pub next : r ≡ at + length w

-- ---- pieces
abbrev pub dotted : ℕ → Bytes
dotted v = code "." ∷ spell_number v

abbrev pub spaced : ℕ → Term → Bytes
spaced k t = code " " ∷ spell_term k t

-- the sign and the magnitude that c is written with at k
unfoldable pub signed_of : ℕ → ℕ → Signed
signed_of k c = cond (leb c (2 ^ (k - 1))) (record { minus = false; magnitude = c }) (record { minus = true; magnitude = 2 ^ k - c })

abbrev pub spell_signed : Signed → Bytes
spell_signed s = cond s.minus (code "-" ∷ spell_number s.magnitude) (spell_number s.magnitude)

-- every coefficient below 2 ^ k
pub record Cut (k : ℕ) (p : Poly) : Type 0 where
  pub at : (i : ℕ) → i < length p → (get_or p i none).coef < 2 ^ k

-- more bytes than the spelling at any k takes: a sign, 20 digits and a space for each term, 4 bytes for each of its variables
abbrev pub term_room : Term → ℕ
term_room t = 22 + 4 * length (members variables 0 t.set)

unfoldable pub room : Poly → ℕ
room p = 1 + total term_room p
