-- A written polynomial as words hold it: coefficients modulo 2 ^ 64, nothing reduced.
use Rattle.std.specs.Prelude.{◌≡◌, Bool, true, false, cond, List, map, ℕ, ◌-◌, ◌%◌, ◌^◌, length, drop}
use Rattle.algebra.specs.Polynomial.{Term, Poly}
use Rattle.terms.specs.Terms.{decode}
use Rattle.paper.specs.Statement.{WrittenTerm, Written, in_range, too_many_terms, set_of}

-- c, or what is added to it to give 0 modulo 2 ^ 64
unfoldable pub signed_word : Bool → ℕ → ℕ
signed_word negative c = cond negative ((2 ^ 64 - c) % 2 ^ 64) c

unfoldable pub worded_term : WrittenTerm → Term
worded_term t = record { set = set_of t.variables; coef = signed_word t.negative t.magnitude }

unfoldable pub worded : Written → Poly
worded p = map worded_term p

-- the n terms from word `at` on are the polynomial p as it was written, in range and of few enough terms
pub record Holds (p : Written) (n at : ℕ) (words : List ℕ) : Type 0 where
  pub run : decode n (drop at words) ≡ worded p
  pub terms : n ≡ length p
  pub ranged : in_range p ≡ true
  pub short : too_many_terms p ≡ false
