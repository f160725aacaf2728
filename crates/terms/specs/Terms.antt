-- A run of terms in words: each term is the words of its set, then its coefficient.
use Rattle.std.specs.Prelude.{◌≡◌, List, [], ◌∷◌, ◌++◌, ℕ, zero, suc, ◌+◌, ◌*◌, ◌%◌, ◌^◌, ◌≤◌, take, drop, get_or}
use Rattle.std.specs.Int.Bits.{bit_or}
use Rattle.limits.specs.Limits.{set_words, term_words}
use Rattle.algebra.specs.Polynomial.{Term, Poly}
use Rattle.words.specs.Parts.{Within}
use Rattle.words.specs.Words.{number_of}

-- the term in the first words of l
unfoldable pub term_of : List ℕ → Term
term_of l = record { set = number_of (take set_words l); coef = get_or l set_words 0 }

-- what stands past the end of a run
abbrev pub none : Term
none = record { set = 0; coef = 0 }

-- the first n terms of some words
unfoldable pub decode : ℕ → List ℕ → Poly
decode zero l = []
decode (suc n) l = term_of l ∷ decode n (drop term_words l)

-- each coefficient modulo 2 ^ 64, as a word holds it
unfoldable pub rounded : Poly → Poly
rounded [] = []
rounded (t ∷ p) = record { set = t.set; coef = t.coef % 2 ^ 64 } ∷ rounded p

-- the product of two terms, as a word holds it
unfoldable pub product_of : Term → Term → Term
product_of t u = record { set = bit_or t.set u.set; coef = (t.coef * u.coef) % 2 ^ 64 }

-- ---- what functions leave in the words s
-- the terms p, at most n of them, at the front of r, and all words past n terms as in s
pub record Leaves (n : ℕ) (p : Poly) (s r : List ℕ) (m : ℕ) : Type 0 where
  pub terms : decode m r ≡ p
  pub few : m ≤ n
  pub within : Within 0 (n * term_words) s r

-- m terms, q, behind the n terms from word `out`, and all other words as in s
pub record Appended (out n m : ℕ) (q : Poly) (s r : List ℕ) : Type 0 where
  pub terms : decode (n + m) (drop out r) ≡ decode n (drop out s) ++ q
  pub within : Within (out + n * term_words) (out + (n + m) * term_words) s r
