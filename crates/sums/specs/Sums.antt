-- The pairs of a lin line: which polynomials they name, and the sum of factor times named polynomial.
use Rattle.std.specs.Prelude.{◌≡◌, not, List, [], ◌∷◌, ◌++◌, map, ℕ, ◌+◌, ◌*◌, ◌≤◌, ltb, Result, Ok, length}
use Rattle.std.specs.Int.Bits.{bit_or}
use Rattle.ground.specs.Lists.{every, total}
use Rattle.limits.specs.Limits.{line_products}
use Rattle.limits.specs.Verdicts.{MISSING, PRODUCTS}
use Rattle.limits.specs.Refusals.{outcome}
use Rattle.limits.specs.declared.refusal.Refusal.{Refusal}
use Rattle.algebra.specs.Polynomial.{Poly, products}
use Rattle.words.specs.Words.{number_of}
use Rattle.terms.specs.Terms.{decode, rounded}
use Rattle.paper.specs.Statement.{Written, Pair, reduced}
use Rattle.paper.specs.Rules.{first, Store, stored, find, shows_all, combination}
use Rattle.scratch.specs.Scratch.{Kept}
use Rattle.sums.specs.declared.Sum.{Sum}
use Rattle.sums.specs.Rows.{Rows}

-- ---- the pairs
abbrev pub indices_of : List Pair → List ℕ
indices_of qs = map (λ q. q.index) qs

abbrev pub factors_of : List Pair → List Written
factors_of qs = map (λ q. q.factor) qs

-- the factors' terms times those of the named polynomials, added
unfoldable pub products_of : ℕ → (ℕ → Poly) → List Pair → ℕ
products_of k named qs = total (λ q. length (reduced k q.factor) * length (named q.index)) qs

-- the rows of the paper's table that pairs alone decide
abbrev pub pair_rows : ℕ → Store → List Pair → Rows
pair_rows k store qs =
    (MISSING, not (every (stored store) (indices_of qs)))
    ∷ (PRODUCTS, ltb line_products (products_of k (find store) qs))
    ∷ []

-- all products from word 0 on, rounded as words hold them
pub record SumOf (k : ℕ) (store : Store) (qs : List Pair) (scratch : List ℕ) (m : Sum) : Type 0 where
  pub count : m.terms ≡ products_of k (find store) qs
  pub most : m.terms ≤ line_products
  pub run : decode m.terms scratch ≡ rounded (combination k (find store) qs)
  pub seen : number_of m.seen ≡ shows_all k (factors_of qs)

-- refused, or the sum
pub record Summed (k : ℕ) (store : Store) (qs : List Pair) (scratch : List ℕ) (sum : Result Sum Refusal) : Type 0 where
  pub verdict : outcome sum ≡ first (pair_rows k store qs)
  pub some : (m : Sum) → sum ≡ Ok m → SumOf k store qs scratch m

-- ---- one pair
-- the products of p and q behind the terms from word 0 on, and the variables that p makes seen
pub record Extends (p q : Poly) (shown : ℕ) (old : Sum) (s r : List ℕ) (m : Sum) : Type 0 where
  pub count : m.terms ≡ old.terms + length p * length q
  pub most : m.terms ≤ line_products
  pub run : decode m.terms r ≡ decode old.terms s ++ rounded (products p q)
  pub seen : number_of m.seen ≡ bit_or shown (number_of old.seen)

-- too many products with those of p and q, or these
pub record Extended (p q : Poly) (shown : ℕ) (old : Sum) (s r : List ℕ) (sum : Result Sum Refusal) : Type 0 where
  pub verdict : outcome sum ≡ first ((PRODUCTS, ltb line_products (old.terms + length p * length q)) ∷ [])
  pub some : (m : Sum) → sum ≡ Ok m → Extends p q shown old s r m
  pub kept : Kept s r
