-- What the columns and the pool stand for: the paper's store.
use Rattle.std.specs.Prelude.{◌≡◌, List, [], ◌∷◌, ◌++◌, ℕ, zero, suc, ◌+◌, ◌*◌, ◌≤◌, ◌<◌, length, drop, get_or}
use Rattle.limits.specs.Limits.{stored_polynomials, field_terms, term_words, most_pool_terms}
use Rattle.algebra.specs.Polynomial.{Poly}
use Rattle.terms.specs.Terms.{decode}
use Rattle.paper.specs.Rules.{Entry, Store}
use Rattle.table.specs.declared.Table.{Table}

-- f 0 up to f (n - 1)
unfoldable pub firsts : {A : Type 0} → (ℕ → A) → ℕ → List A
firsts f zero = []
firsts f (suc n) = firsts f n ++ (f n ∷ [])

-- the j-th polynomial: as many terms as the j-th count, at the word of the pool where the term of the j-th start lies
abbrev pub poly_at : List ℕ → List ℕ → List ℕ → ℕ → Poly
poly_at starts counts pool j = decode (get_or counts j 0) (drop (get_or starts j 0 * term_words) pool)

abbrev pub entry_at : List ℕ → List ℕ → List ℕ → List ℕ → ℕ → Entry
entry_at indices starts counts pool j = record { index = get_or indices j 0; poly = poly_at starts counts pool j }

-- the first n
abbrev pub store_of_columns : List ℕ → List ℕ → List ℕ → List ℕ → ℕ → Store
store_of_columns indices starts counts pool n = firsts (entry_at indices starts counts pool) n

abbrev pub store_of : Table → List ℕ → Store
store_of s pool = store_of_columns s.indices s.starts s.counts pool s.stored

-- the first n counts, added
unfoldable pub terms_before : List ℕ → ℕ → ℕ
terms_before counts zero = 0
terms_before counts (suc n) = terms_before counts n + get_or counts n 0

-- each polynomial starts where the one before it ends, the last ends at used, and none is longer than a field
pub record PackedColumns (starts counts : List ℕ) (stored used : ℕ) : Type 0 where
  pub few : stored ≤ stored_polynomials
  pub begins : (j : ℕ) → j < stored → get_or starts j 0 ≡ terms_before counts j
  pub ends : used ≡ terms_before counts stored
  pub short : (j : ℕ) → j < stored → get_or counts j 0 ≤ field_terms

abbrev pub Packed : Table → Type 0
Packed s = PackedColumns s.starts s.counts s.stored s.used

-- the table is packed, and its terms fit a pool that holds capacity terms
pub record Fitting (s : Table) (pool : List ℕ) (capacity : ℕ) : Type 0 where
  pub packed : Packed s
  pub room : s.used ≤ capacity
  pub words : capacity * term_words ≤ length pool
  pub most : capacity ≤ most_pool_terms

-- the columns are packed, and the pool holds their terms
abbrev pub PoolHolds : List ℕ → List ℕ → ℕ → List ℕ → Type 0
PoolHolds starts counts n pool =
    let used : ℕ = terms_before counts n in
    PackedColumns starts counts n used × (used * term_words ≤ length pool) × (used ≤ most_pool_terms)
