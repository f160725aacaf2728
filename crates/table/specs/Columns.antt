-- What the functions of the table find and leave.
use Rattle.std.specs.Prelude.{◌≡◌, List, [], ◌∷◌, ◌++◌, ℕ, ◌+◌, ◌-◌, ◌*◌, ◌^◌, ◌≤◌, ◌<◌, Option, Some, None, length, drop, get_or, set, replicate}
use Rattle.std.specs.List.{copy_within, CopiedTo, SameBelow, SameFrom}
use Rattle.limits.specs.Limits.{stored_polynomials, field_terms, term_words}
use Rattle.terms.specs.Terms.{decode}
use Rattle.paper.specs.Rules.{remove}
use Rattle.table.specs.declared.Table.{Table}
use Rattle.table.specs.Table.{store_of, Packed}

-- x is none of the first n of a column
pub record Absent (column : List ℕ) (n x : ℕ) : Type 0 where
  pub nowhere : (k : ℕ) → k < n → get_or column k 0 ≡ x → ⊥

-- j is the first place of x among the first n
pub record FirstAt (column : List ℕ) (n x j : ℕ) : Type 0 where
  pub inside : j < n
  pub here : get_or column j 0 ≡ x
  pub earlier : Absent column j x

abbrev pub Finds : List ℕ → ℕ → ℕ → Option ℕ → Type 0
Finds column n x (Some j) = FirstAt column n x j
Finds column n x None = Absent column n x

-- no number behind j is below fall
pub record Closable (column : List ℕ) (j n fall : ℕ) : Type 0 where
  pub inside : j < n
  pub few : n ≤ stored_polynomials
  pub least : (k : ℕ) → j < k → k < n → fall ≤ get_or column k 0

-- of the first n those behind j stand one place lower, each less by fall; the last place and those past it are as they were
pub record Closed (column : List ℕ) (j n fall : ℕ) (r : List ℕ) : Type 0 where
  pub before : (k : ℕ) → k < j → get_or r k 0 ≡ get_or column k 0
  pub behind : (k : ℕ) → j ≤ k → k + 1 < n → get_or r k 0 ≡ get_or column (k + 1) 0 - fall
  pub rest : (k : ℕ) → n ≤ k + 1 → get_or r k 0 ≡ get_or column k 0

-- those behind at + len, up to used, stand at `at`, and all others are as they were
abbrev pub Shifted : {A : Type 0} → List A → ℕ → ℕ → ℕ → List A → Type 0
Shifted column at len used r =
    let size : ℕ = used - (at + len) in CopiedTo column r (at + len) at size × SameBelow column r at × SameFrom column r (at + size)

-- those from j up to n are each less by fall
pub record Lowered (column : List ℕ) (j n fall : ℕ) (r : List ℕ) : Type 0 where
  pub before : (k : ℕ) → k < j → get_or r k 0 ≡ get_or column k 0
  pub inside : (k : ℕ) → j ≤ k → k < n → get_or r k 0 ≡ get_or column k 0 - fall
  pub rest : (k : ℕ) → n ≤ k → get_or r k 0 ≡ get_or column k 0
  pub same : length r ≡ length column

-- the words of the pool once count terms from term start on are gone
abbrev pub closed_pool : List ℕ → ℕ → ℕ → ℕ → List ℕ
closed_pool pool start count used = copy_within pool (start * term_words + count * term_words) (used * term_words) (start * term_words)

-- ---- an empty table
pub record Fresh (r : Table) : Type 0 where
  pub store : (pool : List ℕ) → store_of r pool ≡ []
  pub packed : Packed r
  pub used : r.used ≡ 0
  pub indices : r.indices ≡ replicate stored_polynomials 0
  pub starts : r.starts ≡ replicate stored_polynomials 0
  pub counts : r.counts ≡ replicate stored_polynomials 0

-- ---- one polynomial more
pub record Pushable (s : Table) (count : ℕ) : Type 0 where
  pub few : s.stored < stored_polynomials
  pub start : s.used < 2 ^ 16
  pub short : count ≤ field_terms

-- it stands at the end of the columns, and starts where the used terms end
pub record Added (s : Table) (index count : ℕ) (r : Table) : Type 0 where
  pub indices : r.indices ≡ set s.indices s.stored index
  pub starts : r.starts ≡ set s.starts s.stored s.used
  pub counts : r.counts ≡ set s.counts s.stored count
  pub stored : r.stored ≡ s.stored + 1
  pub used : r.used ≡ s.used + count

-- the terms behind the used ones are the last entry
pub record Pushed (s : Table) (index terms : ℕ) (r : Table) : Type 0 where
  pub store : (pool : List ℕ) → store_of r pool ≡ store_of s pool ++ (record { index = index; poly = decode terms (drop (s.used * term_words) pool) } ∷ [])
  pub packed : Packed r
  pub stored : r.stored ≡ s.stored + 1
  pub used : r.used ≡ s.used + terms

-- ---- one polynomial less
-- its terms are among the used ones, which the pool holds
pub record Removable (s : Table) (pool : List ℕ) (j : ℕ) : Type 0 where
  pub starts : Closable s.starts j s.stored (get_or s.counts j 0)
  pub inside : get_or s.starts j 0 + get_or s.counts j 0 ≤ s.used
  pub words : s.used * term_words ≤ length pool

-- the columns and the pool are closed over it
pub record Removed (s : Table) (pool : List ℕ) (j : ℕ) (r : Table) (left : List ℕ) : Type 0 where
  pub indices : Closed s.indices j s.stored 0 r.indices
  pub starts : Closed s.starts j s.stored (get_or s.counts j 0) r.starts
  pub counts : Closed s.counts j s.stored 0 r.counts
  pub stored : r.stored ≡ s.stored - 1
  pub used : r.used ≡ s.used - get_or s.counts j 0
  pub words : left ≡ closed_pool pool (get_or s.starts j 0) (get_or s.counts j 0) s.used

-- the j-th entry, which is the first under its index, is gone from the table and the pool
pub record Forgotten (s : Table) (pool : List ℕ) (j : ℕ) (r : Table) (left : List ℕ) : Type 0 where
  pub store : (x : ℕ) → FirstAt s.indices s.stored x j → store_of r left ≡ remove (store_of s pool) x
  pub packed : Packed r
  pub stored : r.stored + 1 ≡ s.stored
  pub used : r.used + get_or s.counts j 0 ≡ s.used
  pub same : length left ≡ length pool
