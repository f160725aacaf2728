-- What the checker goes by: the store's size, what leaves it as it was, what a search for an index says of it, and that a new table fits.
-- Assumes nothing.
use mathlib.Core.Path.{◌≡◌, refl, sym, ap, subst, ◌∙◌}
use mathlib.Core.Bool.{true, false}
use mathlib.Core.List.{List, [], ◌∷◌}
use Rattle.std.specs.Prelude.{Option, Some, None}
use Prim.Native.Nat.{ℕ, zero, suc, ◌+◌, ◌*◌, ◌≤◌, ◌<◌}
use native.Mathlib.Omega.{arith}
use lib.ListN.{length, drop, get_or}
use Rattle.ground.specs.Lists.{total}
use Rattle.words.specs.Parts.{Within}
use Rattle.words.proofs.Parts.{below_kept}
use Rattle.limits.specs.Limits.{term_words, most_pool_terms}
use Rattle.algebra.specs.Polynomial.{Poly}
use Rattle.terms.proofs.Decode.{decode_length, decode_same}
use Rattle.paper.specs.Rules.{Entry, stored, find, stored_terms}
use Rattle.paper.proofs.Store.{terms_append}
use Rattle.table.specs.declared.Table.{Table}
use Rattle.table.specs.Table.{firsts, poly_at, entry_at, store_of_columns, store_of, terms_before, PackedColumns, Packed, PoolHolds, Fitting}
use Rattle.table.specs.Columns.{Absent, FirstAt, Finds, Fresh}
use Rattle.table.proofs.Firsts.{firsts_length, firsts_same, firsts_split, behind, stored_none, stored_split, find_split}
use Rattle.table.proofs.Packing.{ends_used}

pub store_length : (s : Table) (pool : List ℕ) → length (store_of s pool) ≡ s.stored
store_length s pool = firsts_length (entry_at s.indices s.starts s.counts pool) s.stored

terms : (is ss cs pool : List ℕ) (n : ℕ) → stored_terms (store_of_columns is ss cs pool n) ≡ terms_before cs n
unfolding firsts terms_before stored_terms total
terms is ss cs pool zero = refl
terms is ss cs pool (suc n) =
    terms_append (store_of_columns is ss cs pool n) (entry_at is ss cs pool n ∷ [])
    ∙ omega (arith, terms is ss cs pool n, decode_length (get_or cs n 0) (drop (get_or ss n 0 * term_words) pool))

pub store_terms : (s : Table) (pool : List ℕ) → Packed s → stored_terms (store_of s pool) ≡ s.used
store_terms s pool p = terms s.indices s.starts s.counts pool s.stored ∙ sym p.ends

-- ---- words behind the used ones do not matter
pub poly_kept : (ss cs pool r : List ℕ) (a e j : ℕ) → Within a e pool r → get_or ss j 0 * term_words + get_or cs j 0 * term_words ≤ a
    → poly_at ss cs r j ≡ poly_at ss cs pool j
poly_kept ss cs pool r a e j w h =
    decode_same (get_or cs j 0) (drop (get_or ss j 0 * term_words) pool) (drop (get_or ss j 0 * term_words) r)
    (below_kept a e pool r w (get_or ss j 0 * term_words) (get_or cs j 0 * term_words) h)

pub store_kept : (s : Table) (pool r : List ℕ) (a e : ℕ) → Packed s → Within a e pool r → s.used * term_words ≤ a
    → store_of s r ≡ store_of s pool
store_kept s pool r a e p w h =
    firsts_same (entry_at s.indices s.starts s.counts r) (entry_at s.indices s.starts s.counts pool) s.stored same
  where
    same : (j : ℕ) → j < s.stored → entry_at s.indices s.starts s.counts r j ≡ entry_at s.indices s.starts s.counts pool j
    same j l =
        let q : poly_at s.starts s.counts r j ≡ poly_at s.starts s.counts pool j
        = poly_kept s.starts s.counts pool r a e j w (omega (arith, ends_used s.starts s.counts s.stored s.used j p l)) in
        ap (λ (x : Poly). record { index = get_or s.indices j 0; poly = x }) q

-- ---- what a search says
pub found_at : {column : List ℕ} {n x j : ℕ} {r : Option ℕ} → r ≡ Some j → Finds column n x r → FirstAt column n x j
found_at {column} {n} {x} e f = subst (Finds column n x) e f

pub found_nothing : {column : List ℕ} {n x : ℕ} {r : Option ℕ} → r ≡ None → Finds column n x r → Absent column n x
found_nothing {column} {n} {x} e f = subst (Finds column n x) e f

module _ (is ss cs pool : List ℕ) (n x : ℕ) where
  abbrev at : ℕ → Entry
  at = entry_at is ss cs pool

  pub absent_stored : Absent is n x → stored (store_of_columns is ss cs pool n) x ≡ false
  absent_stored a = stored_none at n x a.nowhere

  module _ (j : ℕ) (f : FirstAt is n x j) where
    pub found_stored : stored (store_of_columns is ss cs pool n) x ≡ true
    found_stored = rw (firsts_split at j n f.inside) (stored_split (firsts at j) (behind at j n) (at j) x f.here)

    pub found_find : find (store_of_columns is ss cs pool n) x ≡ poly_at ss cs pool j
    found_find = rw (firsts_split at j n f.inside) (find_split (firsts at j) (behind at j n) (at j) x f.here (stored_none at j x f.earlier.nowhere))

-- ---- a new table
pub fresh_fitting : (r : Table) (pool : List ℕ) (capacity : ℕ) → Fresh r
    → capacity * term_words ≤ length pool → capacity ≤ most_pool_terms → Fitting r pool capacity
fresh_fitting r pool capacity f w m = record { packed = f.packed; room = omega (arith, f.used); words = w; most = m }

-- ---- a table that fits its pool
pub packed_holds : (starts counts pool : List ℕ) (n used : ℕ) → PackedColumns starts counts n used → used * term_words ≤ length pool → used ≤ most_pool_terms
    → PoolHolds starts counts n pool
packed_holds starts counts pool n used p h m =
    subst (λ (u : ℕ). PackedColumns starts counts n u × (u * term_words ≤ length pool) × (u ≤ most_pool_terms)) p.ends (p, h, m)

pub fitting_holds : (s : Table) (pool : List ℕ) (capacity : ℕ) → Fitting s pool capacity → PoolHolds s.starts s.counts s.stored pool
fitting_holds s pool capacity f =
    packed_holds s.starts s.counts pool s.stored s.used f.packed (omega (arith, f.room, f.words)) (omega (arith, f.room, f.most))

-- the words of the j-th polynomial are in the pool
pub holds_words : (starts counts pool : List ℕ) (n j : ℕ) → PoolHolds starts counts n pool → j < n
    → get_or starts j 0 * term_words + get_or counts j 0 * term_words ≤ length pool
holds_words starts counts pool n j p h = omega (arith, ends_used starts counts n _ j p.0 h, p.1)
