-- A polynomial added at the end of the columns: the table is packed again, and the store has one entry more. Assumes nothing.
use mathlib.Core.Path.{◌≡◌, ap₂, sym, transport, ◌∙◌}
use mathlib.Core.Logic.{⊎_elim}
use mathlib.Core.List.{List, [], ◌∷◌, ◌++◌}
use Prim.Native.Nat.{ℕ, ◌+◌, ◌*◌, ◌≤◌, ◌<◌}
use native.Mathlib.Nat.{eq-or-lt_of_le}
use native.Mathlib.Omega.{arith}
use lib.ListN.{length, drop, get_or, set}
use lib.Seq.{get_or-set_same, get_or-set_other}
use Rattle.limits.specs.Limits.{stored_polynomials, field_terms, term_words}
use Rattle.terms.specs.Terms.{decode}
use Rattle.paper.specs.Rules.{Entry, Store}
use Rattle.table.specs.declared.Table.{Table}
use Rattle.table.specs.Table.{entry_at, store_of_columns, terms_before, PackedColumns, Packed}
use Rattle.table.specs.Columns.{Added, Pushed}
use Rattle.table.proofs.Firsts.{firsts_same, firsts_more}
use Rattle.table.proofs.Packing.{before_more, before_same}

module _ (is ss cs : List ℕ) (n used index terms : ℕ) (li : n < length is) (ls : n < length ss) (lc : n < length cs) where
  kept : (l : List ℕ) (x k : ℕ) → k < n → get_or (set l n x) k 0 ≡ get_or l k 0
  kept l x k h = get_or-set_other l n k x 0 (λ e. omega arith)

  pushed_packed : n < stored_polynomials → terms ≤ field_terms → PackedColumns ss cs n used → PackedColumns (set ss n used) (set cs n terms) (n + 1) (used + terms)
  pushed_packed few low p = record {
    few = omega arith;
    begins = begins;
    ends = omega (arith, p.ends, before_more (set cs n terms) n, sums n (omega arith), get_or-set_same cs n terms 0 lc);
    short = short;
  }
    where
      sums : (k : ℕ) → k ≤ n → terms_before (set cs n terms) k ≡ terms_before cs k
      sums k h = before_same cs (set cs n terms) k (λ i l. kept cs terms i (omega arith))

      begins : (j : ℕ) → j < n + 1 → get_or (set ss n used) j 0 ≡ terms_before (set cs n terms) j
      begins j l =
          ⊎_elim (λ (e : j ≡ n). rw e (get_or-set_same ss n used 0 ls ∙ p.ends ∙ sym (sums n (omega arith))))
          (λ (h : j < n). kept ss used j h ∙ p.begins j h ∙ sym (sums j (omega arith)))
          (eq-or-lt_of_le (let m : j ≤ n = omega arith in m))

      short : (j : ℕ) → j < n + 1 → get_or (set cs n terms) j 0 ≤ field_terms
      short j l =
          ⊎_elim (λ (e : j ≡ n). rw e (omega (arith, low, get_or-set_same cs n terms 0 lc)))
          (λ (h : j < n). omega (arith, kept cs terms j h, p.short j h))
          (eq-or-lt_of_le (let m : j ≤ n = omega arith in m))

  pushed_store : (pool : List ℕ)
      → store_of_columns (set is n index) (set ss n used) (set cs n terms) pool (n + 1)
      ≡ store_of_columns is ss cs pool n ++ (record { index = index; poly = decode terms (drop (used * term_words) pool) } ∷ [])
  pushed_store pool =
      firsts_more (entry_at (set is n index) (set ss n used) (set cs n terms) pool) n
      ∙ ap₂ (λ (s : Store) (e : Entry). s ++ (e ∷ []))
      (firsts_same (entry_at (set is n index) (set ss n used) (set cs n terms) pool) (entry_at is ss cs pool) n
      (λ k h. alike _ _ _ _ _ _ (kept is index k h) (kept ss used k h) (kept cs terms k h)))
      (alike _ _ _ _ _ _ (get_or-set_same is n index 0 li) (get_or-set_same ss n used 0 ls) (get_or-set_same cs n terms 0 lc))
    where
      alike : (i j a b c d : ℕ) → i ≡ j → a ≡ b → c ≡ d
          → ◌≡◌ {A = Entry} (record { index = i; poly = decode c (drop (a * term_words) pool) }) (record { index = j; poly = decode d (drop (b * term_words) pool) })
      alike i j a b c d ei ea ec = λ t. record { index = ei t; poly = decode (ec t) (drop (ea t * term_words) pool) }

-- a table whose three columns have each one number more
pub pushed : (s r : Table) (index terms : ℕ) → Packed s → s.stored < stored_polynomials → terms ≤ field_terms
    → s.stored < length s.indices → s.stored < length s.starts → s.stored < length s.counts
    → Added s index terms r → Pushed s index terms r
pushed s r index terms p few low li ls lc a = record {
  store = λ pool. (λ i. store_of_columns (a.indices i) (a.starts i) (a.counts i) pool (a.stored i))
      ∙ pushed_store s.indices s.starts s.counts s.stored s.used index terms li ls lc pool;
  packed = transport (λ i. PackedColumns (sym a.starts i) (sym a.counts i) (sym a.stored i) (sym a.used i))
      (pushed_packed s.indices s.starts s.counts s.stored s.used index terms li ls lc few low p);
  stored = a.stored;
  used = a.used;
}
