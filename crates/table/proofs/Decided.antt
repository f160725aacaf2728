-- The contracts of `table` that are no equations decide their results and columns. Assumes nothing.
use mathlib.Core.Path.{◌≡◌, refl, sym, ap, ◌∙◌}
use mathlib.Core.Bool.{Bool, true, false}
use mathlib.Core.List.{List, []}
use Rattle.std.specs.Prelude.{Option, Some, None}
use Prim.Native.Nat.{ℕ, ◌+◌}
use lib.Dec.{ltb}
use lib.ListN.{length, get_or}
use lib.Seq.{ext_get_or}
use borrow.Author.Tests.{ltb-true, ltb-false}
use Rattle.ground.proofs.Decided.{one_first}
use Rattle.table.specs.declared.Table.{Table}
use Rattle.table.specs.Columns.{FirstAt, Finds, Closed, Fresh, Added, Removed}
use Rattle.table.proofs.Laws.{store_length}

-- ---- `find`
one_place : (column : List ℕ) (n x i j : ℕ) → FirstAt column n x i → FirstAt column n x j → i ≡ j
one_place column n x i j a b = one_first (λ (k : ℕ). get_or column k 0 ≡ x) i j a.here b.here a.earlier.nowhere b.earlier.nowhere

pub one_found : (column : List ℕ) (n x : ℕ) (r q : Option ℕ) → Finds column n x r → Finds column n x q → r ≡ q
one_found column n x (Some i) (Some j) a b = ap (λ k. Some k) (one_place column n x i j a b)
one_found column n x (Some i) None a b = absurd (b.nowhere i a.inside a.here)
one_found column n x None (Some j) a b = absurd (a.nowhere j b.inside b.here)
one_found column n x None None a b = refl

-- ---- a column that is closed: two columns of one length
pub one_closed : (column : List ℕ) (j n fall : ℕ) (r q : List ℕ) → length r ≡ length q → Closed column j n fall r → Closed column j n fall q → r ≡ q
one_closed column j n fall r q l a b = ext_get_or 0 r q l (λ i h. go i (ltb i j) (ltb (i + 1) n) refl refl)
  where
    go : (i : ℕ) (x y : Bool) → ltb i j ≡ x → ltb (i + 1) n ≡ y → get_or r i 0 ≡ get_or q i 0
    go i true y h k = a.before i (ltb-true i j h) ∙ sym (b.before i (ltb-true i j h))
    go i false true h k = a.behind i (ltb-false i j h) (ltb-true (i + 1) n k) ∙ sym (b.behind i (ltb-false i j h) (ltb-true (i + 1) n k))
    go i false false h k = a.rest i (ltb-false (i + 1) n k) ∙ sym (b.rest i (ltb-false (i + 1) n k))

-- ---- `Table::push`
pub one_added : (s : Table) (index count : ℕ) (r q : Table) → Added s index count r → Added s index count q → r ≡ q
one_added s index count r q a b = λ i. record {
  indices = (a.indices ∙ sym b.indices) i;
  starts = (a.starts ∙ sym b.starts) i;
  counts = (a.counts ∙ sym b.counts) i;
  stored = (a.stored ∙ sym b.stored) i;
  used = (a.used ∙ sym b.used) i;
}

-- ---- `Table::remove`: two tables with columns of one length, and the words of the pool
pub one_removed : (s : Table) (pool : List ℕ) (j : ℕ) (r q : Table) (left rest : List ℕ)
    → length r.indices ≡ length q.indices → length r.starts ≡ length q.starts → length r.counts ≡ length q.counts
    → Removed s pool j r left → Removed s pool j q rest → (r ≡ q) × (left ≡ rest)
one_removed s pool j r q left rest li ls lc a b = (same, a.words ∙ sym b.words)
  where
    same : r ≡ q
    same i = record {
      indices = one_closed s.indices j s.stored 0 r.indices q.indices li a.indices b.indices i;
      starts = one_closed s.starts j s.stored (get_or s.counts j 0) r.starts q.starts ls a.starts b.starts i;
      counts = one_closed s.counts j s.stored 0 r.counts q.counts lc a.counts b.counts i;
      stored = (a.stored ∙ sym b.stored) i;
      used = (a.used ∙ sym b.used) i;
    }

-- ---- `Table::new`
none_stored : (r : Table) → Fresh r → r.stored ≡ 0
none_stored r a = sym (store_length r []) ∙ ap length (a.store [])

pub one_table : (r q : Table) → Fresh r → Fresh q → r ≡ q
one_table r q a b = λ i. record {
  indices = (a.indices ∙ sym b.indices) i;
  starts = (a.starts ∙ sym b.starts) i;
  counts = (a.counts ∙ sym b.counts) i;
  stored = (none_stored r a ∙ sym (none_stored q b)) i;
  used = (a.used ∙ sym b.used) i;
}
