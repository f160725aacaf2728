-- Sums of counts, and where a packed polynomial ends. Assumes nothing.
use mathlib.Core.Path.{◌≡◌, refl, subst}
use mathlib.Core.Logic.{⊎_elim}
use mathlib.Core.List.{List}
use Prim.Native.Nat.{ℕ, zero, suc, ◌+◌, ◌*◌, ◌≤◌, ◌<◌}
use native.Mathlib.Numerals.{add-one}
use native.Mathlib.Nat.{eq-or-lt_of_le, le_of_suc-le-suc, not-suc-le-zero}
use native.Mathlib.Omega.{arith}
use lib.ListN.{length, get_or}
use Rattle.limits.specs.Limits.{field_terms, term_words}
use Rattle.table.specs.declared.Table.{Table}
use Rattle.table.specs.Table.{terms_before, PackedColumns, Packed}
use Rattle.table.specs.Columns.{Closable, Removable}

pub before_more : (cs : List ℕ) (j : ℕ) → terms_before cs (j + 1) ≡ terms_before cs j + get_or cs j 0
unfolding terms_before
before_more cs j = rw (add-one j)

-- the sums of two columns that agree up to n
pub before_same : (cs ds : List ℕ) (n : ℕ) → ((k : ℕ) → k < n → get_or ds k 0 ≡ get_or cs k 0) → terms_before ds n ≡ terms_before cs n
unfolding terms_before
before_same cs ds zero h = refl
before_same cs ds (suc n) h = omega (arith, before_same cs ds n (λ k l. h k (omega arith)), h n (omega arith))

-- one ends before the next starts
pub ends_before : (cs : List ℕ) (j k : ℕ) → j < k → terms_before cs j + get_or cs j 0 ≤ terms_before cs k
unfolding terms_before
ends_before cs j zero h = absurd (not-suc-le-zero h)
ends_before cs j (suc k) h =
    ⊎_elim (λ e. subst (λ (m : ℕ). terms_before cs j + get_or cs j 0 ≤ terms_before cs m + get_or cs m 0) e (omega arith))
    (λ l. omega (arith, ends_before cs j k l)) (eq-or-lt_of_le (le_of_suc-le-suc h))

pub ends_used : (ss cs : List ℕ) (n used j : ℕ) → PackedColumns ss cs n used → j < n → get_or ss j 0 + get_or cs j 0 ≤ used
ends_used ss cs n used j p h = omega (arith, p.begins j h, ends_before cs j n h)

-- the terms of n polynomials, none longer than a field
before_short : (cs : List ℕ) (n : ℕ) → ((k : ℕ) → k < n → get_or cs k 0 ≤ field_terms) → terms_before cs n ≤ n * field_terms
unfolding terms_before
before_short cs zero h = omega arith
before_short cs (suc n) h = omega (arith, before_short cs n (λ k l. h k (omega arith)), h n (omega arith))

pub used_short : (ss cs : List ℕ) (n used : ℕ) → PackedColumns ss cs n used → used ≤ n * field_terms
used_short ss cs n used p = omega (arith, p.ends, before_short cs n p.short)

-- one starts no earlier than one before it is long
later_starts : (ss cs : List ℕ) (n used j k : ℕ) → PackedColumns ss cs n used → j < k → k < n → get_or cs j 0 ≤ get_or ss k 0
later_starts ss cs n used j k p l m = omega (arith, p.begins k m, ends_before cs j k l)

-- the starts may be closed over a polynomial of count terms
pub closable_starts : (ss cs : List ℕ) (n used j count : ℕ) → PackedColumns ss cs n used → j < n → count ≡ get_or cs j 0 → Closable ss j n count
closable_starts ss cs n used j count p h e = record { inside = h; few = p.few; least = λ k l m. omega (arith, later_starts ss cs n used j k p l m) }

pub removable : (s : Table) (pool : List ℕ) (j : ℕ) → Packed s → j < s.stored → s.used * term_words ≤ length pool → Removable s pool j
removable s pool j p h room = record {
  starts = closable_starts s.starts s.counts s.stored s.used j (get_or s.counts j 0) p h refl;
  inside = ends_used s.starts s.counts s.stored s.used j p h;
  words = room;
}
