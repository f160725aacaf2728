-- Closing the gap over the columns and the pool: the rest is packed again, and its store_of_columns are those of before without one. Assumes nothing.
use mathlib.Core.Path.{◌≡◌, refl, sym, ap, ap₂, subst, ◌∙◌}
use mathlib.Core.Logic.{⊎_elim}
use mathlib.Core.List.{List}
use Prim.Native.Nat.{ℕ, zero, suc, ◌+◌, ◌-◌, ◌*◌, ◌≤◌, ◌<◌}
use native.Mathlib.Nat.{eq-or-lt_of_le, sub-zero}
use native.Mathlib.Omega.{arith}
use lib.Dec.{leb}
use lib.ListN.{length, drop, get_or, length-drop}
use Rattle.std.proofs.lemmas.List.Edits.{length-paste}
use borrow.Author.Tests.{leb-true, leb-false}
use Rattle.words.specs.Parts.{part, Within}
use Rattle.words.proofs.Parts.{paste_within}
use Rattle.ground.proofs.Tests.{split}
use Rattle.limits.specs.Limits.{field_terms, term_words}
use Rattle.algebra.specs.Polynomial.{Poly}
use Rattle.terms.specs.Terms.{decode}
use Rattle.terms.proofs.Decode.{decode_same}
use Rattle.paper.specs.Rules.{Store, remove}
use Rattle.table.specs.declared.Table.{Table}
use Rattle.table.specs.Table.{poly_at, entry_at, store_of_columns, terms_before, PackedColumns, Packed, Fitting}
use Rattle.table.specs.Columns.{FirstAt, Closed, Shifted, Lowered, closed_pool, Removed, Forgotten}
use Rattle.table.proofs.Firsts.{firsts_split, firsts_cut, behind, stored_none, remove_split}
use Rattle.table.proofs.Moving.{moved_part, closed_column, closed_lowered}
use Rattle.table.proofs.Packing.{before_more, before_same, ends_before, ends_used}
use Rattle.table.proofs.Laws.{poly_kept}

-- the sums of a closed column of counts
module _ (cs ds : List ℕ) (j n : ℕ) (h : j < n) (c : Closed cs j n 0 ds) where
  sums_before : (k : ℕ) → k ≤ j → terms_before ds k ≡ terms_before cs k
  sums_before k l = before_same cs ds k (λ i m. c.before i (omega arith))

  sums_behind : (k : ℕ) → j ≤ k → k < n → terms_before ds k + get_or cs j 0 ≡ terms_before cs (k + 1)
  unfolding terms_before
  sums_behind zero l m = let e : j ≡ 0 = omega arith in rw e (omega arith)
  sums_behind (suc k) l m =
      ⊎_elim (λ (e : j ≡ suc k). rw e (omega (arith, before_more cs (suc k), sums_before (suc k) (omega arith))))
      (λ (u : j < suc k).
      let e : suc k + 1 ≡ k + 1 + 1 = omega arith in
      rw e (omega (arith, sums_behind k (omega arith) (omega arith), c.behind k (omega arith) (omega arith), before_more cs (k + 1))))
      (eq-or-lt_of_le l)

-- the columns is, ss, cs of indices, starts and counts and the pool, and the columns js, ts, ds that are left
module _ (is ss cs pool js ts ds : List ℕ) (j n used : ℕ) (p : PackedColumns ss cs n used) (h : j < n) (room : used * term_words ≤ length pool)
    (ci : Closed is j n 0 js) (ct : Closed ss j n (get_or cs j 0) ts) (cd : Closed cs j n 0 ds) where
  abbrev start : ℕ
  start = get_or ss j 0

  abbrev count : ℕ
  count = get_or cs j 0

  abbrev left : List ℕ
  left = closed_pool pool start count used

  starts_behind : (k : ℕ) → j ≤ k → k + 1 < n → (get_or ts k 0 + count ≡ get_or ss (k + 1) 0) × (start ≤ get_or ts k 0)
  starts_behind k l m =
      let e = ct.behind k l m in
      let b = p.begins (k + 1) m in
      let q = sums_behind cs ds j n h cd k l (omega arith) in
      let u = ends_before cs j (k + 1) (omega arith) in
      let v = p.begins j h in
      (omega arith, omega arith)

  left_packed : PackedColumns ts ds (n - 1) (used - count)
  left_packed = record { few = omega (arith, p.few); begins = begins; ends = ends; short = short }
    where
      begins : (k : ℕ) → k < n - 1 → get_or ts k 0 ≡ terms_before ds k
      begins k l =
          ⊎_elim (λ t. behind_gap (leb-true j k t)) (λ t. before_gap (leb-false j k t)) (split (leb j k))
        where
          behind_gap : j ≤ k → get_or ts k 0 ≡ terms_before ds k
          behind_gap u = omega (arith, (starts_behind k u (omega arith)).0, p.begins (k + 1) (omega arith), sums_behind cs ds j n h cd k u (omega arith))

          before_gap : k < j → get_or ts k 0 ≡ terms_before ds k
          before_gap u = ct.before k u ∙ p.begins k (omega arith) ∙ sym (sums_before cs ds j n h cd k (omega arith))

      ends : used - count ≡ terms_before ds (n - 1)
      ends =
          let e : n - 1 + 1 ≡ n = omega arith in
          let q : terms_before ds (n - 1) + count ≡ terms_before cs n = rw e at (sums_behind cs ds j n h cd (n - 1) (omega arith) (omega arith)) in
          omega (arith, p.ends)

      short : (k : ℕ) → k < n - 1 → get_or ds k 0 ≤ field_terms
      short k l =
          ⊎_elim (λ t. omega (arith, cd.behind k (leb-true j k t) (omega arith), p.short (k + 1) (omega arith)))
          (λ t. omega (arith, cd.before k (leb-false j k t), p.short k (omega arith))) (split (leb j k))

  -- the polynomials before the gap
  poly_before : (k : ℕ) → k < j → poly_at ts ds left k ≡ poly_at ss cs pool k
  poly_before k l =
      let u = ends_used ss cs n used j p h in
      let v = ends_before cs k j l in
      let b = p.begins k (omega arith) in
      let d = p.begins j h in
      let w : Within (start * term_words) (start * term_words + (used * term_words - (start * term_words + count * term_words))) pool left
      = paste_within pool (start * term_words) (drop (start * term_words + count * term_words) pool) (used * term_words - (start * term_words + count * term_words))
      (omega arith) (simp length-drop (omega arith)) in
      ap₂ (λ (a c : ℕ). decode c (drop (a * term_words) left)) (ct.before k l) (cd.before k l)
      ∙ poly_kept ss cs pool left (start * term_words) _ k w (omega arith)

  -- those behind it
  poly_behind : (k : ℕ) → j ≤ k → k + 1 < n → poly_at ts ds left k ≡ poly_at ss cs pool (k + 1)
  poly_behind k l m =
      let u = ends_used ss cs n used (k + 1) p m in
      let s = starts_behind k l m in
      let c : get_or ds k 0 ≡ get_or cs (k + 1) 0 = cd.behind k l m ∙ sub-zero _ in
      let e : get_or ts k 0 * term_words + count * term_words ≡ get_or ss (k + 1) 0 * term_words = omega (arith, s.0) in
      let q : part (get_or ts k 0 * term_words) (get_or cs (k + 1) 0 * term_words) left ≡ part (get_or ts k 0 * term_words + count * term_words) (get_or cs (k + 1) 0 * term_words) pool
      = moved_part pool (start * term_words) (count * term_words) (used * term_words) (get_or ts k 0 * term_words) (get_or cs (k + 1) 0 * term_words)
      (omega (arith, s.1)) (omega (arith, s.0)) room in
      ap (λ (m : ℕ). decode m (drop (get_or ts k 0 * term_words) left)) c
      ∙ decode_same (get_or cs (k + 1) 0) (drop (get_or ts k 0 * term_words + count * term_words) pool) (drop (get_or ts k 0 * term_words) left) q
      ∙ ap (λ (b : ℕ). decode (get_or cs (k + 1) 0) (drop b pool)) e

  left_store : (x : ℕ) → FirstAt is n x j → store_of_columns js ts ds left (n - 1) ≡ remove (store_of_columns is ss cs pool n) x
  left_store x f =
      firsts_cut (entry_at is ss cs pool) (entry_at js ts ds left) j n h before after
      ∙ sym (ap (λ (s : Store). remove s x) (firsts_split (entry_at is ss cs pool) j n h)
      ∙ remove_split (store_of_columns is ss cs pool j) (behind (entry_at is ss cs pool) j n) (entry_at is ss cs pool j) x f.here
      (stored_none (entry_at is ss cs pool) j x f.earlier.nowhere))
    where
      before : (k : ℕ) → k < j → entry_at js ts ds left k ≡ entry_at is ss cs pool k
      before k l = ap₂ (λ (i : ℕ) (q : Poly). record { index = i; poly = q }) (ci.before k l) (poly_before k l)

      after : (k : ℕ) → j ≤ k → k + 1 < n → entry_at js ts ds left k ≡ entry_at is ss cs pool (k + 1)
      after k l m = ap₂ (λ (i : ℕ) (q : Poly). record { index = i; poly = q }) (ci.behind k l m ∙ sub-zero _) (poly_behind k l m)

-- the columns moved up to the j-th, and the starts lowered
pub removed : {s : Table} {pool is ss ts cs rest : List ℕ} {j : ℕ} → j < s.stored → Shifted s.indices j 1 s.stored is
    → Shifted s.starts j 1 s.stored ss → Lowered ss j (s.stored - 1) (get_or s.counts j 0) ts → Shifted s.counts j 1 s.stored cs
    → rest ≡ closed_pool pool (get_or s.starts j 0) (get_or s.counts j 0) s.used
    → Removed s pool j (record { indices = is; starts = ts; counts = cs; stored = s.stored - 1; used = s.used - get_or s.counts j 0 }) rest
removed {s} {j = j} h mi ms l mc e = record {
  indices = closed_column s.indices _ j s.stored h mi;
  starts = closed_lowered s.starts _ _ j s.stored _ h (closed_column s.starts _ j s.stored h ms) l;
  counts = closed_column s.counts _ j s.stored h mc;
  stored = refl;
  used = refl;
  words = e;
}

-- a table whose three columns and whose pool are closed over the j-th polynomial
pub forgotten : (s r : Table) (pool rest : List ℕ) (j : ℕ) → Packed s → j < s.stored → s.used * term_words ≤ length pool
    → Removed s pool j r rest → Forgotten s pool j r rest
forgotten s r pool rest j p h room c = record {
  store = λ x f. (λ i. store_of_columns r.indices r.starts r.counts (c.words i) (c.stored i))
      ∙ left_store s.indices s.starts s.counts pool r.indices r.starts r.counts j s.stored s.used p h room c.indices c.starts c.counts x f;
  packed = subst (λ (n : ℕ). PackedColumns r.starts r.counts n r.used) (sym c.stored)
      (subst (PackedColumns r.starts r.counts (s.stored - 1)) (sym c.used)
      (left_packed s.indices s.starts s.counts pool r.indices r.starts r.counts j s.stored s.used p h room c.indices c.starts c.counts));
  stored = omega (arith, c.stored);
  used = omega (arith, c.used, ends);
  same = ap length c.words ∙ length-paste pool (get_or s.starts j 0 * term_words) _ _ (omega (arith, ends)) (simp length-drop (omega arith));
}
  where
    ends : get_or s.starts j 0 + get_or s.counts j 0 ≤ s.used
    ends = ends_used s.starts s.counts s.stored s.used j p h

pub forgotten_fitting : (s r : Table) (pool left : List ℕ) (capacity j : ℕ) → Fitting s pool capacity
    → Forgotten s pool j r left → Fitting r left capacity
forgotten_fitting s r pool left capacity j f p = record { packed = p.packed; room = omega (arith, p.used); words = omega (arith, p.same); most = f.most }
