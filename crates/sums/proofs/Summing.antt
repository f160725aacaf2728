-- A sum with one pair more. Assumes nothing.
use mathlib.Core.Path.{◌≡◌, refl, sym, ap, ap₂, subst, ◌∙◌}
use mathlib.Core.Bool.{Bool, true, false, ◌&&◌, not, and-true}
use Rattle.std.proofs.Math.Bool.{and-false}
use mathlib.Core.List.{List, [], ◌∷◌, ◌++◌, map-append, append-nil, append_assoc}
use Prim.Native.Nat.{ℕ, ◌+◌, ◌*◌, ◌≤◌}
use native.Mathlib.Nat.{add-zero}
use native.Mathlib.Omega.{arith}
use lib.Bits.{bit_or, or_comm}
use lib.Dec.{ltb}
use lib.ListN.{length, drop, replicate}
use borrow.Author.Tests.{ltb-true, lt-ltb, not-false}
use Rattle.ground.specs.Lists.{every, total}
use Rattle.ground.proofs.Lists.{every_more}
use Rattle.limits.specs.Limits.{line_products, set_words}
use Rattle.limits.specs.Verdicts.{MISSING, PRODUCTS}
use Rattle.limits.specs.Refusals.{outcome}
use Rattle.limits.specs.declared.refusal.Refusal.{Refusal}
use Rattle.limits.specs.declared.refusal.Refusal.TheVariants.{Missing}
use Rattle.limits.proofs.Refusals.{refuses}
use Rattle.std.specs.Prelude.{Option, Some, None, ok_or, Result, Ok, Err, IsErrAnd}
use Rattle.algebra.specs.Polynomial.{Poly, products}
use Rattle.algebra.proofs.Unions.{or_assoc}
use Rattle.words.specs.Parts.{Within}
use Rattle.words.specs.Words.{number_of}
use Rattle.terms.specs.Terms.{decode, rounded}
use Rattle.terms.proofs.Decode.{decode_below}
use Rattle.terms.proofs.Rounding.{rounded_append}
use Rattle.reduction.proofs.Reordered.{total_append}
use Rattle.paper.specs.Statement.{Written, Pair, reduced}
use Rattle.paper.specs.Rules.{first, Store, stored, find, shows, shows_all, combination}
use Rattle.table.specs.Table.{poly_at, store_of_columns}
use Rattle.table.specs.Columns.{Finds, FirstAt}
use Rattle.table.proofs.Laws.{found_at, found_nothing, absent_stored, found_stored, found_find}
use Rattle.scratch.specs.Scratch.{stated_at, factor_at, goal_at, ReducedAt}
use Rattle.scratch.specs.declared.Reduced.{Reduced}
use Rattle.scratch.proofs.Keeping.{kept_factor}
use Rattle.sums.specs.declared.Sum.{Sum}
use Rattle.sums.specs.Sums.{indices_of, factors_of, products_of, pair_rows, SumOf, Summed, Extended}
use Rattle.sums.proofs.Rows.{first_open}
use Rattle.sums.proofs.Adding.{of_ok, extended_as}

-- ---- no pairs
pub summed_none : {k : ℕ} {store : Store} {scratch : List ℕ} → Summed k store [] scratch (Ok (record { terms = 0; seen = replicate set_words 0 }))
unfolding first products_of combination shows_all every total decode rounded number_of
summed_none {k} {store} {scratch} = record {
  verdict = refl;
  some = of_ok (SumOf k store [] scratch) (record { terms = 0; seen = replicate set_words 0 })
      (record { count = refl; most = omega arith; run = refl; seen = refl });
}

-- the sum stays where a change leaves the products
sum_kept : {k : ℕ} {store : Store} {qs : List Pair} {s r : List ℕ} {m : Sum} (a e : ℕ) → Within a e s r → stated_at ≤ a → SumOf k store qs s m → SumOf k store qs r m
sum_kept {s = s} {r} {m} a e w l u = record {
  count = u.count;
  most = u.most;
  run = decode_below m.terms a e s r w (omega (arith, u.most)) ∙ u.run;
  seen = u.seen;
}

pub summed_kept : {k : ℕ} {store : Store} {qs : List Pair} {s r : List ℕ} {sum : Result Sum Refusal} (a e : ℕ) → Within a e s r → stated_at ≤ a → Summed k store qs s sum → Summed k store qs r sum
summed_kept a e w l u = record { verdict = u.verdict; some = λ m o. sum_kept a e w l (u.some m o) }

-- ---- one item more
shows_more : (k : ℕ) (ps : List Written) (p : Written) → shows_all k (ps ++ (p ∷ [])) ≡ bit_or (shows k p) (shows_all k ps)
unfolding shows_all
shows_more k [] p = refl
shows_more k (q ∷ ps) p =
    ap (bit_or (shows k q)) (shows_more k ps p) ∙ sym (or_assoc (shows k q) (shows k p) (shows_all k ps))
    ∙ ap (λ (m : ℕ). bit_or m (shows_all k ps)) (or_comm (shows k q) (shows k p)) ∙ or_assoc (shows k p) (shows k q) (shows_all k ps)

module _ (k : ℕ) (named : ℕ → Poly) where
  combination_more : (qs : List Pair) (q : Pair) → combination k named (qs ++ (q ∷ [])) ≡ combination k named qs ++ products (reduced k q.factor) (named q.index)
  unfolding combination
  combination_more [] q = append-nil (products (reduced k q.factor) (named q.index))
  combination_more (p ∷ qs) q =
      ap (λ (x : Poly). products (reduced k p.factor) (named p.index) ++ x) (combination_more qs q)
      ∙ sym (append_assoc (products (reduced k p.factor) (named p.index)) (combination k named qs) (products (reduced k q.factor) (named q.index)))

  products_more : (qs : List Pair) (q : Pair) → products_of k named (qs ++ (q ∷ [])) ≡ products_of k named qs + length (reduced k q.factor) * length (named q.index)
  unfolding products_of total
  products_more qs q =
      total_append (λ q. length (reduced k q.factor) * length (named q.index)) qs (q ∷ [])
      ∙ ap (λ (m : ℕ). products_of k named qs + m) (add-zero (length (reduced k q.factor) * length (named q.index)))

-- ---- one pair more
module _ {k : ℕ} {store : Store} {qs : List Pair} {s : List ℕ} {old : Result Sum Refusal} (index : ℕ) (w : Written) (a : Summed k store qs s old) where
  abbrev q : Pair
  q = record { index = index; factor = w }

  abbrev more : List Pair
  more = qs ++ (q ∷ [])

  indices_more : indices_of more ≡ indices_of qs ++ (index ∷ [])
  indices_more = map-append (λ q. q.index) qs (q ∷ [])

  factors_more : factors_of more ≡ factors_of qs ++ (w ∷ [])
  factors_more = map-append (λ q. q.factor) qs (q ∷ [])

  all_more : (b : Bool) → stored store index ≡ b → every (stored store) (indices_of more) ≡ (every (stored store) (indices_of qs) && b)
  all_more b e = ap (every (stored store)) indices_more ∙ every_more (stored store) (indices_of qs) index ∙ ap (λ (x : Bool). every (stored store) (indices_of qs) && x) e

  abbrev rows_of : Bool → Bool → ℕ
  rows_of present over = first ((MISSING, not present) ∷ (PRODUCTS, over) ∷ [])

  -- refused, for one reason or the other
  refused : {r : List ℕ} {sum : Result Sum Refusal} → (outcome sum ≡ 0 → ⊥) → outcome sum ≡ first (pair_rows k store more) → Summed k store more r sum
  refused n e = record { verdict = e; some = λ m o. absurd (n (ap outcome o)) }

  summed_missing : stored store index ≡ false → {r : List ℕ} → Summed k store more r (Err Missing)
  unfolding first
  summed_missing e =
      refused (refuses Missing) (sym (ap (λ (b : Bool). rows_of b (ltb line_products (products_of k (find store) more))) (all_more false e ∙ and-false (every (stored store) (indices_of qs)))))

  module _ (e : stored store index ≡ true) where
    present : every (stored store) (indices_of more) ≡ every (stored store) (indices_of qs)
    present = all_more true e ∙ and-true (every (stored store) (indices_of qs))

    -- too many before are too many now
    summed_stopped : (outcome old ≡ 0 → ⊥) → Summed k store more s old
    unfolding first
    summed_stopped n = refused n (a.verdict ∙ go (every (stored store) (indices_of qs)) (ltb line_products (products_of k (find store) qs)) refl refl
        ∙ sym (ap (λ (b : Bool). rows_of b (ltb line_products (products_of k (find store) more))) present))
      where
        go : (b o : Bool) → every (stored store) (indices_of qs) ≡ b → ltb line_products (products_of k (find store) qs) ≡ o
            → rows_of (every (stored store) (indices_of qs)) (ltb line_products (products_of k (find store) qs))
            ≡ rows_of (every (stored store) (indices_of qs)) (ltb line_products (products_of k (find store) more))
        go false o x y = rw x
        go true false x y = absurd (n (a.verdict ∙ ap₂ rows_of x y))
        go true true x y =
            ap (rows_of (every (stored store) (indices_of qs)))
            (y ∙ sym (lt-ltb line_products (products_of k (find store) more) (omega (arith, ltb-true line_products (products_of k (find store) qs) y, products_more k (find store) qs q))))

    summed_more : (m : Sum) → old ≡ Ok m → {r : List ℕ} {sum : Result Sum Refusal} → Extended (reduced k w) (find store index) (shows k w) m s r sum → Summed k store more r sum
    unfolding first
    summed_more m o {r} {sum} x = record { verdict = x.verdict ∙ sym (ap₂ rows_of (present ∙ all) (ap (ltb line_products) counted)); some = some }
      where
        row : Poly
        row = products (reduced k w) (find store index)

        all : every (stored store) (indices_of qs) ≡ true
        all = not-false (every (stored store) (indices_of qs)) (first_open MISSING (not (every (stored store) (indices_of qs))) ((PRODUCTS, ltb line_products (products_of k (find store) qs)) ∷ []) (omega arith) (sym a.verdict ∙ ap outcome o)).0

        before : SumOf k store qs s m
        before = a.some m o

        counted : products_of k (find store) more ≡ m.terms + length (reduced k w) * length (find store index)
        counted = products_more k (find store) qs q ∙ ap (λ (i : ℕ). i + length (reduced k w) * length (find store index)) (sym before.count)

        some : (y : Sum) → sum ≡ Ok y → SumOf k store more r y
        some y e =
            let b = x.some y e in
            record {
              count = b.count ∙ sym counted;
              most = b.most;
              run = b.run ∙ ap (λ (p : Poly). p ++ rounded row) before.run ∙ sym (rounded_append (combination k (find store) qs) row)
                  ∙ ap rounded (sym (combination_more k (find store) qs q));
              seen = b.seen ∙ ap (bit_or (shows k w)) before.seen ∙ sym (ap (shows_all k) factors_more ∙ shows_more k (factors_of qs) w);
            }

-- ---- what `?` hands on
handed_on : {why : Refusal} (sum : Result Sum Refusal) → IsErrAnd sum (λ v. v ≡ why) → sum ≡ Err why
handed_on (Ok m) h = absurd h
handed_on (Err v) h = ap (λ (y : Refusal). Err y) h

missed : (found : Option ℕ) (why : Refusal) → ok_or found Missing ≡ Err why → (found ≡ None) × (why ≡ Missing)
missed (Some j) why e = cc
missed None why e = (refl, cc)

pub placed : {column : List ℕ} {n x j : ℕ} (found : Option ℕ) → Finds column n x found → ok_or found Missing ≡ Ok j → FirstAt column n x j
placed {j = j} (Some i) o e = found_at (let h : Some i ≡ Some j = cc in h) o
placed None o e = cc

-- ---- the index looked up in the columns
module _ (indices starts counts pool : List ℕ) (n index : ℕ) where
  abbrev store' : Store
  store' = store_of_columns indices starts counts pool n

  module _ {k : ℕ} {qs : List Pair} {s : List ℕ} {old : Result Sum Refusal} (w : Written) (a : Summed k store' qs s old) where
    pub factor_missing : (found : Option ℕ) {why : Refusal} → Finds indices n index found → ok_or found Missing ≡ Err why → {r : List ℕ} (sum : Result Sum Refusal)
        → IsErrAnd sum (λ v. v ≡ why) → Summed k store' (qs ++ (record { index = index; factor = w } ∷ [])) r sum
    factor_missing found {why} o e {r} sum v =
        let m = missed found why e in
        subst (Summed k store' (qs ++ (record { index = index; factor = w } ∷ [])) r) (sym (handed_on sum v ∙ ap (λ (y : Refusal). Err y) m.1))
        (summed_missing index w a (absent_stored indices starts counts pool n index (found_nothing m.0 o)))

    module _ {j : ℕ} (o : FirstAt indices n index j) where
      pub factor_stopped : {why : Refusal} → old ≡ Err why → (sum : Result Sum Refusal) → IsErrAnd sum (λ v. v ≡ why)
          → Summed k store' (qs ++ (record { index = index; factor = w } ∷ [])) s sum
      factor_stopped {why} e sum v = subst (Summed k store' (qs ++ (record { index = index; factor = w } ∷ [])) s) (e ∙ sym (handed_on sum v))
          (summed_stopped index w a (found_stored indices starts counts pool n index j o) (λ z. refuses why (sym (ap outcome e) ∙ z)))

      pub factor_added : {y r : List ℕ} {d : Reduced} {sum : Result Sum Refusal} (m : Sum) → old ≡ Ok m → ReducedAt k w factor_at s y d
          → Extended (decode d.terms (drop factor_at y)) (poly_at starts counts pool j) (number_of d.shown) m y r sum
          → Summed k store' (qs ++ (record { index = index; factor = w } ∷ [])) r sum
      factor_added {y} m e d x =
          summed_more index w a (found_stored indices starts counts pool n index j o) m e
          (extended_as d.at.run (sym (found_find indices starts counts pool n index j o)) d.shown
          (decode_below m.terms factor_at goal_at s y d.at.within (omega (arith, (a.some m e).most))) (kept_factor s y d.at.within) x)
