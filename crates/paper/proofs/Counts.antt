-- The counts that the running state carries are the sums over the accepted statements. Assumes nothing.
use mathlib.Core.Path.{◌≡◌, refl, sym, ap, ap₂, ◌∙◌, subst, fun_ext}
use mathlib.Core.Bool.{Bool, true, false, ◌||◌, cond}
use mathlib.Core.List.{List, [], ◌∷◌, ◌++◌, reverse_aux, append-nil}
use Prim.Native.Nat.{ℕ, ◌+◌, ◌<◌}
use native.Mathlib.Omega.{arith}
use lib.Dec.{eqb}
use lib.ListN.{length, length-append}
use Rattle.ground.specs.Lists.{every, any, total}
use Rattle.ground.proofs.Tests.{or_none_left, and_left}
use Rattle.algebra.specs.Polynomial.{Poly, extension}
use Rattle.paper.specs.Statement.{modulo, Statement, ring, input, goal, lin, del, ext, new_index, named_indices, forgets, reduced}
use Rattle.paper.specs.Rules.{Store, stored, Distinct, find, remove, stored_terms, State, start, place, entries, product_count, without, after}
use Rattle.paper.specs.Answer.{ring_in, sum_over, named, products_in, introduced_polynomials, deleted_polynomials, introduced_terms, deleted_terms}
use Rattle.paper.proofs.Stands.{Stands, stands_none}
use Rattle.paper.proofs.Course.{with_ring, by_ring, Steps, done, step, Opened, nothing, opening}
use Rattle.paper.proofs.Store.{find_new, terms_append, distinct_append, distinct_remove, find_remove, terms_remove}

look : (b : Bool) (p q : Poly) → cond b p q ≡ cond (b || false) (cond b p []) q
look true p q = refl
look false p q = refl

-- looked up among none but i
gone : (b : Bool) (q : Poly) → cond b [] q ≡ cond (b || false) [] q
gone true q = refl
gone false q = refl

no_terms : stored_terms [] ≡ 0
unfolding stored_terms total
no_terms = refl

-- the state's ring has k bits, the statements' j: none where the ring stands beside them
module _ (k j : ℕ) where
  -- what the state carries after the statements h, the newest first
  record Carried (s : State) (h : List Statement) : Type 0 where
    ringed : s.ring ≡ modulo k
    begun : 0 < s.phase
    ring_same : ring_in h ≡ j
    distinct : Distinct s.store
    finds : (i : ℕ) → find s.store i ≡ named k h i
    products : s.products ≡ products_in k h
    polynomials : length s.store + deleted_polynomials h ≡ introduced_polynomials k h
    terms : stored_terms s.store + deleted_terms k h ≡ introduced_terms k h

  module _ (s : State) (h : List Statement) (c : Carried (with_ring k s) h) where
    -- the same look-ups, so the same products
    counted : (st : Statement) → s.products + product_count k (find s.store) st ≡ products_in k (st ∷ h)
    unfolding products_in sum_over
    counted st = ap₂ (λ (x : ℕ) (f : ℕ → Poly). x + product_count k f st) c.products (fun_ext c.finds)

    -- p stored under a free index i
    module _ (i : ℕ) (p : Poly) (free : (stored s.store i || false) ≡ false) where
      abbrev more : Store
      more = s.store ++ (record { index = i; poly = p } ∷ [])

      more_distinct : Distinct more
      more_distinct = distinct_append s.store (record { index = i; poly = p }) c.distinct (or_none_left (stored s.store i) false free)

      more_finds : (j : ℕ) → find more j ≡ cond (eqb j i || false) (cond (eqb j i) p []) (named k h j)
      more_finds j = find_new s.store i p j (or_none_left (stored s.store i) false free) ∙ rw (c.finds j) (look (eqb j i) p (named k h j))

      more_polynomials : length more + (deleted_polynomials h + 0) ≡ introduced_polynomials k h + 1
      more_polynomials = omega (arith, length-append s.store (record { index = i; poly = p } ∷ []), c.polynomials)

      more_terms_law : stored_terms more + (deleted_terms k h + 0) ≡ introduced_terms k h + stored_terms (record { index = i; poly = p } ∷ [])
      more_terms_law = omega (arith, terms_append s.store (record { index = i; poly = p } ∷ []), c.terms)

    next : (capacity : ℕ) (st : Statement) → Stands capacity (with_ring k s) st → Carried (after (with_ring k s) st) (st ∷ h)
    unfolding place after entries without forgets total new_index named_indices stored find any every ring_in named deleted_polynomials introduced_polynomials deleted_terms introduced_terms sum_over
    next capacity (ring j) st = absurd (omega (arith, st.placed, c.begun))
    next capacity (input i p) st = record {
      ringed = refl;
      begun = c.begun;
      ring_same = c.ring_same;
      distinct = more_distinct i (reduced k p) st.free;
      finds = more_finds i (reduced k p) st.free;
      products = counted (input i p);
      polynomials = more_polynomials i (reduced k p) st.free;
      terms = more_terms_law i (reduced k p) st.free;
    }
    next capacity (goal p) st = record {
      ringed = refl;
      begun = omega arith;
      ring_same = c.ring_same;
      distinct = rw (append-nil s.store) c.distinct;
      finds = λ j. rw (append-nil s.store) (c.finds j);
      products = counted (goal p);
      polynomials = rw (append-nil s.store) (omega (arith, c.polynomials));
      terms = rw (append-nil s.store) (omega (arith, c.terms, no_terms));
    }
    next capacity (lin i p qs) st = record {
      ringed = refl;
      begun = c.begun;
      ring_same = c.ring_same;
      distinct = more_distinct i (reduced k p) st.free;
      finds = more_finds i (reduced k p) st.free;
      products = counted (lin i p qs);
      polynomials = more_polynomials i (reduced k p) st.free;
      terms = more_terms_law i (reduced k p) st.free;
    }
    next capacity (del i) st =
        let r = terms_remove s.store i (and_left (stored s.store i) true st.present) in
        record {
          ringed = refl;
          begun = c.begun;
          ring_same = c.ring_same;
          distinct = rw (append-nil (remove s.store i)) (distinct_remove s.store i c.distinct);
          finds = λ j. rw (append-nil (remove s.store i)) (find_remove s.store i j c.distinct ∙ ap (λ (q : Poly). cond (eqb j i) [] q) (c.finds j) ∙ gone (eqb j i) (named k h j));
          products = counted (del i);
          polynomials = rw (append-nil (remove s.store i)) (omega (arith, c.polynomials, r.1));
          terms = rw (append-nil (remove s.store i)) (omega (arith, c.terms, r.0, ap length (c.finds i), no_terms));
        }
    next capacity (ext i v p) st = record {
      ringed = refl;
      begun = c.begun;
      ring_same = c.ring_same;
      distinct = more_distinct i (extension k v (reduced k p)) st.free;
      finds = more_finds i (extension k v (reduced k p)) st.free;
      products = counted (ext i v p);
      polynomials = more_polynomials i (extension k v (reduced k p)) st.free;
      terms = more_terms_law i (extension k v (reduced k p)) st.free;
    }

  module _ (capacity : ℕ) where
    onward : (s : State) (h : List Statement) (st : Statement) → Carried s h → Stands capacity s st → Carried (after s st) (st ∷ h)
    onward s h st c stood =
        by_ring k s (λ (x : State). Carried x h → Stands capacity x st → Carried (after x st) (st ∷ h)) c.ringed (λ c stood. next s h c capacity st stood) c stood

    carried : {s e : State} {sts : List Statement} → Steps capacity s sts e → (h : List Statement) → Carried s h → Carried e (reverse_aux sts h)
    carried done h c = c
    carried (step {s} st q r) h c = carried r (st ∷ h) (onward s h st c (stands_none capacity s st q))

-- ---- from the start
pub record StateCounts (k : ℕ) (s : State) (h : List Statement) : Type 0 where
  pub products : s.products ≡ products_in k h
  pub polynomials : length s.store + deleted_polynomials h ≡ introduced_polynomials k h
  pub terms : stored_terms s.store + deleted_terms k h ≡ introduced_terms k h

of_carried : (k j : ℕ) (s : State) (h : List Statement) → Carried k j s h → StateCounts k s h
of_carried k j s h c = record { products = c.products; polynomials = c.polynomials; terms = c.terms }

counted_start : StateCounts (ring_in []) start []
unfolding start products_in deleted_polynomials introduced_polynomials deleted_terms introduced_terms sum_over stored_terms total
counted_start = record { products = refl; polynomials = refl; terms = refl }

carried_ring : (k : ℕ) → Carried k k (after start (ring (modulo k))) (ring (modulo k) ∷ [])
unfolding start after without forgets entries product_count ring_in find named stored any products_in deleted_polynomials introduced_polynomials deleted_terms introduced_terms sum_over stored_terms total
carried_ring k = record { ringed = refl; begun = omega arith; ring_same = refl; distinct = tt; finds = λ i. refl; products = refl; polynomials = refl; terms = refl }

pub counted_steps : (capacity : ℕ) {e : State} {sts : List Statement} → Opened capacity sts e → StateCounts (ring_in (reverse_aux sts [])) e (reverse_aux sts [])
counted_steps capacity nothing = counted_start
counted_steps capacity (opening {sts} {e} k r) =
    let h : List Statement = reverse_aux sts (ring (modulo k) ∷ []) in
    let c = carried k k capacity r (ring (modulo k) ∷ []) (carried_ring k) in
    subst (λ (j : ℕ). StateCounts j e h) (sym c.ring_same) (of_carried k k e h c)

-- ---- from a ring that stands beside the statements
carried_none : (k : ℕ) → Carried k 0 (after start (ring (modulo k))) []
unfolding start after without forgets entries product_count ring_in find named products_in deleted_polynomials introduced_polynomials deleted_terms introduced_terms sum_over stored_terms total
carried_none k = record { ringed = refl; begun = omega arith; ring_same = refl; distinct = tt; finds = λ i. refl; products = refl; polynomials = refl; terms = refl }

pub counted_behind : (capacity k : ℕ) {e : State} {sts : List Statement} → Steps capacity (after start (ring (modulo k))) sts e → StateCounts k e (reverse_aux sts [])
counted_behind capacity k {e} {sts} r = of_carried k 0 e (reverse_aux sts []) (carried k 0 capacity r [] (carried_none k))
