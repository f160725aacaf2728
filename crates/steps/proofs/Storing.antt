-- A line that stores a polynomial: where it is refused, and what appending the polynomial to the pool leaves. Assumes nothing.
use mathlib.Core.Path.{◌≡◌, refl, sym, ap, ap₂, subst, ◌∙◌}
use mathlib.Core.Bool.{Bool, true, false, ◌||◌}
use mathlib.Core.List.{List, [], ◌++◌}
use Prim.Native.Nat.{ℕ, ◌+◌, ◌*◌, ◌≤◌, ◌<◌}
use native.Mathlib.Omega.{arith}
use lib.Dec.{leb, ltb}
use lib.ListN.{length, drop, length-drop}
use lib.Seq.{paste}
use borrow.Author.Tests.{le-leb, lt-leb, leb-false, lt-ltb, le-ltb, ltb-false}
use Rattle.ground.proofs.Tests.{or_none_left, or_none_right}
use Rattle.words.specs.Parts.{Within}
use Rattle.words.proofs.Parts.{paste_within}
use Rattle.limits.specs.Limits.{stored_polynomials, field_terms, line_products, term_words, least_scratch}
use Rattle.limits.specs.Verdicts.{FULL}
use Rattle.limits.specs.Refusals.{number_of, outcome}
use Rattle.limits.specs.declared.refusal.Refusal.{Refusal}
use Rattle.limits.specs.declared.refusal.Refusal.TheVariants.{Full}
use Rattle.limits.proofs.Refusals.{refuses}
use Rattle.std.specs.Prelude.{Result, Ok, Err}
use Rattle.algebra.specs.Polynomial.{Poly, equal}
use Rattle.terms.specs.Terms.{decode}
use Rattle.terms.proofs.Decode.{decode_length, decode_paste}
use Rattle.paper.specs.Statement.{Statement, modulo}
use Rattle.paper.specs.Rules.{entry, Store, stored, Distinct, first, rules, after, overfull}
use Rattle.paper.proofs.Store.{distinct_append}
use Rattle.table.specs.declared.Table.{Table}
use Rattle.table.specs.Table.{store_of, Fitting}
use Rattle.table.proofs.Laws.{store_length, store_terms, store_kept}
use Rattle.table.proofs.Packing.{used_short}
use Rattle.table.specs.Columns.{Pushable, Pushed}
use Rattle.scratch.specs.Scratch.{stated_at, goal_at}
use Rattle.sums.specs.Rows.{Rows, or_else}
use Rattle.sums.proofs.Rows.{else_stop, first_append, first_open}
use Rattle.steps.specs.declared.state.State.{State}
use Rattle.steps.specs.declared.check.Candidate.{Candidate}
use Rattle.steps.specs.State.{state_of, grown, Ready}
use Rattle.steps.specs.Stepped.{Room, Stepped}
use Rattle.steps.specs.Parts.{admit_rows, full_rows, MadeIs, CandidateIs, PoolTakes, StoredIs}
use Rattle.steps.proofs.Calling.{room_kept}
use Rattle.steps.proofs.Stepping.{stepped_refused}
use Rattle.steps.proofs.Admitting.{AdmitIs, admitted_phase, admitted_free}
use Rattle.steps.proofs.After.{storing}
use Rattle.steps.proofs.Stating.{Stores}

-- ---- what the pool takes
abbrev full : ℕ → ℕ → ℕ → Bool
full stored capacity terms = leb stored_polynomials stored || ltb capacity terms

module _ {stored used n capacity : ℕ} {pool scratch : List ℕ} where
  pool_full : full stored capacity (used + n) ≡ true → PoolTakes stored used n capacity pool scratch (Err Full) pool
  unfolding first
  pool_full e = record { verdict = ap (λ (b : Bool). first (full_rows b)) (sym e); kept = λ y. absurd (let x : ⊥ = omega (arith, y) in x); untouched = λ _. refl; same = refl }

  pub pool_many : stored_polynomials ≤ stored → PoolTakes stored used n capacity pool scratch (Err Full) pool
  pool_many m = pool_full (ap (λ (b : Bool). b || ltb capacity (used + n)) (le-leb stored_polynomials stored m))

  module _ (few : stored < stored_polynomials) where
    pub pool_large : capacity < used + n → PoolTakes stored used n capacity pool scratch (Err Full) pool
    pool_large m = pool_full (ap₂ ◌||◌ (lt-leb stored_polynomials stored few) (lt-ltb capacity (used + n) m))

    pub pool_takes : {pool' : List ℕ} → used + n ≤ capacity → used * term_words + n * term_words ≤ length pool → n * term_words ≤ length (drop stated_at scratch)
        → pool' ≡ paste pool (used * term_words) (drop stated_at scratch) (n * term_words) → PoolTakes stored used n capacity pool scratch (Ok tt) pool'
    unfolding first
    pool_takes m long enough e = record {
      verdict = ap (λ (b : Bool). first (full_rows b)) (sym (ap₂ ◌||◌ (lt-leb stored_polynomials stored few) (le-ltb capacity (used + n) m)));
      kept = λ _. e;
      untouched = λ h. absurd (h refl);
      same = ap length e ∙ (paste_within pool (used * term_words) (drop stated_at scratch) (n * term_words) long enough).same;
    }

  pub pool_stands : {r : Result Unit Refusal} {pool' : List ℕ} → PoolTakes stored used n capacity pool scratch r pool' → outcome r ≡ 0
      → (stored < stored_polynomials) × (used + n ≤ capacity)
  pool_stands k z =
      let few : Bool = leb stored_polynomials stored in
      let large : Bool = ltb capacity (used + n) in
      let f : (few || large) ≡ false = (first_open FULL (few || large) [] (omega arith) (sym k.verdict ∙ z)).0 in
      (leb-false stored_polynomials stored (or_none_left few large f), ltb-false capacity (used + n) (or_none_right few large f))

-- whether there is room, by the table's numbers
full_by_table : (s : Table) (pool : List ℕ) (capacity i n : ℕ) (l : List ℕ) → Fitting s pool capacity
    → overfull capacity (store_of s pool) (entry i (decode n l)) ≡ (leb stored_polynomials s.stored || ltb capacity (s.used + n))
unfolding overfull
full_by_table s pool capacity i n l f = rw (store_length s pool, store_terms s pool f.packed, decode_length n l)

-- ---- what the parts of a step ask for
module _ {capacity : ℕ} {s : State} {pool scratch scratch' : List ℕ} (room : Room capacity s pool scratch) {rows : Rows} {q : Poly} {made shown : ℕ} {c : Result Candidate Refusal}
    (m : CandidateIs rows q made shown scratch scratch' c) {n : Candidate} (e : c ≡ Ok n) where
  pub ask_reaches : (n.terms ≤ field_terms) × (s.goal_terms ≤ field_terms) × (least_scratch ≤ length scratch')
  ask_reaches = ((m.makes n e).few, room.ready.aim, omega (arith, m.same, room.ready.room))

  pub ask_store : Room capacity s pool scratch' × (n.terms ≤ field_terms) × (n.products ≤ line_products)
  ask_store = let d = m.makes n e in (room_kept m.same room, d.few, d.most)

pub ask_push : {capacity : ℕ} {s : State} {pool scratch : List ℕ} {n : ℕ} → Room capacity s pool scratch → n ≤ field_terms
    → {r : Result Unit Refusal} {pool' : List ℕ} → PoolTakes s.table.stored s.table.used n capacity pool scratch r pool' → outcome r ≡ 0 → Pushable s.table n
ask_push {s = s} room l k z =
    let t = s.table in
    let p = room.ready.fitting.packed in
    record {
      few = (pool_stands k z).0;
      start = omega (arith, used_short t.starts t.counts t.stored t.used p, p.few);
      short = l;
    }

-- ---- the step
module _ (capacity : ℕ) (s : State) (pool scratch : List ℕ) {st : Statement} {place x : ℕ} {rows : Rows} {q : Poly} {made shown : ℕ} {aim : Bool} {v : ℕ}
    (t : Stores capacity (state_of s pool scratch) st place x rows q made shown aim) (a : AdmitIs place s x v) where
  abbrev last : Rows
  last = full_rows (overfull capacity (store_of s.table pool) (entry x q))

  abbrev later : Rows
  later = rows ++ last

  -- the verdict: of `admit`, then of the rows between, then of the pool
  admitted : first (rules capacity (state_of s pool scratch) st) ≡ or_else v (first later)
  admitted = t.verdict ∙ first_append (admit_rows place s.phase (stored (store_of s.table pool) x)) later (omega arith, (omega arith, tt))
      ∙ ap (λ (u : ℕ). or_else u (first later)) (sym (a pool))

  made_of : {scratch' : List ℕ} {c : Result Candidate Refusal} → v ≡ 0 → CandidateIs rows q made shown scratch scratch' c
      → first (rules capacity (state_of s pool scratch) st) ≡ or_else (outcome c) (first last)
  made_of {c = c} z m =
      admitted ∙ ap (λ (u : ℕ). or_else u (first later)) z ∙ first_append rows last t.refusing ∙ ap (λ (u : ℕ). or_else u (first last)) (sym m.verdict)

module _ {capacity : ℕ} {s : State} {pool scratch : List ℕ} {st : Statement} {place x : ℕ} {rows : Rows} {q : Poly} {made shown : ℕ} {aim : Bool} {v : ℕ}
    (t : Stores capacity (state_of s pool scratch) st place x rows q made shown aim) (a : AdmitIs place s x v) where
  pub unadmitted : {why : Refusal} {r : Result Unit Refusal} → v ≡ number_of why → r ≡ Err why → Stepped capacity st s pool scratch r s pool scratch
  unadmitted {why} e h =
      stepped_refused why h (admitted capacity s pool scratch t a ∙ else_stop v (first (later capacity s pool scratch t a)) (λ z. refuses why (sym e ∙ z)) ∙ e) refl

  module _ (z : v ≡ 0) {scratch' : List ℕ} {c : Result Candidate Refusal} (m : CandidateIs rows q made shown scratch scratch' c) where
    pub unmade : {why : Refusal} {r : Result Unit Refusal} → c ≡ Err why → r ≡ Err why → Stepped capacity st s pool scratch r s pool scratch'
    unmade {why} e h =
        let u : outcome c ≡ number_of why = ap outcome e in
        stepped_refused why h (made_of capacity s pool scratch t a z m ∙ else_stop (outcome c) (first (last capacity s pool scratch t a)) (λ z. refuses why (sym u ∙ z)) ∙ u) m.same

    -- where it stands
    stood : {n : Candidate} → c ≡ Ok n → Room capacity s pool scratch → {reached : Bool} → reached ≡ aim
        → {r : Result Unit Refusal} {s' : State} {pool' : List ℕ} → StoredIs capacity x n reached s pool scratch' r s' pool' → outcome r ≡ 0
        → (state_of s' pool' scratch' ≡ after (state_of s pool scratch) st) × Ready capacity s' pool' scratch'
    stood {n} e room {reached} b {r} {s'} {pool'} k y =
        (ap (λ (u : State). state_of u pool' scratch') (k.next y) ∙ follows ∙ sym t.next, subst (λ (u : State). Ready capacity u pool' scratch') (sym (k.next y)) again)
      where
        o : Ready capacity s pool scratch
        o = room.ready

        d : MadeIs q made shown scratch' n
        d = m.makes n e

        stands : (s.table.stored < stored_polynomials) × (s.table.used + n.terms ≤ capacity)
        stands = pool_stands k.taken y

        p : Pushed s.table x n.terms s'.table
        p = k.pushed y

        from : ℕ
        from = s.table.used * term_words

        end : ℕ
        end = s.table.used * term_words + n.terms * term_words

        pasted : pool' ≡ paste pool from (drop stated_at scratch') (n.terms * term_words)
        pasted = k.taken.kept y

        long : end ≤ length pool
        long = omega (arith, o.fitting.words, stands.1)

        enough : n.terms * term_words ≤ length (drop stated_at scratch')
        enough = omega (arith, length-drop stated_at scratch', d.few, m.same, o.room)

        within : Within from end pool pool'
        within = subst (Within from end pool) (sym pasted) (paste_within pool from (drop stated_at scratch') (n.terms * term_words) long enough)

        store : store_of s'.table pool' ≡ store_of s.table pool ++ entry x q
        store = p.store pool'
            ∙ ap (λ (l : Store). l ++ entry x (decode n.terms (drop from pool'))) (store_kept s.table pool pool' from end o.fitting.packed within (omega arith))
            ∙ ap (λ (y : Poly). store_of s.table pool ++ entry x y)
            (ap (λ (l : List ℕ). decode n.terms (drop from l)) pasted ∙ decode_paste n.terms from pool (drop stated_at scratch') long enough ∙ d.run)

        follows : state_of (grown s s'.table n.seen reached (s.products + n.products)) pool' scratch' ≡ storing (state_of s pool scratch) x q made shown aim
        follows = λ i. record {
          phase = s.phase;
          ring = modulo s.ring;
          store = store i;
          seen = d.seen i;
          goal = decode s.goal_terms (m.goal i);
          reached = b i;
          products = s.products + d.count i;
        }

        again : Ready capacity (grown s s'.table n.seen reached (s.products + n.products)) pool' scratch'
        again = record {
          fitting = record { packed = p.packed; room = omega (arith, p.used, stands.1); words = omega (arith, within.same, o.fitting.words); most = o.fitting.most };
          room = omega (arith, m.same, o.room);
          aim = o.aim;
          ringed = o.ringed;
          opened = λ _. omega (arith, t.later, admitted_phase place s x a z);
          distinct = subst Distinct (sym store) (distinct_append (store_of s.table pool) (record { index = x; poly = q }) o.distinct (admitted_free place s x a z pool));
          few = omega (arith, o.few, d.most);
        }

    pub enters : {n : Candidate} → c ≡ Ok n → Room capacity s pool scratch → {reached : Bool} → reached ≡ aim
        → {r : Result Unit Refusal} {s' : State} {pool' : List ℕ} → StoredIs capacity x n reached s pool scratch' r s' pool' → Stepped capacity st s pool scratch r s' pool' scratch'
    enters {n} e room b {r} k = record {
      verdict = verdict;
      next = λ y. (stood e room b k y).0;
      ready = λ y. (stood e room b k y).1;
      lines = λ y. ap (λ (u : State). u.lines) (k.next y);
      back = k.back;
      untouched = k.taken.untouched;
      pool_length = k.taken.same;
      scratch_length = m.same;
    }
      where
        verdict : first (rules capacity (state_of s pool scratch) st) ≡ outcome r
        verdict =
            made_of capacity s pool scratch t a z m ∙ ap (λ (u : Result Candidate Refusal). or_else (outcome u) (first (last capacity s pool scratch t a))) e
            ∙ ap (λ (f : Bool). first (full_rows f))
            (ap (λ (p : Poly). overfull capacity (store_of s.table pool) (entry x p)) (sym (m.makes n e).run) ∙ full_by_table s.table pool capacity x n.terms (drop stated_at scratch') room.ready.fitting)
            ∙ sym k.taken.verdict

-- what `reaches` says is what the paper says
pub reached_too : {rows : Rows} {q : Poly} {made shown : ℕ} {s r : List ℕ} {c : Result Candidate Refusal} (before : Bool) (n : ℕ) {b : Bool} {d : Candidate}
    → CandidateIs rows q made shown s r c → c ≡ Ok d → b ≡ (before || equal (decode d.terms (drop stated_at r)) (decode n (drop goal_at r))) → b ≡ (before || equal q (decode n (drop goal_at s)))
reached_too before n {d = d} m z e = e ∙ ap₂ (λ (p : Poly) (l : List ℕ). before || equal p (decode n l)) ((m.makes d z).run) m.goal
