-- What makes a step: a refusal, a ring, and a deletion. Assumes nothing.
use mathlib.Core.Path.{◌≡◌, refl, sym, ap, subst, ◌∙◌}
use mathlib.Core.Bool.{Bool, true, false, not}
use mathlib.Core.List.{List, [], ◌∷◌}
use Prim.Native.Nat.{ℕ, ◌+◌}
use native.Mathlib.Omega.{arith}
use lib.Dec.{eqb}
use lib.ListN.{length, replicate}
use borrow.Author.Tests.{eq-eqb, ne_eqb}
use Rattle.limits.specs.Limits.{set_words}
use Rattle.limits.specs.Verdicts.{ORDER, MISSING}
use Rattle.limits.specs.Refusals as refusals
use Rattle.limits.specs.declared.refusal.Refusal.{Refusal}
use Rattle.limits.specs.declared.refusal.Refusal.TheVariants.{Order, Missing}
use Rattle.limits.proofs.Refusals.{refuses}
use Rattle.std.specs.Prelude.{Result, Ok, Err, IsErrAnd, Option, Some, None}
use Rattle.std.specs.Option.{ok_or}
use Rattle.words.specs.Words.{number_of}
use Rattle.terms.specs.Terms.{decode}
use Rattle.paper.specs.Statement.{modulo, Statement, ring, del, is_ring}
use Rattle.paper.specs.Rules.{first, Store, opening, inputs, steps, stored, Distinct, remove, start, rules}
use Rattle.paper.proofs.Ranges.{ring_some, ring_most}
use Rattle.paper.proofs.Store.{distinct_remove}
use Rattle.table.specs.declared.Table.{Table}
use Rattle.table.specs.Table.{store_of}
use Rattle.table.specs.Columns as table
use Rattle.table.specs.Columns.{Absent, FirstAt, Forgotten}
use Rattle.table.proofs.Laws.{store_length, absent_stored, found_stored, fresh_fitting}
use Rattle.table.proofs.Forgetting.{forgotten_fitting}
use Rattle.steps.specs.declared.state.State.{State}
use Rattle.steps.specs.State.{state_of, AtStart}
use Rattle.steps.specs.Stepped.{Room, Stepped}
use Rattle.steps.proofs.Rules.{first_ring, first_del}
use Rattle.steps.proofs.After.{after_ring, after_del}

-- ---- before the first line
pub at_start : (t : Table) → table.Fresh t → AtStart (record {
  phase = 0;
  ring = 0;
  table = t;
  seen = replicate set_words 0;
  goal_terms = 0;
  reached = false;
  products = 0;
  lines = 0;
})
unfolding start number_of decode
at_start t f = record {
  state = λ pool scratch. ap (λ (u : Store). record { phase = 0; ring = modulo 0; store = u; seen = 0; goal = []; reached = false; products = 0 }) (f.store pool);
  lines = refl;
  ready = λ capacity pool scratch w m l. record {
    fitting = fresh_fitting t pool capacity f w m;
    room = l;
    aim = omega arith;
    ringed = λ h. absurd (let z : ⊥ = omega arith in z);
    opened = λ h. absurd (let z : ⊥ = omega (arith, h, ap length (f.store []), store_length t []) in z);
    distinct = subst Distinct (sym (f.store pool)) tt;
    few = omega arith;
  };
  columns = f;
}

-- ---- a step
-- what a `?` hands on
pub passed_on : {A : Type 0} {r : Result A Refusal} {why : Refusal} → IsErrAnd r (λ w. w ≡ why) → r ≡ Err why
passed_on {r = Ok x} h = absurd h
passed_on {r = Err w} h = ap Err h

-- a step that refuses
pub stepped_refused : {capacity : ℕ} {st : Statement} {s : State} {pool scratch scratch' : List ℕ} {r : Result Unit Refusal} (why : Refusal) → r ≡ Err why
    → first (rules capacity (state_of s pool scratch) st) ≡ refusals.number_of why → length scratch' ≡ length scratch
    → Stepped capacity st s pool scratch r s pool scratch'
stepped_refused {r = r} why h e n =
    let v : refusals.outcome r ≡ refusals.number_of why = ap refusals.outcome h in
    record {
      verdict = e ∙ sym v;
      next = λ z. absurd (refuses why (sym v ∙ z));
      ready = λ z. absurd (refuses why (sym v ∙ z));
      lines = λ z. absurd (refuses why (sym v ∙ z));
      back = λ z. refl;
      untouched = λ z. refl;
      pool_length = refl;
      scratch_length = n;
    }

-- ---- in its phase
-- what the row of ORDER says, and those behind it
pub order_refuses : (place phase : ℕ) (rs : List (ℕ × Bool)) → (phase ≡ place → ⊥) → first ((ORDER, not (eqb place phase)) ∷ rs) ≡ ORDER
unfolding first
order_refuses place phase rs n = ap (λ (b : Bool). first ((ORDER, not b) ∷ rs)) (ne_eqb place phase (λ e. n (sym e)))

pub order_passes : (place phase : ℕ) (rs : List (ℕ × Bool)) → phase ≡ place → first ((ORDER, not (eqb place phase)) ∷ rs) ≡ first rs
unfolding first
order_passes place phase rs z = ap (λ (b : Bool). first ((ORDER, not b) ∷ rs)) (eq-eqb place phase (sym z))

-- ---- ring
abbrev ringed : State → ℕ → State
ringed s k = record {
  phase = inputs;
  ring = k;
  table = s.table;
  seen = s.seen;
  goal_terms = s.goal_terms;
  reached = s.reached;
  products = s.products;
  lines = s.lines + 1;
}

module _ {capacity : ℕ} {s : State} {pool scratch : List ℕ} {k : ℕ} where
  pub ring_misplaced : (s.phase ≡ opening → ⊥) → Stepped capacity (ring (modulo k)) s pool scratch (Err Order) s pool scratch
  ring_misplaced n = stepped_refused Order refl (first_ring capacity (state_of s pool scratch) (modulo k) ∙ order_refuses opening s.phase [] n) refl

  pub ring_stands : is_ring (modulo k) ≡ true → Room capacity s pool scratch → s.phase ≡ opening → Stepped capacity (ring (modulo k)) s pool scratch (Ok tt) (ringed s k) pool scratch
  unfolding first
  ring_stands h room z =
      let o = room.ready in
      record {
        verdict = first_ring capacity (state_of s pool scratch) (modulo k) ∙ order_passes opening s.phase [] z;
        next = λ _. sym (after_ring (state_of s pool scratch) (modulo k));
        ready = λ _. record {
          fitting = o.fitting;
          room = o.room;
          aim = o.aim;
          ringed = λ _. (ring_some k h, ring_most k h);
          opened = λ _. omega arith;
          distinct = o.distinct;
          few = omega (arith, o.few);
        };
        lines = λ _. refl;
        back = λ n. absurd (n refl);
        untouched = λ _. refl;
        pool_length = refl;
        scratch_length = refl;
      }

-- ---- del
-- what is looked for is found or not
pub some_place : {o : Option ℕ} {r : Result ℕ Refusal} {j : ℕ} → r ≡ ok_or o Missing → r ≡ Ok j → o ≡ Some j
some_place {o = None} e h = cc
some_place {o = Some i} e h = cc

pub no_place : {o : Option ℕ} {r : Result ℕ Refusal} {why : Refusal} → r ≡ ok_or o Missing → r ≡ Err why → (o ≡ None) × (why ≡ Missing)
no_place {o = None} e h = (refl, cc)
no_place {o = Some i} e h = cc

abbrev shrunk : State → Table → State
shrunk s t = record {
  phase = s.phase;
  ring = s.ring;
  table = t;
  seen = s.seen;
  goal_terms = s.goal_terms;
  reached = s.reached;
  products = s.products;
  lines = s.lines + 1;
}

-- in its phase, by whether the index is stored
del_verdict : (capacity : ℕ) (s : State) (pool scratch : List ℕ) (x : ℕ) → s.phase ≡ steps → (b : Bool) → stored (store_of s.table pool) x ≡ b
    → first (rules capacity (state_of s pool scratch) (del x)) ≡ first ((MISSING, not b) ∷ [])
del_verdict capacity s pool scratch x z b e =
    first_del capacity (state_of s pool scratch) x ∙ order_passes steps s.phase ((MISSING, not (stored (store_of s.table pool) x)) ∷ []) z
    ∙ ap (λ (b : Bool). first ((MISSING, not b) ∷ [])) e

module _ {capacity : ℕ} {s : State} {pool scratch : List ℕ} {x : ℕ} where
  pub del_misplaced : (s.phase ≡ steps → ⊥) → Stepped capacity (del x) s pool scratch (Err Order) s pool scratch
  del_misplaced n =
      stepped_refused Order refl
      (first_del capacity (state_of s pool scratch) x ∙ order_refuses steps s.phase ((MISSING, not (stored (store_of s.table pool) x)) ∷ []) n) refl

  pub del_missing : {r : Result Unit Refusal} → s.phase ≡ steps → Absent s.table.indices s.table.stored x → r ≡ Err Missing → Stepped capacity (del x) s pool scratch r s pool scratch
  unfolding first
  del_missing z f e =
      stepped_refused Missing e (del_verdict capacity s pool scratch x z false (absent_stored s.table.indices s.table.starts s.table.counts pool s.table.stored x f)) refl

  pub del_stands : (t : Table) (left : List ℕ) (j : ℕ) → Room capacity s pool scratch → s.phase ≡ steps → FirstAt s.table.indices s.table.stored x j
      → Forgotten s.table pool j t left → Stepped capacity (del x) s pool scratch (Ok tt) (shrunk s t) left scratch
  unfolding first
  del_stands t left j room z a f =
      let o = room.ready in
      let q : store_of t left ≡ remove (store_of s.table pool) x = f.store x a in
      record {
        verdict = del_verdict capacity s pool scratch x z true (found_stored s.table.indices s.table.starts s.table.counts pool s.table.stored x j a);
        next = λ _. ap (λ (u : Store). record {
          phase = s.phase;
          ring = modulo s.ring;
          store = u;
          seen = (state_of s pool scratch).seen;
          goal = (state_of s pool scratch).goal;
          reached = s.reached;
          products = s.products;
        }) q ∙ sym (after_del (state_of s pool scratch) x);
        ready = λ _. record {
          fitting = forgotten_fitting s.table t pool left capacity j o.fitting f;
          room = o.room;
          aim = o.aim;
          ringed = o.ringed;
          opened = λ _. omega (arith, z);
          distinct = subst Distinct (sym q) (distinct_remove (store_of s.table pool) x o.distinct);
          few = omega (arith, o.few);
        };
        lines = λ _. refl;
        back = λ n. absurd (n refl);
        untouched = λ n. absurd (n refl);
        pool_length = f.same;
        scratch_length = refl;
      }
