-- What the contracts of `steps` decide. Of a new state: all. Of a step, and of a judged item: the verdict; where it refuses, the state and the pool;
-- where it accepts, all numbers of the state and what columns, pool and goal stand for. What columns, pool and scratch hold beside
-- that is left open. Assumes nothing.
use mathlib.Core.Path.{◌≡◌, refl, sym, ap, ◌∙◌}
use mathlib.Core.List.{List, []}
use Prim.Native.Nat.{ℕ, ◌+◌}
use lib.ListN.{length, drop}
use Rattle.std.specs.Prelude.{Result, Ok, Err}
use Rattle.limits.specs.Limits.{set_words}
use Rattle.limits.specs.Refusals.{outcome}
use Rattle.limits.specs.declared.refusal.Refusal.{Refusal}
use Rattle.limits.proofs.Refusals.{refuses, one_refusal}
use Rattle.words.proofs.Laws.{Words}
use Rattle.words.proofs.Decided.{one_set}
use Rattle.terms.proofs.Decode.{decode_length}
use Rattle.paper.specs.Rules as paper
use Rattle.paper.specs.Rules.{stored_terms}
use Rattle.paper.specs.Statement.{bits, Statement}
use Rattle.paper.specs.Answer.{stands, refused, Item}
use Rattle.table.specs.Table.{store_of, Packed}
use Rattle.table.proofs.Laws.{store_length, store_terms}
use Rattle.table.proofs.Decided.{one_table}
use Rattle.scratch.specs.Scratch.{goal_at}
use Rattle.steps.specs.declared.state.State.{State}
use Rattle.steps.specs.State.{state_of, Ready, AtStart}
use Rattle.steps.specs.Stepped.{Stepped}
use Rattle.steps.specs.Items.{ItemJudged}

-- a set in words, as its type has it
abbrev pub IsSet : List ℕ → Type 0
IsSet a = (length a ≡ set_words) × Words a

-- ---- two states that stand for one state of the paper
pub record SameNumbers (s t : State) : Type 0 where
  pub phase : s.phase ≡ t.phase
  pub ring : s.ring ≡ t.ring
  pub stored : s.table.stored ≡ t.table.stored
  pub used : s.table.used ≡ t.table.used
  pub seen : s.seen ≡ t.seen
  pub goal : s.goal_terms ≡ t.goal_terms
  pub reached : s.reached ≡ t.reached
  pub products : s.products ≡ t.products
  pub lines : s.lines ≡ t.lines

pub same_numbers : (s t : State) (pool pool' scratch scratch' : List ℕ) → IsSet s.seen → IsSet t.seen → Packed s.table → Packed t.table
    → s.lines ≡ t.lines → state_of s pool scratch ≡ state_of t pool' scratch' → SameNumbers s t
same_numbers s t pool pool' scratch scratch' u w p q l e =
    let store : store_of s.table pool ≡ store_of t.table pool' = ap (λ (x : paper.State). x.store) e in
    record {
      phase = ap (λ (x : paper.State). x.phase) e;
      ring = ap (λ (x : paper.State). bits x.ring) e;
      stored = sym (store_length s.table pool) ∙ ap length store ∙ store_length t.table pool';
      used = sym (store_terms s.table pool p) ∙ ap stored_terms store ∙ store_terms t.table pool' q;
      seen = one_set s.seen t.seen u.0 w.0 u.1 w.1 (ap (λ (x : paper.State). x.seen) e);
      goal = sym (decode_length s.goal_terms (drop goal_at scratch)) ∙ ap (λ (x : paper.State). length x.goal) e
          ∙ decode_length t.goal_terms (drop goal_at scratch');
      reached = ap (λ (x : paper.State). x.reached) e;
      products = ap (λ (x : paper.State). x.products) e;
      lines = l;
    }

-- ---- `step_ring`, `step_input`, `step_goal`, `step_lin`, `step_del`, `step_ext`, which give r and q, and leave s and t
pub record SameStep (r q : Result Unit Refusal) (s t : State) (pool pool' scratch scratch' : List ℕ) : Type 0 where
  pub result : r ≡ q
  pub refused : (outcome r ≡ 0 → ⊥) → (s ≡ t) × (pool ≡ pool')
  pub numbers : outcome r ≡ 0 → SameNumbers s t
  pub meaning : outcome r ≡ 0 → state_of s pool scratch ≡ state_of t pool' scratch'
  pub pool_length : length pool ≡ length pool'
  pub scratch_length : length scratch ≡ length scratch'

one_outcome : (r q : Result Unit Refusal) → outcome r ≡ outcome q → r ≡ q
one_outcome (Ok x) (Ok y) e = refl
one_outcome (Ok x) (Err w) e = absurd (refuses w (sym e))
one_outcome (Err v) (Ok y) e = absurd (refuses v e)
one_outcome (Err v) (Err w) e = ap Err (one_refusal v w e)

-- what both a step and a judged item leave
record Left (capacity : ℕ) (s : State) (pool scratch : List ℕ) (r : Result Unit Refusal) (t : State) (pool' scratch' : List ℕ) : Type 0 where
  ready : outcome r ≡ 0 → Ready capacity t pool' scratch'
  lines : outcome r ≡ 0 → t.lines ≡ s.lines + 1
  back : (outcome r ≡ 0 → ⊥) → t ≡ s
  untouched : (outcome r ≡ 0 → ⊥) → pool' ≡ pool
  pool_length : length pool' ≡ length pool
  scratch_length : length scratch' ≡ length scratch

left_alike : {capacity : ℕ} {s : State} {pool scratch : List ℕ} {r q : Result Unit Refusal} {t u : State} {pool' pool'' scratch' scratch'' : List ℕ} → IsSet t.seen → IsSet u.seen
    → outcome r ≡ outcome q → (outcome r ≡ 0 → state_of t pool' scratch' ≡ state_of u pool'' scratch'')
    → Left capacity s pool scratch r t pool' scratch' → Left capacity s pool scratch q u pool'' scratch'' → SameStep r q t u pool' pool'' scratch' scratch''
left_alike {r = r} {q} {t} {u} {pool'} {pool''} {scratch'} {scratch''} f g v meaning x y =
    record {
      result = one_outcome r q v;
      refused = λ n. (x.back n ∙ sym (y.back (λ e. n (v ∙ e))), x.untouched n ∙ sym (y.untouched (λ e. n (v ∙ e))));
      numbers = λ e. same_numbers t u pool' pool'' scratch' scratch'' f g (x.ready e).fitting.packed (y.ready (sym v ∙ e)).fitting.packed (x.lines e ∙ sym (y.lines (sym v ∙ e))) (meaning e);
      meaning = meaning;
      pool_length = x.pool_length ∙ sym y.pool_length;
      scratch_length = x.scratch_length ∙ sym y.scratch_length;
    }

pub steps_alike : (capacity : ℕ) (st : Statement) (s : State) (pool scratch : List ℕ) (r q : Result Unit Refusal) (t u : State) (pool' pool'' scratch' scratch'' : List ℕ)
    → IsSet t.seen → IsSet u.seen → Stepped capacity st s pool scratch r t pool' scratch' → Stepped capacity st s pool scratch q u pool'' scratch''
    → SameStep r q t u pool' pool'' scratch' scratch''
steps_alike capacity st s pool scratch r q t u pool' pool'' scratch' scratch'' f g x y =
    let v : outcome r ≡ outcome q = sym x.verdict ∙ y.verdict in
    left_alike f g v (λ e. x.next e ∙ sym (y.next (sym v ∙ e))) (left x) (left y)
  where
    left : {r : Result Unit Refusal} {t : State} {pool' scratch' : List ℕ} → Stepped capacity st s pool scratch r t pool' scratch' → Left capacity s pool scratch r t pool' scratch'
    left x = record { ready = x.ready; lines = x.lines; back = x.back; untouched = x.untouched; pool_length = x.pool_length; scratch_length = x.scratch_length }

-- ---- `State::judge`
one_stand : {s t : paper.State} → stands s ≡ stands t → s ≡ t
one_stand e = cc

one_refused : {v i w j : ℕ} → refused v i ≡ refused w j → v ≡ w
one_refused e = cc

not_both : {s : paper.State} {v i : ℕ} → stands s ≡ refused v i → ⊥
not_both e = cc

pub judged_alike : (capacity : ℕ) (i : Item) (s : State) (pool scratch : List ℕ) (r q : Result Unit Refusal) (t u : State) (pool' pool'' scratch' scratch'' : List ℕ)
    → IsSet t.seen → IsSet u.seen → ItemJudged capacity i s pool scratch r t pool' scratch' → ItemJudged capacity i s pool scratch q u pool'' scratch''
    → SameStep r q t u pool' pool'' scratch' scratch''
judged_alike capacity i s pool scratch r q t u pool' pool'' scratch' scratch'' f g x y =
    let v : outcome r ≡ outcome q = verdict r q x y in
    left_alike f g v (λ e. one_stand (sym (x.stands e) ∙ y.stands (sym v ∙ e))) (left x) (left y)
  where
    left : {r : Result Unit Refusal} {t : State} {pool' scratch' : List ℕ} → ItemJudged capacity i s pool scratch r t pool' scratch' → Left capacity s pool scratch r t pool' scratch'
    left x = record { ready = x.ready; lines = x.lines; back = x.back; untouched = x.untouched; pool_length = x.pool_length; scratch_length = x.scratch_length }

    verdict : (r q : Result Unit Refusal) → ItemJudged capacity i s pool scratch r t pool' scratch' → ItemJudged capacity i s pool scratch q u pool'' scratch'' → outcome r ≡ outcome q
    verdict (Ok x) (Ok y) a b = refl
    verdict (Ok x) (Err w) a b = absurd (not_both (sym (a.stands refl) ∙ b.refused (refuses w)))
    verdict (Err v) (Ok y) a b = absurd (not_both (sym (b.stands refl) ∙ a.refused (refuses v)))
    verdict (Err v) (Err w) a b = one_refused (sym (a.refused (refuses v)) ∙ b.refused (refuses w))

-- ---- `State::new`
pub one_state : (s t : State) → IsSet s.seen → IsSet t.seen → AtStart s → AtStart t → s ≡ t
one_state s t u w x y = λ i. record {
  phase = same.phase i;
  ring = same.ring i;
  table = one_table s.table t.table x.columns y.columns i;
  seen = same.seen i;
  goal_terms = same.goal i;
  reached = same.reached i;
  products = same.products i;
  lines = same.lines i;
}
  where
    same : SameNumbers s t
    same =
        same_numbers s t [] [] [] [] u w x.columns.packed y.columns.packed (x.lines ∙ sym y.lines) (x.state [] [] ∙ sym (y.state [] []))
