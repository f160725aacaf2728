-- A pass over three texts: its start, its texts in turn, and its end. Assumes nothing.
use mathlib.Core.Path.{◌≡◌, refl, sym, ap, ap₂, subst, ◌∙◌}
use mathlib.Core.Bool.{Bool, true, cond}
use mathlib.Core.List.{List, [], ◌++◌, map, append-nil}
use Prim.Native.Nat.{ℕ, suc, ◌+◌, ◌*◌, ◌≤◌, ◌<◌}
use native.Mathlib.Nat.{not-suc-le-zero}
use native.Mathlib.Numerals.{add-one}
use native.Mathlib.Omega.{arith}
use lib.Dec.{eqb}
use lib.ListN.{length}
use borrow.Author.Tests.{ne_eqb}
use Rattle.std.specs.Prelude.{Ok, Err}
use Rattle.ground.specs.Lists.{any, every, total, gather}
use Rattle.ground.proofs.Tests.{cond_no}
use Rattle.limits.specs.Limits.{variables, term_words, most_pool_terms, least_scratch}
use Rattle.limits.specs.Refusals.{number_of}
use Rattle.paper.specs.Grammar.{Bytes, Line, stuck}
use Rattle.paper.specs.Statement.{modulo, ring, fields, new_index, forgets, is_ring}
use Rattle.paper.specs.Rules as paper
use Rattle.paper.specs.Rules.{start, after, inputs, entries, makes_seen, without, product_count, holds_goal}
use Rattle.paper.specs.Answer.{run, ending, report}
use Rattle.paper.specs.Published.{Name, pieces, NamedItem, read_by, proof_step, target_items}
use Rattle.paper.specs.Named.{Texts, readable, with_names, numbering, numbered, named_items, published_items}
use Rattle.paper.proofs.Ranges.{ring_some, ring_most}
use Rattle.names.specs.declared.numbering.Numbering.{Numbering}
use Rattle.names.specs.Names.{slot_bytes, held, Holding, number_by}
use Rattle.checker.specs.declared.answer.Answer.{Answer}
use Rattle.checker.specs.Checked.{answer_of}
use Rattle.steps.specs.declared.state.State.{State}
use Rattle.steps.specs.State.{state_of, Ready, AtStart}
use Rattle.published.specs.Statements.{items_of}
use Rattle.triple.specs.declared.course.Refused.{Refused}
use Rattle.triple.specs.Courses.{BeginsAt, names_from, all_plain, counted_index, Underway, Onward, Turned}
use Rattle.triple.specs.Triple.{answer_in, PassIs}
use Rattle.triple.proofs.ReadItems.{items_constraints, items_target, items_steps}
use Rattle.triple.proofs.Starting.{no_pieces}
use Rattle.triple.proofs.Places.{pieces_some}
use Rattle.triple.proofs.Underway.{underway_other}

-- ---- the start: a fresh state, in the ring of k and past its line
abbrev at_ring : ℕ → State → State
at_ring k s = record {
  phase = 1;
  ring = k;
  table = s.table;
  seen = s.seen;
  goal_terms = s.goal_terms;
  reached = s.reached;
  products = s.products;
  lines = s.lines;
}

abbrev in_ring : ℕ → paper.State → paper.State
in_ring k s = record { phase = inputs; ring = modulo k; store = s.store; seen = s.seen; goal = s.goal; reached = s.reached; products = s.products }

ring_after : (k : ℕ) → in_ring k start ≡ after start (ring (modulo k))
unfolding start after entries makes_seen without product_count holds_goal forgets new_index fields any total gather paper.shows_all
ring_after k = refl

at_ring_ready : {capacity : ℕ} {s : State} {pool scratch : List ℕ} (k : ℕ) → is_ring (modulo k) ≡ true → Ready capacity s pool scratch → Ready capacity (at_ring k s) pool scratch
at_ring_ready k h o =
    record {
      fitting = o.fitting;
      room = o.room;
      aim = o.aim;
      ringed = λ _. (ring_some k h, ring_most k h);
      opened = λ _. omega arith;
      distinct = o.distinct;
      few = o.few;
    }

-- before the first statement, with k beside the texts
pub record Begun (k : ℕ) (s : State) : Type 0 where
  pub lines : s.lines ≡ 0
  pub state : (pool scratch : List ℕ) → state_of s pool scratch ≡ after start (ring (modulo k))
  pub ready : is_ring (modulo k) ≡ true → (capacity : ℕ) (pool scratch : List ℕ) → capacity * term_words ≤ length pool → capacity ≤ most_pool_terms → least_scratch ≤ length scratch
      → Ready capacity s pool scratch

pub begun : (k : ℕ) (s : State) → AtStart s → Begun k (at_ring k s)
begun k s f =
    record {
      lines = f.lines;
      state = λ pool scratch. ap (in_ring k) (f.state pool scratch) ∙ ring_after k;
      ready = λ q capacity pool scratch w m l. at_ring_ready k q (f.ready capacity pool scratch w m l);
    }

-- no name is held
pub holding_none : (room : Bytes) → variables * slot_bytes ≤ length room → Holding 0 room
unfolding held
holding_none room f = record { few = omega arith; fits = f; short = λ i h. absurd (not-suc-le-zero h); apart = λ i h. absurd (not-suc-le-zero h) }

-- ---- the items of three texts: those of the proof only where there is a target
abbrev pub of_constraints : Texts → List NamedItem
of_constraints t = items_of 0 (pieces t.constraints)

abbrev pub of_target : Texts → List NamedItem
of_target t = items_of 1 (pieces t.target)

abbrev pub of_proof : Texts → List NamedItem
of_proof t = items_of 3 (pieces t.proof)

pub items_by : (t : Texts) (rest : List NamedItem) → cond (eqb (length (target_items (pieces t.target))) 0) [] (map (read_by proof_step) (pieces t.proof)) ≡ rest
    → named_items t ≡ of_constraints t ++ (of_target t ++ rest)
unfolding named_items
items_by t rest e =
    ap₂ (λ (is js : List NamedItem). is ++ js) (sym (items_constraints (pieces t.constraints)))
    (ap₂ (λ (is js : List NamedItem). is ++ js) (sym (items_target (pieces t.target))) e)

module _ (t : Texts) {r : ℕ} (b : BeginsAt t.target 0 r) where
  pub items_without : r ≡ length t.target → named_items t ≡ of_constraints t ++ (of_target t ++ [])
  unfolding target_items
  items_without e =
      let p : pieces t.target ≡ [] = b.same ∙ no_pieces t.target r (omega arith) in
      items_by t [] (ap (λ (ls : List Line). cond (eqb (length (target_items ls)) 0) [] (map (read_by proof_step) (pieces t.proof))) p)

  pub items_with : (r ≡ length t.target → ⊥) → named_items t ≡ of_constraints t ++ (of_target t ++ of_proof t)
  unfolding target_items
  items_with n =
      let i = b.inside in
      let l : r < length t.target = omega arith in
      let p = pieces_some t.target r l (b.clear l) in
      items_by t (of_proof t)
      (ap (λ (ls : List Line). cond (eqb (length (target_items ls)) 0) [] (map (read_by proof_step) (pieces t.proof))) (b.same ∙ p.2)
      ∙ cond_no _ [] (map (read_by proof_step) (pieces t.proof)) (ne_eqb (suc (length (map (read_by (λ s. stuck s)) p.1))) 0 (λ z. omega arith)) ∙ sym (items_steps (pieces t.proof)))

-- ---- the texts in turn
module _ {capacity : ℕ} (t : Texts) {m₀ m : Numbering} {s₀ s : State} {pool₀ scratch₀ : List ℕ} where
  pub turned_by : {is : List NamedItem} {r : Refused} {l most : ℕ} → named_items t ≡ is → Turned capacity is m₀ s₀ pool₀ scratch₀ r m s l → l ≤ most → Turned capacity (named_items t) m₀ s₀ pool₀ scratch₀ r m s most
  turned_by {r = r} {most = most} e h k = subst (λ (is : List NamedItem). Turned capacity is m₀ s₀ pool₀ scratch₀ r m s most) (sym e) (record { packed = h.packed; few = omega (arith, h.few); same = h.same; gives = h.gives })

  pub onward_by : {is : List NamedItem} {pool scratch : List ℕ} {l most : ℕ} → named_items t ≡ is → Onward capacity is m₀ s₀ pool₀ scratch₀ [] m s pool scratch l → l ≤ most
      → Onward capacity (named_items t) m₀ s₀ pool₀ scratch₀ [] m s pool scratch most
  onward_by {pool = pool} {scratch} {most = most} e h k =
      subst (λ (is : List NamedItem). Onward capacity is m₀ s₀ pool₀ scratch₀ [] m s pool scratch most) (sym e)
      (record { ready = h.ready; few = omega (arith, h.few); same = h.same; plainly = h.plainly; onward = h.onward })

-- ---- the whole pass, from where no name is held
abbrev all_names : Texts → List Name
all_names t = with_names [] (names_from (named_items t))

module _ {capacity k : ℕ} (t : Texts) {m : Numbering} {s : State} {pool scratch : List ℕ} (b : Begun k s) (z : m.names ≡ 0) where
  at_first : m.plain ≡ all_plain (named_items t) → Underway capacity (all_names t) (answer_in capacity k t) (named_items t ++ []) m s pool scratch
  unfolding published_items numbering held
  at_first p =
      let is = named_items t in
      underway_other (sym (append-nil is)) (record {
        same = ap (λ (b : Bool). run capacity (after start (ring (modulo k))) 0 (map (numbered (number_by b (all_names t))) is)) (sym p)
            ∙ ap₂ (λ (s : paper.State) (n : ℕ). run capacity s n (map (numbered (number_by m.plain (all_names t))) is)) (sym (b.state pool scratch)) (sym b.lines);
        plainly = λ q. sym p ∙ q;
        places = λ _. ap (λ (n : ℕ). with_names (held n m.room.now) (names_from is)) (sym z);
      })

  -- where nothing is refused and names are taken as plain, they are
  pub plain_same : {m' : Numbering} {s' : State} {pool' scratch' : List ℕ} {most : ℕ} → Onward capacity (named_items t) m s pool scratch [] m' s' pool' scratch' most
      → m.plain ≡ true → all_plain (named_items t) ≡ true
  unfolding readable gather every
  plain_same o p = ap all_plain (sym (append-nil (named_items t))) ∙ o.plainly p []

  pub passed : {a : Answer} {m' : Numbering} {s' : State} {pool' scratch' : List ℕ} {most : ℕ} → Onward capacity (named_items t) m s pool scratch [] m' s' pool' scratch' most
      → ((pool scratch : List ℕ) → answer_of a ≡ ending (state_of s' pool scratch) s'.lines) → PassIs m.plain capacity k t (Ok a)
  unfolding run readable gather every
  passed {pool' = pool'} {scratch'} o e =
      record {
        answer = λ p. e pool' scratch' ∙ sym (o.onward (all_names t) (answer_in capacity k t) [] (at_first p)).same;
        stood = λ p _ _. plain_same o p;
      }

  pub turned : {a : Answer} {r : Refused} {m' : Numbering} {s' : State} {most : ℕ} → Turned capacity (named_items t) m s pool scratch r m' s' most
      → {v i : ℕ} → v ≡ number_of r.why → i ≡ counted_index v r.index → ((pool scratch : List ℕ) → answer_of a ≡ report (state_of s' pool scratch) v (s'.lines + 1) i)
      → PassIs m.plain capacity k t (Err a)
  turned {r = r} {s' = s'} o {v} {i} w j e =
      record {
        answer = λ p. e pool scratch ∙ ap (λ (n : ℕ). report (state_of s' pool scratch) v n i) (add-one s'.lines) ∙ ap (report (state_of s' pool scratch) v (suc s'.lines)) j
            ∙ ap (λ (v : ℕ). report (state_of s' pool scratch) v (suc s'.lines) (counted_index v r.index)) w
            ∙ sym (o.gives (all_names t) (answer_in capacity k t) [] (at_first p) pool scratch);
        stood = λ _ a q. absurd (let z : ⊥ = cc in z);
      }
