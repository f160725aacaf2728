-- A text that is run line by line: what holds before each line, and the answer. Assumes nothing.
use mathlib.Core.Path.{◌≡◌, sym, ap, ap₂, subst, ◌∙◌}
use mathlib.Core.Bool.{false, true}
use mathlib.Core.List.{List, ◌∷◌, map}
use Prim.Native.Nat.{ℕ, suc, ◌+◌, ◌-◌, ◌≤◌, ◌<◌}
use native.Mathlib.Numerals.{add-one}
use native.Mathlib.Omega.{arith}
use lib.Dec.{ltb}
use lib.ListN.{length, drop, drop_of_length-le}
use borrow.Author.Tests.{eq-eqb, ne_eqb}
use Rattle.std.specs.Prelude.{Result, Err}
use Rattle.limits.specs.Limits.{text_bytes}
use Rattle.limits.specs.Refusals.{number_of, outcome}
use Rattle.limits.specs.Verdicts.{ACCEPTED, TERMS, NOGOAL, NOTREACHED}
use Rattle.limits.specs.declared.refusal.Refusal.{Refusal}
use Rattle.limits.proofs.Refusals.{refuses}
use Rattle.lines.proofs.Indexing.{refused_read}
use Rattle.words.specs.Parts.{part}
use Rattle.paper.specs.Grammar.{Bytes, Line, got, ended_by, lines, statement}
use Rattle.paper.specs.Statement.{Statement, numbers_in_range}
use Rattle.paper.specs.Rules as paper
use Rattle.paper.specs.Rules.{steps, start}
use Rattle.paper.specs.Answer as answers
use Rattle.paper.specs.Answer.{item_of, items, judge_item, refused}
use Rattle.paper.proofs.Running.{run_stands, run_refused}
use Rattle.reader.specs.Search.{LineEnd}
use Rattle.reader.proofs.Search.{next_ended}
use Rattle.table.specs.Table.{Packed}
use Rattle.table.proofs.Laws.{store_length, store_terms}
use Rattle.steps.specs.declared.state.State.{State}
use Rattle.steps.specs.State.{state_of, Ready, AtStart}
use Rattle.steps.specs.Stepped.{Room}
use Rattle.steps.specs.Items.{index_of_read, ItemJudged}
use Rattle.checker.specs.Checked.{Rooms}

-- ---- answers
counts : {v n i p m t k l : ℕ} → m ≡ k → t ≡ l → ◌≡◌ {A = answers.Answer} (record { verdict = v; line = n; index = i; products = p; polynomials = m; terms = t }) (record { verdict = v; line = n; index = i; products = p; polynomials = k; terms = l })
counts e f = cc

pub reports : (s : State) → Packed s.table → (v n i : ℕ) (pool scratch : List ℕ)
    → record { verdict = v; line = n; index = i; products = s.products; polynomials = s.table.stored; terms = s.table.used } ≡ answers.report (state_of s pool scratch) v n i
unfolding answers.report
reports s p v n i pool scratch = counts (sym (store_length s.table pool)) (sym (store_terms s.table pool p))

-- a report hangs on no room
pub reports_same : {s s' : State} → s' ≡ s → Packed s.table → (v i : ℕ) (p q pool scratch : List ℕ)
    → answers.report (state_of s' p q) v (suc s'.lines) i ≡ answers.report (state_of s pool scratch) v (suc s.lines) i
reports_same {s} e f v i p q pool scratch =
    ap (λ (x : State). answers.report (state_of x p q) v (suc x.lines) i) e ∙ sym (reports s f v (suc s.lines) i p q) ∙ reports s f v (suc s.lines) i pool scratch

module _ {a : answers.Answer} (s : paper.State) (n : ℕ) where
  pub ends_without : (s.phase ≡ steps → ⊥) → a ≡ answers.report s NOGOAL n 0 → a ≡ answers.ending s n
  unfolding answers.ending
  ends_without h e = rw (ne_eqb s.phase steps h) e

  pub ends_short : s.phase ≡ steps → s.reached ≡ false → a ≡ answers.report s NOTREACHED n 0 → a ≡ answers.ending s n
  unfolding answers.ending answers.report
  ends_short h r e = rw (eq-eqb s.phase steps h, r) e

  pub ends_well : s.phase ≡ steps → s.reached ≡ true → a ≡ answers.report s ACCEPTED 0 0 → a ≡ answers.ending s n
  unfolding answers.ending answers.report
  ends_well h r e = rw (eq-eqb s.phase steps h, r) e

-- ---- the next line, which stands from `at` up to e
abbrev pub line_at : Bytes → ℕ → ℕ → Line
line_at text at e = record { content = part at (e - at) text; ended = ltb e (length text) }

next_line : {text : Bytes} {at e : ℕ} → LineEnd text at e → at < length text → lines (drop at text) ≡ line_at text at e ∷ lines (drop (e + 1) text)
unfolding lines
next_line {text} {at} {e} h l = next_ended 10 text at e h.ended (h.last l)

next_item : {text : Bytes} {at e : ℕ} → LineEnd text at e → at < length text → items (drop at text) ≡ item_of (line_at text at e) ∷ items (drop (e + 1) text)
unfolding items
next_item h l = ap (map item_of) (next_line h l)

-- ---- between two lines: what is still to be run gives the answer, and there is room for it
pub record Onward (capacity : ℕ) (text : Bytes) (s : State) (at : ℕ) (pool scratch : List ℕ) : Type 0 where
  pub same : answers.run capacity start 0 (items text) ≡ answers.run capacity (state_of s pool scratch) s.lines (items (drop at text))
  pub ready : Ready capacity s pool scratch
  pub few : s.lines ≤ at
  pub inside : at ≤ length text + 1

module _ {capacity : ℕ} {text : Bytes} {s : State} {pool scratch : List ℕ} where
  pub onward_start : AtStart s → Rooms capacity pool scratch → Onward capacity text s 0 pool scratch
  onward_start f r =
      let n = f.lines in
      record {
        same = ap₂ (λ (x : paper.State) (n : ℕ). answers.run capacity x n (items text)) (sym (f.state pool scratch)) (sym f.lines);
        ready = f.ready capacity pool scratch r.words r.most r.least;
        few = omega arith;
        inside = omega arith;
      }

  module _ {at : ℕ} (o : Onward capacity text s at pool scratch) where
    pub onward_room : at < length text → length text ≤ text_bytes → Room capacity s pool scratch
    onward_room l m = let f = o.few in record { ready = o.ready; early = omega arith }

    -- behind the last line
    pub onward_end : length text ≤ at → {a : answers.Answer} → a ≡ answers.ending (state_of s pool scratch) s.lines → a ≡ answers.run capacity start 0 (items text)
    unfolding answers.run items lines ended_by
    onward_end l e = e ∙ sym (o.same ∙ ap (λ (t : Bytes). answers.run capacity (state_of s pool scratch) s.lines (items t)) (drop_of_length-le text l))

    module _ (l : at < length text) {e : ℕ} (h : LineEnd text at e) {r : Result Unit Refusal} {s' : State} {pool' scratch' : List ℕ}
        (j : ItemJudged capacity (item_of (line_at text at e)) s pool scratch r s' pool' scratch') where
      onto : answers.run capacity start 0 (items text) ≡ answers.run capacity (state_of s pool scratch) s.lines (item_of (line_at text at e) ∷ items (drop (e + 1) text))
      onto = o.same ∙ ap (answers.run capacity (state_of s pool scratch) s.lines) (next_item h l)

      -- a line that stands leads on
      pub onward_more : outcome r ≡ 0 → Onward capacity text s' (e + 1) pool' scratch'
      onward_more z =
          let f = o.few in
          let n = j.lines z in
          let p = h.onward in
          let i = h.inside in
          let c : suc s.lines ≡ s'.lines = omega arith in
          record {
            same = onto ∙ run_stands capacity (state_of s pool scratch) s.lines (item_of (line_at text at e)) (items (drop (e + 1) text)) (state_of s' pool' scratch') (j.stands z)
                ∙ ap (λ (n : ℕ). answers.run capacity (state_of s' pool' scratch') n (items (drop (e + 1) text))) c;
            ready = j.ready z;
            few = omega arith;
            inside = omega arith;
          }

      -- a refused one gives the answer
      module _ {why : Refusal} (q : r ≡ Err why) where
        not_stands : outcome r ≡ 0 → ⊥
        not_stands z = refuses why (sym (ap outcome q) ∙ z)

        pub turned_packed : Packed s'.table
        turned_packed = subst (λ (x : State). Packed x.table) (sym (j.back not_stands)) o.ready.fitting.packed

        pub turned_few : s'.lines ≤ at
        turned_few = subst (λ (x : State). x.lines ≤ at) (sym (j.back not_stands)) o.few

        module _ {v : ℕ} (w : v ≡ number_of why) where
          refusal : outcome r ≡ v
          refusal = ap outcome q ∙ sym w

          refused_with : judge_item capacity (state_of s pool scratch) (item_of (line_at text at e)) ≡ refused v (index_of_read v (statement (line_at text at e)))
          unfolding item_of
          refused_with = subst (λ (v : ℕ). judge_item capacity (state_of s pool scratch) (item_of (line_at text at e)) ≡ refused v (index_of_read v (statement (line_at text at e)))) refusal (j.refused not_stands)

          pub turned_read : TERMS ≤ v → (st : Statement) × (t : Bytes) × (statement (line_at text at e) ≡ got st t) × (numbers_in_range st ≡ true)
          turned_read = refused_read capacity (state_of s pool scratch) (line_at text at e) refused_with

          pub turned_answer : {i : ℕ} → i ≡ index_of_read v (statement (line_at text at e)) → {a : answers.Answer} → a ≡ answers.report (state_of s' pool' scratch') v (s'.lines + 1) i
              → a ≡ answers.run capacity start 0 (items text)
          turned_answer {i} f g =
              g ∙ ap (λ (n : ℕ). answers.report (state_of s' pool' scratch') v n i) (add-one s'.lines)
              ∙ reports_same (j.back not_stands) o.ready.fitting.packed v i pool' scratch' pool scratch
              ∙ ap (answers.report (state_of s pool scratch) v (suc s.lines)) f
              ∙ sym (onto ∙ run_refused capacity (state_of s pool scratch) s.lines (item_of (line_at text at e)) (items (drop (e + 1) text)) v _ refused_with)
