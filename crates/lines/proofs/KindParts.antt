-- Lines of each kind from their parts. Assumes nothing.
use mathlib.Core.Path.{◌≡◌, refl, sym, ap, ap₂, ◌∙◌}
use mathlib.Core.Bool.{Bool, true, ◌&&◌}
use mathlib.Core.List.{List}
use Prim.Native.Nat.{ℕ, ◌+◌, ◌-◌, ◌*◌}
use Rattle.std.specs.Prelude.{Ok}
use Rattle.ground.specs.Lists.{every, any}
use Rattle.limits.specs.Limits.{variables, greatest_ring, greatest_index, field_terms, term_words}
use Rattle.words.specs.Parts.{Within}
use Rattle.words.proofs.Parts.{within_refl, within_trans}
use Rattle.paper.specs.Grammar.{Bytes, bytes, Reader, next, literal, number, field, pairs, ring_line, input_line, goal_line, lin_line, del_line, ext_line}
use Rattle.paper.specs.Statement.{modulo, Statement, ring, input, goal, lin, del, ext, fields, within, is_index, is_variable, in_range}
use Rattle.paper.specs.Rules.{Store}
use Rattle.paper.proofs.Reading.{next_assoc}
use Rattle.written.specs.Worded.{Holds}
use Rattle.reader.specs.Places.{Got, Fails}
use Rattle.reader.specs.declared.field.FieldRead.{FieldRead}
use Rattle.reader.specs.Verdicts.{verdict_of, lesser_of}
use Rattle.reader.proofs.Following.{got_then, fails_then, fails_first, got_give}
use Rattle.reader.proofs.Fields.{variable_range}
use Rattle.reader.proofs.Verdicts.{verdict_two, lesser_accepted}
use Rattle.scratch.specs.Scratch.{stated_at, goal_at, Kept}
use Rattle.scratch.proofs.Keeping.{stated_kept, holds_kept}
use Rattle.sums.specs.Sums.{Summed}
use Rattle.steps.specs.declared.said.Said.TheVariants.{Ring, Input, Goal, Lin, Del, Ext}
use Rattle.lines.specs.Parts.{always, few_terms, pair_ranged, pair_few, Taken, keyed}
use Rattle.lines.specs.Lines.{KindIs}
use Rattle.lines.specs.declared.part.NumberRead.{NumberRead}
use Rattle.lines.specs.declared.pairs.PairsRead.{PairsRead}
use Rattle.lines.proofs.Parts.{got_as, fails_as}
use Rattle.lines.proofs.LineKinds.{headed_by, kind_taken}
use Rattle.lines.proofs.Statements.{ranged_ring, ranged_input, ranged_goal, ranged_lin, ranged_del, ranged_ext, few_in_fields, few_one, few_lin}

-- ---- a keyword, a first part, and what G reads behind them
module _ (w : Bytes) {A : Type 0} (read : Reader A) (G : A → Reader Statement) where
  in_row : (s : Bytes) → keyed w (λ r. next (read r) G) s ≡ next (keyed w read s) G
  in_row s = sym (next_assoc (literal w s) (λ _. read) G)

  behind_got : {s : Bytes} {x : A} {m : ℕ} {st : Statement} {e : ℕ} → Got (keyed w read) s 0 x m → Got (G x) s m st e → Got (keyed w (λ r. next (read r) G)) s 0 st e
  behind_got {s} g h = got_as (in_row s) (got_then (keyed w read) G g h)

  module _ {s : Bytes} where
    pub first_stops : {p : ℕ} → Fails (keyed w read) s 0 p → Fails (headed_by (w, λ r. next (read r) G)) s 0 p
    first_stops f = fails_as (in_row s) (fails_first (keyed w read) G f)

    pub later_stops : {x : A} {m p : ℕ} → Got (keyed w read) s 0 x m → Fails (G x) s m p → Fails (headed_by (w, λ r. next (read r) G)) s 0 p
    later_stops g f = fails_as (in_row s) (fails_then (keyed w read) G g f)

-- ---- words
pub both_kept : {s x r : List ℕ} → Within stated_at (stated_at + field_terms * term_words) s x → Kept x r → Within 0 goal_at s r
both_kept w k = within_trans (stated_kept w) (record { before = refl; after = k.goal; same = k.same })

-- ---- the kinds; a number behind a keyword, and one behind a tab
abbrev Head : Bytes → (ℕ → Bool) → Bytes → NumberRead → Type 0
Head w ranged s i = Taken (keyed w number) ranged always (λ n. i.value ≡ n) s 0 i.end i.why

abbrev FieldStands : Bytes → ℕ → List ℕ → FieldRead → Type 0
FieldStands s at words p = Taken field in_range few_terms (λ w. Holds w p.terms stated_at words) s at p.end p.why

module _ {k : ℕ} {store : Store} {s : Bytes} {words : List ℕ} where
  pub ring_line_law : (n : NumberRead) → Head (bytes "ring") (within 1 greatest_ring) s n
      → KindIs k store ring_line s words words (Ok (record { said = Ring n.value; end = n.end; why = n.why }))
  unfolding few_in_fields fields any
  ring_line_law n h =
      kind_taken ring_line within_refl _
      (record {
        value = ring (modulo h.value);
        taken = behind_got (bytes "ring") number _ h.taken (got_give (ring (modulo h.value)) h.taken.inside);
        verdict = h.verdict ∙ ap (λ (b : Bool). verdict_of b true) (ranged_ring h.value);
        holds = λ a. ap (λ (n : ℕ). ring (modulo n)) (sym (h.holds a));
      })

  pub del_line_law : (i : NumberRead) → Head (bytes "del") (within 1 greatest_index) s i
      → KindIs k store del_line s words words (Ok (record { said = Del i.value; end = i.end; why = i.why }))
  unfolding few_in_fields fields any is_index
  del_line_law i h =
      kind_taken del_line within_refl _
      (record {
        value = del h.value;
        taken = behind_got (bytes "del") number _ h.taken (got_give (del h.value) h.taken.inside);
        verdict = h.verdict ∙ ap (λ (b : Bool). verdict_of b true) (ranged_del h.value);
        holds = λ a. ap (λ (n : ℕ). del n) (sym (h.holds a));
      })

  module _ {words' : List ℕ} (p : FieldRead) (kept : Within stated_at (stated_at + field_terms * term_words) words words') where
    pub goal_line_law : {m : ℕ} → Got (literal (bytes "goal")) s 0 tt m → FieldStands s m words' p
        → KindIs k store goal_line s words words' (Ok (record { said = Goal p.terms; end = p.end; why = p.why }))
    unfolding few_in_fields fields
    goal_line_law w f =
        kind_taken goal_line (stated_kept kept) _
        (record {
          value = goal f.value;
          taken = got_then (literal (bytes "goal")) _ w (got_then field _ f.taken (got_give (goal f.value) f.taken.inside));
          verdict = f.verdict ∙ ap₂ verdict_of (ranged_goal f.value) (few_one f.value);
          holds = λ a. (f.value, refl, f.holds a);
        })

    pub input_line_law : (i : NumberRead) {why : ℕ} → Head (bytes "in") (within 1 greatest_index) s i → FieldStands s i.end words' p → why ≡ lesser_of i.why p.why
        → KindIs k store input_line s words words' (Ok (record { said = Input i.value p.terms; end = p.end; why = why }))
    unfolding is_index few_in_fields fields
    input_line_law i h f l =
        kind_taken input_line (stated_kept kept) _
        (record {
          value = input h.value f.value;
          taken = behind_got (bytes "in") number _ h.taken (got_then field _ f.taken (got_give (input h.value f.value) f.taken.inside));
          verdict = verdict_two (is_index h.value) (in_range f.value) true (few_terms f.value) l h.verdict f.verdict
              ∙ ap₂ verdict_of (ranged_input h.value f.value) (few_one f.value);
          holds = λ a.
              let b = lesser_accepted i.why p.why (sym l ∙ a) in
              (f.value, ap (λ (n : ℕ). input n f.value) (sym (h.holds b.0)), f.holds b.1);
        })

    pub ext_line_law : (i v : NumberRead) {numbers why : ℕ} → Head (bytes "ext") (within 1 greatest_index) s i
        → Taken number (within 0 (variables - 1)) always (λ n. v.value ≡ n) s i.end v.end v.why → FieldStands s v.end words' p
        → numbers ≡ lesser_of i.why v.why → why ≡ lesser_of numbers p.why
        → KindIs k store ext_line s words words' (Ok (record { said = Ext i.value v.value p.terms; end = p.end; why = why }))
    unfolding is_index few_in_fields fields
    ext_line_law i v {numbers} h g f l m =
        let st = ext h.value g.value f.value in
        let ranged = g.verdict ∙ ap (λ (b : Bool). verdict_of b true) (variable_range g.value) in
        kind_taken ext_line (stated_kept kept) _
        (record {
          value = st;
          taken = behind_got (bytes "ext") number _ h.taken (got_then number _ g.taken (got_then field _ f.taken (got_give st f.taken.inside)));
          verdict = verdict_two (is_index h.value && is_variable g.value) (in_range f.value) true (few_terms f.value) m
              (verdict_two (is_index h.value) (is_variable g.value) true true l h.verdict ranged) f.verdict
              ∙ ap₂ verdict_of (ranged_ext h.value g.value f.value) (few_one f.value);
          holds = λ a.
              let b = lesser_accepted numbers p.why (sym m ∙ a) in
              let d = lesser_accepted i.why v.why (sym l ∙ b.0) in
              (f.value, ap₂ (λ (n x : ℕ). ext n x f.value) (sym (h.holds d.0)) (sym (g.holds d.1)), f.holds b.1);
        })

pub lin_line_law : {k : ℕ} {store : Store} {s : Bytes} {words words' words'' : List ℕ} (i : NumberRead) (p : FieldRead) (qs : PairsRead) {stated why : ℕ}
    → Head (bytes "lin") (within 1 greatest_index) s i → FieldStands s i.end words' p → Within stated_at (stated_at + field_terms * term_words) words words'
    → Taken pairs (every pair_ranged) (every pair_few) (λ ps. Summed k store ps words'' qs.sum) s p.end qs.end qs.why → Kept words' words''
    → stated ≡ lesser_of i.why p.why → why ≡ lesser_of stated qs.why
    → KindIs k store lin_line s words words'' (Ok (record { said = Lin i.value p.terms qs.sum; end = qs.end; why = why }))
unfolding is_index
lin_line_law i p qs {stated} h f kept g w l m =
    let st = lin h.value f.value g.value in
    kind_taken lin_line (both_kept kept w) _
    (record {
      value = st;
      taken = behind_got (bytes "lin") number _ h.taken (got_then field _ f.taken (got_then pairs _ g.taken (got_give st g.taken.inside)));
      verdict = verdict_two (is_index h.value && in_range f.value) (every pair_ranged g.value) (few_terms f.value) (every pair_few g.value) m
          (verdict_two (is_index h.value) (in_range f.value) true (few_terms f.value) l h.verdict f.verdict) g.verdict
          ∙ ap₂ verdict_of (ranged_lin h.value f.value g.value) (few_lin h.value f.value g.value);
      holds = λ a.
          let b = lesser_accepted stated qs.why (sym m ∙ a) in
          let d = lesser_accepted i.why p.why (sym l ∙ b.0) in (
            g.value,
            g.holds b.1,
            (f.value, ap (λ (n : ℕ). lin n f.value g.value) (sym (h.holds d.0)), holds_kept w (f.holds d.1)),
          );
    })
