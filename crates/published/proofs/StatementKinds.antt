-- Statements of each kind from their parts. Assumes nothing.
use mathlib.Core.Path.{◌≡◌, refl, sym, ap, ap₂, subst, ◌∙◌}
use mathlib.Core.Bool.{Bool, true, false, ◌&&◌, ◌||◌, not, cond}
use mathlib.Core.List.{List, [], map}
use Prim.Native.Nat.{ℕ, ◌+◌, ◌*◌, ◌≤◌}
use native.Mathlib.Omega.{arith}
use lib.ListN.{length}
use Rattle.std.proofs.Common.{Option, Some, None, is_some, is_none, Result, Ok}
use Rattle.ground.specs.Lists.{every}
use Rattle.ground.proofs.Tests.{and_left, or_none_left, or_none_right}
use Rattle.limits.specs.Limits.{field_terms, term_words}
use Rattle.limits.specs.Verdicts.{ACCEPTED, NUMBER}
use Rattle.limits.specs.declared.refusal.Refusal.{Refusal}
use Rattle.words.specs.Parts.{Within}
use Rattle.words.proofs.Parts.{within_refl, within_trans}
use Rattle.paper.specs.Grammar.{Bytes, Reader, give}
use Rattle.paper.specs.Statement.{PairOf, Pair, input, goal, lin, del, ext, renamed_field, renamed_pair, renamed, is_index}
use Rattle.paper.specs.Rules.{Store}
use Rattle.paper.specs.Answer.{index_of}
use Rattle.paper.specs.Published.{Name, constant, name, poly, constraint, target, linear, delete, extend}
use Rattle.paper.specs.Named.{names_in}
use Rattle.reader.specs.Places.{Got, Fails}
use Rattle.reader.specs.Verdicts.{verdict_of, lesser_of}
use Rattle.reader.specs.declared.stop.Stop.{Stop}
use Rattle.reader.proofs.Following.{got_then, got_give, fails_then, fails_first}
use Rattle.reader.proofs.Verdicts.{verdict_two, verdict_number, lesser_accepted}
use Rattle.names.specs.declared.numbering.Numbering.{Numbering}
use Rattle.named.specs.Reads.{NameAt, number_in}
use Rattle.named.specs.declared.name.NameRead.{NameRead}
use Rattle.named.specs.declared.poly.PolyRead.{PolyRead}
use Rattle.named.proofs.Naming.{in_first, names_none, names_then, number_stays, pairs_stay}
use Rattle.scratch.specs.Scratch.{stated_at, goal_at, Kept}
use Rattle.scratch.proofs.Keeping.{stated_kept}
use Rattle.sums.specs.Sums.{Summed}
use Rattle.sums.proofs.Summing.{summed_kept}
use Rattle.steps.specs.declared.said.Said.{Said}
use Rattle.steps.specs.declared.said.Said.TheVariants.{Input, Goal, Lin, Del, Ext}
use Rattle.published.specs.Pairs.{IdAt, field_ranged, field_few, summand_ranged, summand_few, PlacedAt, SumAt, comma_poly}
use Rattle.published.specs.Statements.{WholeIs, ClosedIs}
use Rattle.published.specs.declared.pairs.IdRead.{IdRead}
use Rattle.published.specs.declared.combination.SumRead.{SumRead}
use Rattle.published.specs.declared.statement.StatementRead.{StatementRead}
use Rattle.published.proofs.Commas.{comma_got, comma_fails}
use Rattle.published.proofs.Closing.{whole_closes}
use Rattle.published.proofs.StatementTests.{input_ranged, goal_ranged, lin_ranged, del_ranged, ext_ranged, input_few, goal_few, lin_few, del_few, ext_few}

-- ---- an id in its range has its word
id_word : {s : Bytes} {at : ℕ} {i : IdRead} (h : IdAt s at i) → is_index h.value ≡ true → i.value ≡ h.value
id_word h e = h.word (h.verdict ∙ ap (λ (b : Bool). cond b ACCEPTED NUMBER) e)

id_verdict : {s : Bytes} {at : ℕ} {i : IdRead} (h : IdAt s at i) → i.why ≡ verdict_of (is_index h.value) true
id_verdict h = h.verdict ∙ verdict_number (is_index h.value)

-- ---- words
pub front_kept : {s r : List ℕ} → Kept s r → Within 0 goal_at s r
front_kept k = record { before = refl; after = k.goal; same = k.same }

pub pairs_kept : {s x r : List ℕ} → Kept s x → Within stated_at (stated_at + field_terms * term_words) x r → Within 0 goal_at s r
pairs_kept k w = within_trans (front_kept k) (stated_kept w)

-- ---- constraints and the target
module _ {s : Bytes} where
  pub target_stuck : {e : ℕ} → Fails poly s 0 e → Fails target s 0 e
  unfolding target
  target_stuck f = fails_first poly _ f

  pub constraint_unread : {e : ℕ} → Fails constant s 0 e → Fails constraint s 0 e
  unfolding constraint
  constraint_unread f = fails_first constant _ f

  pub constraint_stuck : {j m e : ℕ} → Got constant s 0 j m → Fails poly s m e → Fails constraint s 0 e
  unfolding constraint
  constraint_stuck g f = fails_then constant _ g (fails_first poly _ f)

module _ {k : ℕ} {store : Store} {old new : Numbering} {s : Bytes} {words words' : List ℕ} {p : PolyRead} {r : Result StatementRead Stop}
    (kept : Within stated_at (stated_at + field_terms * term_words) words words') where
  pub target_item : PlacedAt stated_at poly old new s 0 words' p → ClosedIs (length s) p.end p.why (record { said = Ok (Goal p.terms); index = 0; bad = p.bad }) r
      → WholeIs k store target old new s 0 words words' r
  unfolding target renamed names_in index_of
  target_item f c =
      let q = f.value in
      whole_closes (stated_kept kept) (record { said = Ok (Goal p.terms); index = 0; bad = p.bad })
      (record {
        value = goal q;
        taken = got_then poly _ f.taken (got_give (goal q) f.taken.inside);
        verdict = f.verdict ∙ ap₂ verdict_of (goal_ranged q) (goal_few q);
        holds = λ a b. (Goal p.terms, refl, (renamed_field (number_in new) q, refl, f.holds a b));
        named = f.named;
      }) (λ e. refl) r c

  pub constraint_item : {i : IdRead} (h : IdAt s 0 i) → PlacedAt stated_at poly old new s i.end words' p
      → ClosedIs (length s) p.end (lesser_of i.why p.why) (record { said = Ok (Input i.value p.terms); index = i.value; bad = p.bad }) r
      → WholeIs k store constraint old new s 0 words words' r
  unfolding constraint renamed names_in index_of
  constraint_item {i} h f c =
      let q = f.value in
      let j = h.value in
      whole_closes (stated_kept kept) (record { said = Ok (Input i.value p.terms); index = i.value; bad = p.bad })
      (record {
        value = input j q;
        taken = got_then constant _ h.taken (got_then poly _ f.taken (got_give (input j q) f.taken.inside));
        verdict = verdict_two (is_index j) (field_ranged q) true (field_few q) refl (id_verdict h) f.verdict ∙ ap₂ verdict_of (input_ranged j q) (input_few j q);
        holds = λ a b.
            let z = lesser_accepted i.why p.why a in
            let w = renamed_field (number_in new) q in
            (Input i.value p.terms, refl, (w, ap (λ (x : ℕ). input x w) (sym (h.word z.0)), f.holds z.1 b));
        named = f.named;
      }) (λ e. id_word h (and_left (is_index j) (field_ranged q) (input_ranged j q ∙ e))) r c

-- ---- pairs or a name, and a polynomial behind a comma
pub linear_unread : (pairs : Reader (List (PairOf Name))) (j : ℕ) {s : Bytes} {at e : ℕ} → Fails pairs s at e → Fails (linear pairs j) s at e
linear_unread pairs j f = fails_first pairs _ f

pub linear_stuck : (pairs : Reader (List (PairOf Name))) (j : ℕ) {s : Bytes} {at m e : ℕ} {qs : List (PairOf Name)} → Got pairs s at qs m → Fails comma_poly s m e → Fails (linear pairs j) s at e
linear_stuck pairs j {qs = qs} g f = fails_then pairs _ g (comma_fails (λ p. give (lin j p qs)) f)

pub extend_stuck : (j : ℕ) {s : Bytes} {at m e : ℕ} {v : Name} → Got name s at v m → Fails comma_poly s m e → Fails (extend j) s at e
extend_stuck j {v = v} g f = fails_then name _ g (comma_fails (λ p. give (ext j v p)) f)

-- ---- a name that is not bad has its number
numbered : (o : Option ℕ) → is_none o ≡ false → (n : ℕ) × (o ≡ Some n)
numbered (Some n) e = (n, refl)
numbered None e = cc

none_is : (o : Option ℕ) (b : Bool) → is_some o ≡ not b → b ≡ is_none o
none_is (Some n) true e = cc
none_is (Some n) false e = refl
none_is None true e = refl
none_is None false e = cc

-- ---- behind an id and a sign
module _ {k : ℕ} {store : Store} {s : Bytes} {at : ℕ} {i : IdRead} (h : IdAt s 0 i) {r : Result StatementRead Stop} where
  pub delete_item : (names : Numbering) {words : List ℕ} → at ≤ length s → ClosedIs (length s) at i.why (record { said = Ok (Del i.value); index = i.value; bad = false }) r
      → WholeIs k store (delete h.value) names names s at words words r
  unfolding renamed names_in index_of
  delete_item names l c =
      let j = h.value in
      whole_closes within_refl (record { said = Ok (Del i.value); index = i.value; bad = false })
      (record {
        value = del j;
        taken = got_give (del j) l;
        verdict = id_verdict h ∙ ap₂ verdict_of (del_ranged j) (del_few j);
        holds = λ a b. (Del i.value, refl, ap (λ (x : ℕ). del x) (sym (h.word a)));
        named = names_none names;
      }) (λ e. id_word h (del_ranged j ∙ e)) r c

  module _ {old mid new : Numbering} {words' words'' : List ℕ} {p : PolyRead} (kept : Within stated_at (stated_at + field_terms * term_words) words' words'') where
    pub linear_item : (pairs : Reader (List (PairOf Name))) {words : List ℕ} {q : SumRead} → Kept words words'
        → SumAt k store pairs old mid s at words' q → PlacedAt stated_at comma_poly mid new s q.end words'' p
        → ClosedIs (length s) p.end (lesser_of (lesser_of i.why q.why) p.why) (record { said = Ok (Lin i.value p.terms q.sum); index = i.value; bad = q.bad || p.bad }) r
        → WholeIs k store (linear pairs h.value) old new s at words words'' r
    unfolding renamed names_in index_of
    linear_item pairs {q = q} front g f c =
        let j = h.value in
        let w = f.value in
        let qs = g.value in
        let st = lin j w qs in
        whole_closes (pairs_kept front kept) (record { said = Ok (Lin i.value p.terms q.sum); index = i.value; bad = q.bad || p.bad })
        (record {
          value = st;
          taken = got_then pairs _ g.taken (comma_got (λ p. give (lin j p qs)) f.taken (got_give st f.taken.inside));
          verdict = verdict_two (is_index j && every summand_ranged qs) (field_ranged w) (every summand_few qs) (field_few w) refl
              (verdict_two (is_index j) (every summand_ranged qs) true (every summand_few qs) refl (id_verdict h) g.verdict) f.verdict
              ∙ ap₂ verdict_of (lin_ranged j w qs) (lin_few j w qs);
          holds = λ a b.
              let z = lesser_accepted (lesser_of i.why q.why) p.why a in
              let y = lesser_accepted i.why q.why z.0 in
              let good = or_none_left q.bad p.bad b in
              let rest = or_none_right q.bad p.bad b in
              let v = renamed_field (number_in new) w in
              let ps = map (renamed_pair (number_in new)) qs in (
                Lin i.value p.terms q.sum,
                refl,
                (
                  ps,
                  subst (λ (ps : List Pair). Summed k store ps words'' q.sum) (sym (pairs_stay qs g.named f.named good rest)) (summed_kept stated_at _ kept (omega arith) (g.holds y.1 good)),
                  (v, ap (λ (x : ℕ). lin x v ps) (sym (h.word y.0)), f.holds z.1 rest),
                ),
              );
          named = names_then g.named f.named;
        }) (λ e. id_word h (and_left (is_index j) (every summand_ranged qs) (and_left (is_index j && every summand_ranged qs) (field_ranged w) (lin_ranged j w qs ∙ e)))) r c

    pub extend_item : {v : NameRead} (said : Result Said Refusal) → ((n : ℕ) → v.number ≡ Some n → said ≡ Ok (Ext i.value n p.terms)) → NameAt old mid s at v
        → PlacedAt stated_at comma_poly mid new s v.end words'' p → (b : Bool) → is_some v.number ≡ not b
        → ClosedIs (length s) p.end (lesser_of i.why p.why) (record { said = said; index = i.value; bad = b || p.bad }) r
        → WholeIs k store (extend h.value) old new s at words' words'' r
    unfolding renamed names_in index_of
    extend_item {v} said is g f b m c =
        let j = h.value in
        let q = f.value in
        let st = ext j g.value q in
        whole_closes (stated_kept kept) (record { said = said; index = i.value; bad = is_none v.number || p.bad })
        (record {
          value = st;
          taken = got_then name _ g.taken (comma_got (λ p. give (ext j g.value p)) f.taken (got_give st f.taken.inside));
          verdict = verdict_two (is_index j) (field_ranged q) true (field_few q) refl (id_verdict h) f.verdict ∙ ap₂ verdict_of (ext_ranged j q g.value) (ext_few j g.value q);
          holds = λ a b.
              let z = lesser_accepted i.why p.why a in
              let good = or_none_left (is_none v.number) p.bad b in
              let rest = or_none_right (is_none v.number) p.bad b in
              let n = numbered v.number good in
              let w = renamed_field (number_in new) q in (
                Ext i.value n.0 p.terms,
                is n.0 n.1,
                (
                  w,
                  ap₂ (λ (x y : ℕ). ext x y w) (sym (h.word z.0)) (number_stays g.names f.named good rest g.value (in_first g.value []) ∙ sym (g.number n.0 n.1)),
                  f.holds z.1 rest,
                ),
              );
          named = names_then g.names f.named;
        }) (λ e. id_word h (and_left (is_index j) (field_ranged q) (ext_ranged j q g.value ∙ e))) r
        (subst (λ (b : Bool). ClosedIs (length s) p.end (lesser_of i.why p.why) (record { said = said; index = i.value; bad = b || p.bad }) r) (none_is v.number b m) c)
