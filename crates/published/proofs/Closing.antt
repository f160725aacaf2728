-- From what was read of a statement to its item. Assumes nothing.
use mathlib.Core.Path.{◌≡◌, refl, sym, ap, subst, ◌∙◌}
use mathlib.Core.Bool.{Bool, true, false, not, cond}
use mathlib.Core.List.{List, [], ◌∷◌}
use Prim.Native.Nat.{ℕ, ◌≤◌, ◌<◌}
use lib.Dec.{eqb}
use lib.ListN.{length, drop}
use borrow.Author.Tests.{eq-eqb, ne_eqb}
use Rattle.std.proofs.Common.{Result, Ok, lit≤}
use Rattle.ground.specs.Lists.{any}
use Rattle.ground.proofs.Tests.{cond_yes, cond_no}
use Rattle.limits.specs.Verdicts.{ACCEPTED, NUMBER, TERMS, NAMES}
use Rattle.limits.specs.declared.refusal.Refusal.TheVariants.{Names}
use Rattle.limits.proofs.Refusals.{refuses}
use Rattle.words.specs.Parts.{Within}
use Rattle.paper.specs.Grammar.{Bytes, Reader, got, end}
use Rattle.paper.specs.Statement.{renamed, fields, is_index, too_many_terms}
use Rattle.paper.specs.Rules.{first, Store}
use Rattle.paper.specs.Answer.{index_of}
use Rattle.paper.specs.Published.{Name, Named}
use Rattle.paper.specs.Named.{names_in}
use Rattle.reader.specs.Places.{Fails}
use Rattle.reader.specs.Verdicts.{verdict_of, lesser_of}
use Rattle.reader.specs.declared.stop.Stop.{Stop}
use Rattle.reader.proofs.Following.{got_then, got_give, fails_then, fails_first, end_not, end_here}
use Rattle.reader.proofs.Verdicts.{verdict_accepted}
use Rattle.names.specs.declared.numbering.Numbering.{Numbering}
use Rattle.scratch.specs.Scratch.{goal_at}
use Rattle.steps.specs.declared.said.Said.{Said}
use Rattle.steps.specs.Items.{Means}
use Rattle.published.specs.Pairs.{IdAt, NamedAt}
use Rattle.published.specs.Statements.{unnumbered, statement_ranged, statement_few, written_by, turns, passes, whole, item_at, WholeIs, ClosedIs, left, turned, misnamed, stands}
use Rattle.published.specs.declared.pairs.IdRead.{IdRead}
use Rattle.published.specs.declared.statement.StatementRead.{StatementRead}

-- ---- the verdict on what is written, with names
written_rows : (a b c : Bool) → first ((NUMBER, not a) ∷ (TERMS, b) ∷ (NAMES, c) ∷ []) ≡ cond (eqb (verdict_of a (not b)) ACCEPTED) (cond c NAMES ACCEPTED) (verdict_of a (not b))
unfolding first
written_rows true true c = refl
written_rows true false c = refl
written_rows false b c = refl

written_by_law : (c : Bool) (st : Named) → written_by c st ≡ cond (eqb (verdict_of (statement_ranged st) (statement_few st)) ACCEPTED) (cond c NAMES ACCEPTED) (verdict_of (statement_ranged st) (statement_few st))
unfolding written_by statement_ranged statement_few
written_by_law c st = written_rows (statement_ranged st) (any too_many_terms (fields (renamed unnumbered st))) c

-- ---- verdicts on what is written are those of refusals
verdict_below : (a b : Bool) → verdict_of a b ≤ 17
unfolding first
verdict_below true true = lit≤ tt
verdict_below true false = lit≤ tt
verdict_below false b = lit≤ tt

pub named_below : {A : Type 0} {read : Reader A} {ranged few : A → Bool} {names : A → List Name} {P : (Name → ℕ) → A → Type 0} {old new : Numbering} {s : Bytes} {at e why : ℕ} {bad : Bool}
    → NamedAt read ranged few names P old new s at e why bad → why ≤ 17
named_below {ranged = ranged} {few} h = subst (λ (v : ℕ). v ≤ 17) (sym h.verdict) (verdict_below (ranged h.value) (few h.value))

pub id_below : {s : Bytes} {at : ℕ} {r : IdRead} → IdAt s at r → r.why ≤ 17
id_below h = subst (λ (v : ℕ). v ≤ 17) (sym h.verdict) (go (is_index h.value))
  where
    go : (b : Bool) → cond b ACCEPTED NUMBER ≤ 17
    go true = lit≤ tt
    go false = lit≤ tt

pub lesser_below : (v w : ℕ) → v ≤ 17 → w ≤ 17 → lesser_of v w ≤ 17
unfolding lesser_of
lesser_below v w a b = go (eqb v ACCEPTED) (eqb w NUMBER)
  where
    go : (x y : Bool) → cond x w (cond y w v) ≤ 17
    go true y = b
    go false true = b
    go false false = a

-- ---- a statement read from at up to e, as x says it
abbrev pub StatementAt : ℕ → Store → Reader Named → Numbering → Numbering → Bytes → ℕ → List ℕ → ℕ → ℕ → StatementRead → Type 0
StatementAt k store read old new s at words e why x =
    NamedAt read statement_ranged statement_few names_in (λ f st. (said : Said) × (x.said ≡ Ok said) × Means k store words (renamed f st) said) old new s at e why x.bad

pub whole_stops : {read : Reader Named} {s : Bytes} {at e : ℕ} → Fails read s at e → Fails (whole read) s at e
whole_stops {read} f = fails_first read _ f

-- a statement read up to e, whatever holds of it: what is left, and the verdict
module _ {read : Reader Named} {P : (Name → ℕ) → Named → Type 0} {old new : Numbering} {s : Bytes} {at e why : ℕ} {bad : Bool}
    (t : NamedAt read statement_ranged statement_few names_in P old new s at e why bad) where
  short_read : e < length s → Fails (whole read) s at e
  short_read h = fails_then read _ t.taken (fails_first end _ (end_not s e h))

  whole_read : length s ≤ e → (item_at read s at).reads ≡ got t.value (drop e s)
  whole_read h = let i = t.taken.inside in (got_then read _ t.taken (got_then end _ (end_here s e h i) (got_give t.value i))).reads

  judged : written_by bad t.value ≡ cond (eqb why ACCEPTED) (cond bad NAMES ACCEPTED) why
  judged = written_by_law bad t.value ∙ ap (λ (v : ℕ). cond (eqb v ACCEPTED) (cond bad NAMES ACCEPTED) v) (sym t.verdict)

  judged_first : (why ≡ ACCEPTED → ⊥) → written_by bad t.value ≡ why
  judged_first a = judged ∙ cond_no (eqb why ACCEPTED) (cond bad NAMES ACCEPTED) why (ne_eqb why ACCEPTED a)

  judged_names : why ≡ ACCEPTED → {b : Bool} → bad ≡ b → written_by bad t.value ≡ cond b NAMES ACCEPTED
  judged_names a b = judged ∙ cond_yes (eqb why ACCEPTED) (cond bad NAMES ACCEPTED) why (eq-eqb why ACCEPTED a) ∙ ap (λ (c : Bool). cond c NAMES ACCEPTED) b

module _ {k : ℕ} {store : Store} {read : Reader Named} {old new : Numbering} {s : Bytes} {at : ℕ} {words words' : List ℕ} (kept : Within 0 goal_at words words') where
  module _ {e why : ℕ} (x : StatementRead) (t : StatementAt k store read old new s at words' e why x)
      (index : statement_ranged t.value ≡ true → x.index ≡ index_of (renamed unnumbered t.value)) where
    abbrev Is : Result StatementRead Stop → Type 0
    Is = WholeIs k store read old new s at words words'

    pub whole_closes : (r : Result StatementRead Stop) → ClosedIs (length s) e why x r → Is r
    unfolding statement_ranged
    whole_closes r (left h q) = subst Is (sym q) (record { said = short_read t h; kept = kept })
    whole_closes r (turned l w n q) =
        subst Is (sym q) (record { said = turns refl t.value (drop e s) (whole_read t l) t.named w refl (n ∙ sym (judged_first t (λ a. refuses w (n ∙ a)))) index; kept = kept })
    whole_closes r (misnamed l a b q) =
        subst Is (sym q) (record { said = turns refl t.value (drop e s) (whole_read t l) t.named Names refl (sym (judged_names t a b)) index; kept = kept })
    whole_closes r (stands l a b q) =
        let h = t.holds a b in
        let ranged = verdict_accepted (statement_ranged t.value) (statement_few t.value) (sym t.verdict ∙ a) in
        subst Is (sym q) (record { said = passes refl t.value (drop e s) (whole_read t l) t.named (judged_names t a b) h.0 h.1 h.2 (index ranged); kept = kept })
