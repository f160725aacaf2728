-- What is told of a statement that was read, and its names among those of the statements behind it. Assumes nothing.
use mathlib.Core.Path.{◌≡◌, refl, sym, ap, subst, ◌∙◌}
use mathlib.Core.Bool.{Bool, true, false, ◌&&◌, ◌||◌, not, cond}
use mathlib.Core.List.{List, [], ◌∷◌, ◌++◌}
use Prim.Native.Nat.{ℕ}
use lib.Dec.{eqb}
use Rattle.std.specs.Prelude.{Result, Ok, Err}
use Rattle.limits.specs.declared.refusal.Refusal.{Refusal}
use Rattle.limits.specs.Verdicts.{ACCEPTED, LONGLINE, FORM, NUMBER, TERMS, NAMES}
use Rattle.ground.specs.Lists.{any, every, gather}
use Rattle.ground.proofs.Tests.{and_left}
use Rattle.ground.proofs.Lists.{every_append}
use Rattle.paper.specs.Grammar.{Bytes, got}
use Rattle.paper.specs.Statement.{renamed, fields, numbers_in_range, too_many_terms}
use Rattle.paper.specs.Rules.{first, Store}
use Rattle.paper.specs.Published.{Name, Named, NamedItem}
use Rattle.paper.specs.Named.{names_in, is_plain, with_names, numbered}
use Rattle.names.specs.declared.numbering.Numbering.{Numbering}
use Rattle.names.specs.Names.{number_by, bad_by, names_with}
use Rattle.names.specs.Numbered.{held_by}
use Rattle.named.specs.Reads.{NamesAre}
use Rattle.steps.specs.declared.said.Said.{Said}
use Rattle.steps.specs.Items.{Sayable, ItemIs}
use Rattle.steps.proofs.Asking.{sayable}
use Rattle.published.specs.Statements.{unnumbered, written_by, NamedTells, long, stops, turns, passes, NamedItemIs}
use Rattle.published.specs.declared.statement.StatementRead.{StatementRead}
use Rattle.triple.specs.Courses.{names_from, all_plain}
use Rattle.triple.proofs.Agreeing.{not_both, written_accepted, named_item}
use Rattle.triple.proofs.ReadItems.{readable_got}

-- ---- the names of an item, and of those behind it
module _ (i : NamedItem) (is : List NamedItem) (l : i.long ≡ false) (st : Named) (t : Bytes) (e : i.reads ≡ got st t) where
  names_first : names_from (i ∷ is) ≡ names_in st ++ names_from is
  unfolding gather
  names_first = ap (gather names_in) (readable_got i is l st t e)

  pub plain_first : all_plain (i ∷ is) ≡ (every is_plain (names_in st) && all_plain is)
  plain_first = ap (every is_plain) names_first ∙ every_append is_plain (names_in st) (names_from is)

-- ---- names that are taken as plain
not_plain : (ms ns : List Name) → any (bad_by true ms) ns ≡ not (every is_plain ns)
unfolding any every
not_plain ms [] = refl
not_plain ms (n ∷ ns) = go (is_plain n) (not_plain ms ns)
  where
    go : (b : Bool) → any (bad_by true ms) ns ≡ not (every is_plain ns) → (not b || any (bad_by true ms) ns) ≡ not (b && every is_plain ns)
    go true e = e
    go false e = refl

module _ {m m' : Numbering} {ns : List Name} {bad : Bool} (p : m.plain ≡ true) (a : NamesAre m m' ns bad) where
  bad_not_plain : bad ≡ not (every is_plain ns)
  bad_not_plain = a.some ∙ ap (λ (b : Bool). any (bad_by b (names_with b (held_by m) ns)) ns) p ∙ not_plain (names_with true (held_by m) ns) ns

  pub bad_some : bad ≡ true → every is_plain ns ≡ false
  bad_some e = go (every is_plain ns) (sym bad_not_plain ∙ e)
    where
      go : (b : Bool) → not b ≡ true → b ≡ false
      go true e = sym e
      go false e = refl

  pub good_all : bad ≡ false → every is_plain ns ≡ true
  good_all e = go (every is_plain ns) (sym bad_not_plain ∙ e)
    where
      go : (b : Bool) → not b ≡ false → b ≡ true
      go true e = refl
      go false e = sym e

-- ---- the verdict on what is written
pub written_read : (bad : Bool) (st : Named) → (eqb (written_by bad st) LONGLINE || eqb (written_by bad st) FORM) ≡ false
unfolding written_by first
written_read bad st = go (not (numbers_in_range (renamed unnumbered st))) (any too_many_terms (fields (renamed unnumbered st))) bad
  where
    go : (a b c : Bool) → (eqb (cond a NUMBER (cond b TERMS (cond c NAMES ACCEPTED))) LONGLINE || eqb (cond a NUMBER (cond b TERMS (cond c NAMES ACCEPTED))) FORM) ≡ false
    go true b c = refl
    go false true c = refl
    go false false true = refl
    go false false false = refl

-- ---- a statement that nothing written refuses
pub record WellWritten (m m' : Numbering) (i : NamedItem) (r : StatementRead) : Type 0 where
  pub short : i.long ≡ false
  pub value : Named
  pub rest : Bytes
  pub reads : i.reads ≡ got value rest
  pub named : NamesAre m m' (names_in value) r.bad
  pub good : r.bad ≡ false

module _ {k : ℕ} {store : Store} {m m' : Numbering} {i : NamedItem} {words : List ℕ} {r : StatementRead} where
  pub well_written : NamedTells k store m m' i words r → {said : Said} → r.said ≡ Ok said → WellWritten m m' i r
  well_written (long l q b) e = absurd (not_both e q)
  well_written (stops l t f q b) e = absurd (not_both e q)
  well_written (turns l st t f a w q d j) e = absurd (not_both e q)
  well_written (passes l st t f a w said q o j) e = record { short = l; value = st; rest = t; reads = f; named = a; good = (written_accepted r.bad st w).1 }

-- names taken as plain: none is bad where those of all statements are plain
module _ {m m' : Numbering} {i : NamedItem} (p : m.plain ≡ true) where
  read_good : {bad : Bool} (is : List NamedItem) → all_plain (i ∷ is) ≡ true → i.long ≡ false → (st : Named) (t : Bytes) → i.reads ≡ got st t → NamesAre m m' (names_in st) bad → bad ≡ false
  read_good is h l st t e a = bad_not_plain p a ∙ ap not (and_left (every is_plain (names_in st)) (all_plain is) (sym (plain_first i is l st t e) ∙ h))

  pub plain_good : {k : ℕ} {store : Store} {words : List ℕ} {r : StatementRead} → NamedTells k store m m' i words r → (is : List NamedItem) → all_plain (i ∷ is) ≡ true → r.bad ≡ false
  plain_good (long l q b) is h = b
  plain_good (stops l t e q b) is h = b
  plain_good (turns l st t e a w q d f) is h = read_good is h l st t e a
  plain_good (passes l st t e a w said q o f) is h = read_good is h l st t e a

  -- where none is bad those behind it decide
  pub plain_read : {r : StatementRead} → WellWritten m m' i r → (is : List NamedItem) → all_plain (i ∷ is) ≡ all_plain is
  plain_read t is = plain_first i is t.short t.value t.rest t.reads ∙ ap (λ (b : Bool). b && all_plain is) (good_all p t.named t.good)

-- ---- the item that was read, in numbers of its own
same_read : {a b : Named} {s t : Bytes} → got a s ≡ got b t → a ≡ b
same_read e = cc

own_names : (ms : List Name) (a b : Named) → a ≡ b → with_names ms (names_in a) ≡ with_names (with_names ms (names_in b)) []
unfolding with_names
own_names ms a b e = ap (λ (st : Named). with_names ms (names_in st)) e

module _ {k : ℕ} {store : Store} {m m' : Numbering} {i : NamedItem} {words words' : List ℕ} {r : StatementRead} (x : NamedItemIs k store m m' i words words' r) where
  pub own_item : {said : Said} → r.said ≡ Ok said → (f : Name → ℕ) × ItemIs k store (numbered f i) words words' r.said
  own_item e =
      let t = well_written x.tells e in
      let ms : List Name = with_names (held_by m) (names_in t.value) in
      (number_by m.plain ms, named_item x (λ _. t.good) [] ms (λ st s l g. record { by_place = λ _. own_names (held_by m) t.value st (same_read (sym t.reads ∙ g)) }))

  -- judging may be asked
  pub asks : Sayable k store words' r.said
  asks = go r.said refl
    where
      go : (y : Result Said Refusal) → r.said ≡ y → Sayable k store words' y
      go (Ok said) e = subst (Sayable k store words') e (sayable (own_item e).1.tells)
      go (Err why) e = record { means = λ y q. absurd (let z : ⊥ = cc in z) }
