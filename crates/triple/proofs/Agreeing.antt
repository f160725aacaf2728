-- The numbers of names that are held are those that all names of the texts give, so that an item says what its statement was read as. Assumes nothing.
use mathlib.Core.Path.{◌≡◌, refl, sym, ap, ap₂, subst, ◌∙◌}
use mathlib.Core.Bool.{Bool, true, false, not, cond}
use mathlib.Core.List.{List, [], ◌∷◌}
use mathlib.Core.Logic.{⊎_elim}
use Prim.Native.Nat.{ℕ, ◌<◌}
use native.Mathlib.Omega.{arith}
use lib.Dec.{leb}
use lib.ListN.{length}
use borrow.Author.Tests.{le-ltb, lt-leb, not-false}
use Rattle.std.specs.Prelude.{Result, Ok, Err}
use Rattle.ground.specs.Lists.{any}
use Rattle.ground.proofs.Tests.{split, cond_no, or_cases, or_none_left, or_none_right}
use Rattle.limits.specs.Limits.{name_bytes}
use Rattle.limits.specs.Refusals.{number_of}
use Rattle.limits.specs.declared.refusal.Refusal.{Refusal}
use Rattle.limits.specs.Verdicts.{ACCEPTED, LONGLINE, FORM, NUMBER, TERMS, NAMES}
use Rattle.paper.specs.Grammar.{Bytes, got, stuck}
use Rattle.paper.specs.Statement.{Statement, renamed, fields, numbers_in_range, too_many_terms}
use Rattle.paper.specs.Rules.{first, Store}
use Rattle.paper.specs.Answer.{index_of}
use Rattle.paper.specs.Published.{Name, Named, NamedItem}
use Rattle.paper.specs.Named.{names_in, is_plain, plain_number, same_name, with_names, bad_name, named_rules, numbered}
use Rattle.paper.proofs.Names.{never, same_name_law, is_in}
use Rattle.paper.proofs.PlainSpelled.{plain_variable, plain_short}
use Rattle.paper.proofs.Renamed.{numbers_same, index_same, many_same}
use Rattle.names.specs.declared.numbering.Numbering.{Numbering}
use Rattle.names.specs.Names.{number_by, bad_by, names_with}
use Rattle.names.specs.Numbered.{held_by}
use Rattle.named.specs.Reads.{NamesAre, number_in}
use Rattle.named.proofs.Naming.{Alike, any_alike, numbers_with, bad_with, statement_alike}
use Rattle.steps.specs.declared.said.Said.{Said}
use Rattle.steps.specs.Items.{Means, Tells, long as tellsLong, stops as tellsStop, turns as tellsTurn, passes as tellsPass, ItemIs, index_of_read}
use Rattle.steps.proofs.Judging.{early_none}
use Rattle.published.specs.Statements.{unnumbered, written_by, NamedTells, long, stops, turns, passes, NamedItemIs}
use Rattle.published.specs.declared.statement.StatementRead.{StatementRead}

same_refusal : {v w : Refusal} → ◌≡◌ {A = Result Said Refusal} (Err v) (Err w) → v ≡ w
same_refusal e = cc

pub not_both : {r : Result Said Refusal} {said : Said} {why : Refusal} → r ≡ Ok said → r ≡ Err why → ⊥
not_both e q = cc

-- ---- a plain name is not bad
plain_fine : (n : Name) → is_plain n ≡ true → bad_name plain_number n ≡ false
unfolding bad_name
plain_fine n e = rw (le-ltb name_bytes (length n) (plain_short n e), plain_variable n e) refl

not_any : (f : Name → Bool) (ns : List Name) → any f ns ≡ false → (n : Name) → is_in ns n ≡ true → f n ≡ false
unfolding any
not_any f [] e n h = never (sym h)
not_any f (m ∷ ns) e n h =
    ⊎_elim (λ s. ap f (sym (same_name_law m n s)) ∙ or_none_left (f m) (any f ns) e) (not_any f ns (or_none_right (f m) (any f ns) e) n) (or_cases (same_name m n) (is_in ns n) h)

-- ---- G are all names: ms, then ns, then those that come behind; where names are plain it does not matter
pub record AllNames (plain : Bool) (ms ns post G : List Name) : Type 0 where
  pub by_place : plain ≡ false → G ≡ with_names (with_names ms ns) post

module _ (plain : Bool) (ms ns post G : List Name) (all : AllNames plain ms ns post G) where
  numbers_of_all : (b : Bool) → plain ≡ b → number_by b G ≡ number_by b (names_with b (names_with b ms ns) post)
  numbers_of_all true e = refl
  numbers_of_all false e = ap (number_by false) (all.by_place e)

  pub number_agrees : Alike (number_by plain G) (number_by plain (names_with plain ms ns)) ns
  number_agrees m e = ap (λ (f : Name → ℕ). f m) (numbers_of_all plain refl) ∙ numbers_with plain ms ns post m e

  -- where names are plain, none of ns may be bad
  module _ (clean : plain ≡ true → any (bad_by plain (names_with plain ms ns)) ns ≡ false) where
    pub bad_agrees : Alike (bad_name (number_by plain G)) (bad_by plain (names_with plain ms ns)) ns
    unfolding bad_name
    bad_agrees m e = ap (λ (f : Name → ℕ). bad_name f m) (numbers_of_all plain refl) ∙ go plain clean
      where
        go : (b : Bool) → (b ≡ true → any (bad_by b (names_with b ms ns)) ns ≡ false) → bad_name (number_by b (names_with b (names_with b ms ns) post)) m ≡ bad_by b (names_with b ms ns) m
        go true h = let p = not_any (λ n. not (is_plain n)) ns (h refl) m e in plain_fine m (not-false (is_plain m) p) ∙ sym p
        go false h = bad_with false ms ns post m e

    pub any_bad_agrees : any (bad_name (number_by plain G)) ns ≡ any (bad_by plain (names_with plain ms ns)) ns
    any_bad_agrees = any_alike _ _ ns bad_agrees

-- ---- the verdict on what is written
pub written_accepted : (bad : Bool) (st : Named) → written_by bad st ≡ ACCEPTED → (numbers_in_range (renamed unnumbered st) ≡ true) × (bad ≡ false)
unfolding written_by first
written_accepted bad st e = go (numbers_in_range (renamed unnumbered st)) (any too_many_terms (fields (renamed unnumbered st))) bad e
  where
    go : (n m b : Bool) → cond (not n) NUMBER (cond m TERMS (cond b NAMES ACCEPTED)) ≡ ACCEPTED → (n ≡ true) × (b ≡ false)
    go true false false e = (refl, refl)
    go true false true e = absurd (let z : ⊥ = omega arith in z)
    go true true b e = absurd (let z : ⊥ = omega arith in z)
    go false m b e = absurd (let z : ⊥ = omega arith in z)

written_number : (bad : Bool) (st : Named) → numbers_in_range (renamed unnumbered st) ≡ false → written_by bad st ≡ NUMBER
unfolding written_by first
written_number bad st e = rw e refl

-- ---- a statement whose names were read, where G are all names
module _ (st : Named) {m m' : Numbering} {bad : Bool} (post G : List Name) (all : AllNames m.plain (held_by m) (names_in st) post G)
    (a : NamesAre m m' (names_in st) bad) where
  module _ (clean : m.plain ≡ true → bad ≡ false) where
    bad_by_all : any (bad_name (number_by m.plain G)) (names_in st) ≡ bad
    bad_by_all = any_bad_agrees m.plain (held_by m) (names_in st) post G all (λ p. sym a.some ∙ clean p) ∙ sym a.some

    written_by_all : first (named_rules (number_by m.plain G) st) ≡ written_by bad st
    unfolding named_rules written_by first
    written_by_all =
        ap₂ (λ (m b : Bool). cond (not (numbers_in_range (renamed unnumbered st))) NUMBER (cond m TERMS (cond b NAMES ACCEPTED))) (many_same (number_by m.plain G) unnumbered st) bad_by_all

    ranged_by_all : written_by bad st ≡ ACCEPTED → numbers_in_range (renamed (number_by m.plain G) st) ≡ true
    ranged_by_all w = let h = written_accepted bad st w in numbers_same (number_by m.plain G) st (bad_by_all ∙ h.1) ∙ h.0

  renamed_by_all : bad ≡ false → renamed (number_in m') st ≡ renamed (number_by m.plain G) st
  renamed_by_all e =
      ap₂ (λ (p : Bool) (ms : List Name). renamed (number_by p ms) st) a.plain (a.holds e)
      ∙ sym (statement_alike (number_by m.plain G) (number_by m.plain (names_with m.plain (held_by m) (names_in st))) st (number_agrees m.plain (held_by m) (names_in st) post G all))

-- ---- an item that was read, with numbers by f
module _ (f : Name → ℕ) (i : NamedItem) where
  numbered_stuck : (t : Bytes) → i.reads ≡ stuck t → (numbered f i).reads ≡ stuck t
  unfolding numbered
  numbered_stuck t e = rw e refl

  numbered_got : (st : Named) (t : Bytes) → i.reads ≡ got st t → (numbered f i).reads ≡ got (renamed f st) t
  unfolding numbered
  numbered_got st t e = rw e refl

  numbered_written : (st : Named) (t : Bytes) → i.reads ≡ got st t → (numbered f i).written ≡ first (named_rules f st)
  unfolding numbered
  numbered_written st t e = rw e refl

-- ---- what was read of an item is what the item says with its numbers
module _ {k : ℕ} {store : Store} {m m' : Numbering} {i : NamedItem} {words : List ℕ} {r : StatementRead} (h : NamedTells k store m m' i words r)
    (clean : m.plain ≡ true → r.bad ≡ false) (post G : List Name)
    (all : (st : Named) (t : Bytes) → i.long ≡ false → i.reads ≡ got st t → AllNames m.plain (held_by m) (names_in st) post G) where
  item_written : (st : Named) (t : Bytes) → i.long ≡ false → i.reads ≡ got st t → NamesAre m m' (names_in st) r.bad
      → (numbered (number_by m.plain G) i).written ≡ written_by r.bad st
  item_written st t l e a = numbered_written (number_by m.plain G) i st t e ∙ written_by_all st post G (all st t l e) a clean

  item_tells : Tells k store (numbered (number_by m.plain G) i) words r.said
  unfolding numbered
  item_tells = go h
    where
      go : NamedTells k store m m' i words r → Tells k store (numbered (number_by m.plain G) i) words r.said
      go (long l q b) = tellsLong l q
      go (stops l t e q b) = tellsStop l t (numbered_stuck (number_by m.plain G) i t e) q
      go (turns l st t e a why q d j) = tellsTurn l (renamed (number_by m.plain G) st) t (numbered_got (number_by m.plain G) i st t e) why q (d ∙ sym (item_written st t l e a))
      go (passes l st t e a w said q o j) =
          let g = all st t l e in
          tellsPass l (renamed (number_by m.plain G) st) t (numbered_got (number_by m.plain G) i st t e) (item_written st t l e a ∙ w) (ranged_by_all st post G g a clean w) said q
          (subst (λ (x : Statement). Means k store words x said) (renamed_by_all st post G g a (written_accepted r.bad st w).1) o)

pub named_item : {k : ℕ} {store : Store} {m m' : Numbering} {i : NamedItem} {words words' : List ℕ} {r : StatementRead}
    → NamedItemIs k store m m' i words words' r → (m.plain ≡ true → r.bad ≡ false) → (post G : List Name)
    → ((st : Named) (t : Bytes) → i.long ≡ false → i.reads ≡ got st t → AllNames m.plain (held_by m) (names_in st) post G)
    → ItemIs k store (numbered (number_by m.plain G) i) words words' r.said
named_item h clean post G all = record { tells = item_tells h.tells clean post G all; kept = h.kept }

-- ---- the index that a refusal reports does not hang on the numbers
module _ {k : ℕ} {store : Store} {m m' : Numbering} {i : NamedItem} {words : List ℕ} {r : StatementRead} (f : Name → ℕ) (h : NamedTells k store m m' i words r) where
  abbrev Reports : ℕ → Type 0
  Reports v = index_of_read v (numbered f i).reads ≡ cond (leb TERMS v) r.index 0

  early_index : (v : ℕ) → v < TERMS → Reports v
  early_index v l = early_none v (numbered f i).reads l ∙ sym (cond_no (leb TERMS v) r.index 0 (lt-leb TERMS v l))

  read_index : (st : Named) (t : Bytes) → i.reads ≡ got st t → r.index ≡ index_of (renamed unnumbered st) → (v : ℕ) → Reports v
  read_index st t e j v =
      ap (index_of_read v) (numbered_got f i st t e)
      ∙ ap (λ (x : ℕ). cond (leb TERMS v) x 0) (index_same f unnumbered st ∙ sym j)

  -- one that reading refuses
  pub refused_index : (why : Refusal) → r.said ≡ Err why → Reports (number_of why)
  refused_index why e = go h
    where
      of : {w : Refusal} → r.said ≡ Err w → Reports (number_of w) → Reports (number_of why)
      of {w} q g = subst (λ (x : Refusal). Reports (number_of x)) (same_refusal (sym q ∙ e)) g

      by_written : (bad : Bool) (st : Named) (t : Bytes) → i.reads ≡ got st t → (numbers_in_range (renamed unnumbered st) ≡ true → r.index ≡ index_of (renamed unnumbered st)) → Reports (written_by bad st)
      by_written bad st t q j =
          ⊎_elim (λ y. read_index st t q (j y) (written_by bad st)) (λ y. subst Reports (sym (written_number bad st y)) (early_index NUMBER (omega arith)))
          (split (numbers_in_range (renamed unnumbered st)))

      go : NamedTells k store m m' i words r → Reports (number_of why)
      go (long l q b) = of q (early_index LONGLINE (omega arith))
      go (stops l t s q b) = of q (early_index FORM (omega arith))
      go (turns l st t s a w q d j) = of q (subst Reports (sym d) (by_written r.bad st t s j))
      go (passes l st t s a w said q o j) = absurd (not_both q e)

  -- one that is stepped
  pub stepped_index : {said : Said} → r.said ≡ Ok said → (v : ℕ) → Reports v
  stepped_index e v = go h
    where
      go : NamedTells k store m m' i words r → Reports v
      go (long l q b) = absurd (not_both e q)
      go (stops l t f q b) = absurd (not_both e q)
      go (turns l st t f a w q d j) = absurd (not_both e q)
      go (passes l st t q a w said y o j) = read_index st t q j v
