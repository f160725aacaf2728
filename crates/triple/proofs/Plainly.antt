-- Statements read for their names alone: one that is not plain, one that can't be read, and those behind. Assumes nothing.
use mathlib.Core.Path.{◌≡◌, refl, sym, ap, ◌∙◌}
use mathlib.Core.Bool.{Bool, true, false, ◌&&◌, ◌||◌}
use mathlib.Core.List.{List, [], ◌∷◌, ◌++◌, append-nil}
use Prim.Native.Nat.{ℕ}
use lib.Dec.{eqb}
use Rattle.std.specs.Prelude.{Option, Some, None, Result, Err}
use Rattle.ground.specs.Lists.{every, gather}
use Rattle.limits.specs.Refusals.{number_of}
use Rattle.limits.specs.Verdicts.{LONGLINE, FORM}
use Rattle.limits.specs.declared.refusal.Refusal.{Refusal}
use Rattle.paper.specs.Grammar.{Bytes, got, stuck}
use Rattle.paper.specs.Rules.{Store}
use Rattle.paper.specs.Published.{Named, NamedItem}
use Rattle.paper.specs.Named.{Texts, names_in, readable, is_plain, named_items}
use Rattle.paper.proofs.Names.{never}
use Rattle.names.specs.declared.numbering.Numbering.{Numbering}
use Rattle.steps.specs.declared.said.Said.{Said}
use Rattle.published.specs.Statements.{NamedTells, long, stops, turns, passes}
use Rattle.published.specs.declared.statement.StatementRead.{StatementRead}
use Rattle.triple.specs.Courses.{all_plain, known_or, unreadable}
use Rattle.triple.proofs.ReadItems.{readable_long, readable_stuck}
use Rattle.triple.proofs.Passing.{of_constraints, of_target}
use Rattle.triple.proofs.Telling.{plain_first, bad_some, good_all, written_read}

module _ (i : NamedItem) (is : List NamedItem) where
  none_long : i.long ≡ true → all_plain (i ∷ is) ≡ true
  unfolding gather every
  none_long l = ap (λ (sts : List Named). every is_plain (gather names_in sts)) (readable_long i is l)

  none_stuck : (t : Bytes) → i.reads ≡ stuck t → all_plain (i ∷ is) ≡ true
  unfolding gather every
  none_stuck t e = ap (λ (sts : List Named). every is_plain (gather names_in sts)) (readable_stuck i is t e)

  module _ (l : i.long ≡ false) (st : Named) (t : Bytes) (e : i.reads ≡ got st t) where
    by_names : (b : Bool) → every is_plain (names_in st) ≡ b → all_plain (i ∷ is) ≡ (b && all_plain is)
    by_names b q = plain_first i is l st t e ∙ ap (λ (c : Bool). c && all_plain is) q

refused_read : (said : Result Said Refusal) (why : Refusal) → said ≡ Err why → unreadable said ≡ (eqb (number_of why) LONGLINE || eqb (number_of why) FORM)
refused_read said why e = ap unreadable e

module _ {k : ℕ} {store : Store} {m m' : Numbering} {i : NamedItem} {words : List ℕ} {r : StatementRead} (p : m.plain ≡ true) (h : NamedTells k store m m' i words r) (is : List NamedItem) where
  -- a name that is not plain
  pub bad_plain : r.bad ≡ true → false ≡ all_plain (i ∷ is)
  bad_plain b = go h
    where
      go : NamedTells k store m m' i words r → false ≡ all_plain (i ∷ is)
      go (long l q n) = never (sym b ∙ n)
      go (stops l t e q n) = never (sym b ∙ n)
      go (turns l st t e a w q d f) = sym (by_names i is l st t e false (bad_some p a b))
      go (passes l st t e a w said q o f) = sym (by_names i is l st t e false (bad_some p a b))

  -- one that can't be read
  pub unread_plain : unreadable r.said ≡ true → true ≡ all_plain (i ∷ is)
  unread_plain u = go h
    where
      go : NamedTells k store m m' i words r → true ≡ all_plain (i ∷ is)
      go (long l q b) = sym (none_long i is l)
      go (stops l t e q b) = sym (none_stuck i is t e)
      go (turns l st t e a w q d f) = never (sym u ∙ refused_read r.said w q ∙ ap (λ (v : ℕ). eqb v LONGLINE || eqb v FORM) d ∙ written_read r.bad st)
      go (passes l st t e a w said q o f) = never (sym u ∙ ap unreadable q)

  -- else those behind it decide
  pub open_plain : r.bad ≡ false → unreadable r.said ≡ false → all_plain (i ∷ is) ≡ all_plain is
  open_plain b u = go h
    where
      go : NamedTells k store m m' i words r → all_plain (i ∷ is) ≡ all_plain is
      go (long l q n) = never (sym (ap unreadable q) ∙ u)
      go (stops l t e q n) = never (sym (ap unreadable q) ∙ u)
      go (turns l st t e a w q d f) = by_names i is l st t e true (good_all p a b)
      go (passes l st t e a w said q o f) = by_names i is l st t e true (good_all p a b)

-- ---- three texts in turn
abbrev Decides : List NamedItem → Option Bool → Type 0
Decides is r = (rest : List NamedItem) → all_plain (is ++ rest) ≡ known_or (all_plain rest) r

module _ (t : Texts) (rest : List NamedItem) (e : named_items t ≡ of_constraints t ++ (of_target t ++ rest)) {a : Option Bool} (x : Decides (of_constraints t) a) where
  pub first_known : {b : Bool} → a ≡ Some b → b ≡ all_plain (named_items t)
  first_known o = sym (ap all_plain e ∙ x (of_target t ++ rest) ∙ ap (known_or (all_plain (of_target t ++ rest))) o)

  module _ (o : a ≡ None) (b : Option Bool) (y : Decides (of_target t) b) where
    first_open : all_plain (named_items t) ≡ known_or (all_plain rest) b
    first_open = ap all_plain e ∙ x (of_target t ++ rest) ∙ ap (known_or (all_plain (of_target t ++ rest))) o ∙ y rest

    pub second_known : {c : Bool} → b ≡ Some c → c ≡ all_plain (named_items t)
    second_known p = sym (first_open ∙ ap (known_or (all_plain rest)) p)

    pub second_open : b ≡ None → all_plain (named_items t) ≡ all_plain rest
    second_open p = first_open ∙ ap (known_or (all_plain rest)) p

pub plain_end : true ≡ all_plain []
unfolding readable gather every
plain_end = refl

pub third_plain : (is : List NamedItem) (c : Option Bool) → Decides is c → known_or true c ≡ all_plain is
third_plain is c z = ap (λ (b : Bool). known_or b c) plain_end ∙ sym (z []) ∙ ap all_plain (append-nil is)
