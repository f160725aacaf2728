-- The items of a text by its kind, those of them that can be read, and the names that are still to come. Assumes nothing.
use mathlib.Core.Path.{◌≡◌, refl, sym, ap, ◌∙◌}
use mathlib.Core.Bool.{Bool, true, false, cond}
use mathlib.Core.List.{List, [], ◌∷◌, map}
use Prim.Native.Nat.{ℕ}
use Rattle.ground.specs.Lists.{gather}
use Rattle.paper.specs.Grammar.{Bytes, Line, got, stuck}
use Rattle.paper.specs.Published.{Name, Named, NamedItem, read_by, constraint, target, proof_step, target_items}
use Rattle.paper.specs.Rules.{Store}
use Rattle.paper.specs.Named.{names_in, readable, with_names, numbered}
use Rattle.paper.proofs.Names.{with_append}
use Rattle.names.specs.declared.numbering.Numbering.{Numbering}
use Rattle.names.specs.Names.{number_by, names_with}
use Rattle.names.specs.Numbered.{held_by}
use Rattle.named.specs.Reads.{NamesAre}
use Rattle.steps.specs.Items.{ItemIs}
use Rattle.published.specs.Statements.{reader_of, kind_behind, items_of, NamedItemIs}
use Rattle.published.specs.declared.statement.StatementRead.{StatementRead}
use Rattle.triple.proofs.Agreeing.{AllNames, named_item}

-- ---- the items of a text: one reader for all of them, but for the target
items_steady : (kind : ℕ) → kind_behind kind ≡ kind → (ls : List Line) → items_of kind ls ≡ map (read_by (reader_of kind)) ls
unfolding items_of
items_steady kind e [] = refl
items_steady kind e (l ∷ ls) = ap (λ (is : List NamedItem). read_by (reader_of kind) l ∷ is) (ap (λ (k : ℕ). items_of k ls) e ∙ items_steady kind e ls)

pub items_constraints : (ls : List Line) → items_of 0 ls ≡ map (read_by constraint) ls
items_constraints ls = items_steady 0 refl ls

pub items_none : (ls : List Line) → items_of 2 ls ≡ map (read_by (λ s. stuck s)) ls
items_none ls = items_steady 2 refl ls

pub items_steps : (ls : List Line) → items_of 3 ls ≡ map (read_by proof_step) ls
items_steps ls = items_steady 3 refl ls

pub items_target : (ls : List Line) → items_of 1 ls ≡ target_items ls
unfolding items_of target_items
items_target [] = refl
items_target (l ∷ ls) = ap (λ (is : List NamedItem). read_by target l ∷ is) (items_none ls)

-- ---- those that can be read, up to the first that can't
module _ (i : NamedItem) (is : List NamedItem) where
  pub readable_long : i.long ≡ true → readable (i ∷ is) ≡ []
  unfolding readable
  readable_long l = rw l refl

  pub readable_stuck : (t : Bytes) → i.reads ≡ stuck t → readable (i ∷ is) ≡ []
  unfolding readable
  readable_stuck t e = rw e (go i.long)
    where
      go : (b : Bool) → cond {A = List Named} b [] [] ≡ []
      go true = refl
      go false = refl

  pub readable_got : i.long ≡ false → (st : Named) (t : Bytes) → i.reads ≡ got st t → readable (i ∷ is) ≡ st ∷ readable is
  unfolding readable
  readable_got l st t e = rw (l, e) refl

-- ---- G are the names that are held and all those to come; where names are plain it does not matter
pub record NamesToCome (m : Numbering) (is : List NamedItem) (G : List Name) : Type 0 where
  pub by_place : m.plain ≡ false → G ≡ with_names (held_by m) (gather names_in (readable is))

-- with those of a statement, those behind it come
names_with_law : {m : Numbering} {G : List Name} {i : NamedItem} {is : List NamedItem} → NamesToCome m (i ∷ is) G → (st : Named) (t : Bytes) → i.long ≡ false → i.reads ≡ got st t
    → AllNames m.plain (held_by m) (names_in st) (gather names_in (readable is)) G
unfolding gather
names_with_law {m} {i = i} {is} h st t l e = record {
  by_place = λ p. h.by_place p ∙ ap (λ (sts : List Named). with_names (held_by m) (gather names_in sts)) (readable_got i is l st t e) ∙ with_append (held_by m) (names_in st) (gather names_in (readable is));
}

-- ---- the next item, where G are the names that are held and all those to come
module _ {k : ℕ} {store : Store} {m m' : Numbering} {i : NamedItem} {is : List NamedItem} {G : List Name} {r : StatementRead} (h : NamesToCome m (i ∷ is) G) where
  -- what was read of it is what it says
  pub next_said : {words words' : List ℕ} → (m.plain ≡ true → r.bad ≡ false) → NamedItemIs k store m m' i words words' r
      → ItemIs k store (numbered (number_by m.plain G) i) words words' r.said
  next_said c x = named_item x c (gather names_in (readable is)) G (names_with_law h)

-- behind one that no bad name refuses they are those that are held then, and all to come
pub next_to_come : {m m' : Numbering} {i : NamedItem} {is : List NamedItem} {G : List Name} → NamesToCome m (i ∷ is) G
    → (st : Named) (t : Bytes) → i.long ≡ false → i.reads ≡ got st t → {bad : Bool} → NamesAre m m' (names_in st) bad → bad ≡ false → NamesToCome m' is G
next_to_come {m} {is = is} h st t l e a b = record {
  by_place = λ p.
      let q : m.plain ≡ false = sym a.plain ∙ p in
      (names_with_law h st t l e).by_place q
      ∙ ap (λ (ms : List Name). with_names ms (gather names_in (readable is))) (sym (a.holds b ∙ ap (λ (q : Bool). names_with q (held_by m) (names_in st)) q));
}
