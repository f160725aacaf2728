-- What `NamedItemIs`, the contract of the reader of published statements, decides: whether a name is bad; what is said; and, where no name is bad, as much of
-- the words and of the sum as the contract of a line's reader does. Which names are held behind a statement that is refused is left open. Assumes nothing.
use mathlib.Core.Path.{◌≡◌, refl, sym, ap, subst, subst₂, ◌∙◌}
use mathlib.Core.Bool.{Bool, true, false}
use mathlib.Core.List.{List, []}
use Prim.Native.Nat.{ℕ}
use Rattle.std.specs.Prelude.{Err}
use Rattle.ground.specs.Lists.{any}
use Rattle.limits.specs.Refusals.{number_of}
use Rattle.limits.specs.declared.refusal.Refusal.{Refusal}
use Rattle.limits.proofs.Refusals as refusals
use Rattle.words.proofs.Laws.{Words}
use Rattle.paper.specs.Grammar.{Bytes, Read, got, stuck}
use Rattle.paper.specs.Rules.{Store}
use Rattle.paper.specs.Published.{Name, Named, NamedItem}
use Rattle.paper.specs.Named.{names_in, with_names, numbered}
use Rattle.paper.proofs.Names.{never}
use Rattle.names.specs.declared.numbering.Numbering.{Numbering}
use Rattle.names.specs.Names.{number_by, bad_by, names_with}
use Rattle.names.specs.Numbered.{held_by}
use Rattle.names.proofs.Decided.{SameNames, same_held}
use Rattle.steps.specs.Items.{ItemIs}
use Rattle.steps.proofs.ItemsDecided.{SaysWords, SameItem, items_alike}
use Rattle.published.specs.Statements.{written_by, NamedTells, long, stops, turns, passes, NamedItemIs}
use Rattle.published.specs.declared.statement.StatementRead.{StatementRead}
use Rattle.triple.proofs.Agreeing.{AllNames, written_accepted, named_item}

-- the verdict on a statement that has a bad name
abbrev bad_number : Read Named → ℕ
bad_number (got st t) = written_by true st
bad_number (stuck t) = 0

module _ (m : Numbering) (i : NamedItem) where
  -- whether a statement has one
  abbrev bad_in : Named → Bool
  bad_in st = any (bad_by m.plain (names_with m.plain (held_by m) (names_in st))) (names_in st)

  abbrev bad_read : Bool → Read Named → Bool
  bad_read true x = false
  bad_read false (got st t) = bad_in st
  bad_read false (stuck t) = false

  -- the names that are held where none is bad
  abbrev held_then : Read Named → List Name
  held_then (got st t) = with_names (with_names (held_by m) (names_in st)) []
  held_then (stuck t) = []

  module _ {k : ℕ} {store : Store} {m' : Numbering} {words : List ℕ} {r : StatementRead} where
    bad_told : NamedTells k store m m' i words r → r.bad ≡ bad_read i.long i.reads
    bad_told (long l q b) = b ∙ ap (λ (z : Bool). bad_read z i.reads) (sym l)
    bad_told (stops l t e q b) = b ∙ ap (bad_read false) (sym e) ∙ ap (λ (z : Bool). bad_read z i.reads) (sym l)
    bad_told (turns l st t e a w q d j) = a.some ∙ ap (bad_read false) (sym e) ∙ ap (λ (z : Bool). bad_read z i.reads) (sym l)
    bad_told (passes l st t e a w said q o j) = a.some ∙ ap (bad_read false) (sym e) ∙ ap (λ (z : Bool). bad_read z i.reads) (sym l)

    said_bad_law : NamedTells k store m m' i words r → r.bad ≡ true → (why : Refusal) × (r.said ≡ Err why) × (number_of why ≡ bad_number i.reads)
    said_bad_law (long l q b) z = never (sym z ∙ b)
    said_bad_law (stops l t e q b) z = never (sym z ∙ b)
    said_bad_law (turns l st t e a w q d j) z = (w, q, d ∙ ap (λ (b : Bool). written_by b st) z ∙ ap bad_number (sym e))
    said_bad_law (passes l st t e a w said q o j) z = never (sym z ∙ (written_accepted r.bad st w).1)

-- ---- `read_statement`
module _ (k : ℕ) (store : Store) (m m' : Numbering) (old : SameNames m m') (i : NamedItem) (p q : Numbering) (words u w : List ℕ) (x y : StatementRead)
    (a : NamedItemIs k store m p i words u x) (b : NamedItemIs k store m' q i words w y) where
  same_bad_read : (z : Bool) (r : Read Named) → bad_read m i z r ≡ bad_read m' i z r
  same_bad_read true r = refl
  same_bad_read false (got st t) = λ j. any (bad_by (old.plain j) (names_with (old.plain j) (same_held old j) (names_in st))) (names_in st)
  same_bad_read false (stuck t) = refl

  pub one_bad_name : x.bad ≡ y.bad
  one_bad_name = bad_told m i a.tells ∙ same_bad_read i.long i.reads ∙ sym (bad_told m' i b.tells)

  pub one_refusal : x.bad ≡ true → x.said ≡ y.said
  one_refusal e =
      let f = said_bad_law m i a.tells e in
      let g = said_bad_law m' i b.tells (sym one_bad_name ∙ e) in
      f.1 ∙ ap (λ (why : Refusal). Err why) (refusals.one_refusal f.0 g.0 (f.2 ∙ sym g.2)) ∙ sym g.1

  pub statements_alike : x.bad ≡ false → Words u → Words w → SaysWords x.said → SaysWords y.said → SameItem u w x.said y.said
  statements_alike e c d f g =
      let names : List Name = held_then m i i.reads in
      let all : (st : Named) (t : Bytes) → i.long ≡ false → i.reads ≡ got st t → AllNames m.plain (held_by m) (names_in st) [] names
      = λ st t l z. record { by_place = λ _. ap (held_then m i) z } in
      let all' : (st : Named) (t : Bytes) → i.long ≡ false → i.reads ≡ got st t → AllNames m'.plain (held_by m') (names_in st) [] names
      = λ st t l z. subst₂ (λ (b : Bool) (ms : List Name). AllNames b ms (names_in st) [] names) old.plain (same_held old) (all st t l z) in
      let other : ItemIs k store (numbered (number_by m.plain names) i) words w y.said
      = subst (λ (b : Bool). ItemIs k store (numbered (number_by b names) i) words w y.said) (sym old.plain) (named_item b (λ _. sym one_bad_name ∙ e) [] names all') in
      items_alike k store _ words u w _ _ c d f g (named_item a (λ _. e) [] names all) other
