-- Statements judged one after the other: each leads on, to the items behind it or to the answer of a refusal. Assumes nothing.
use mathlib.Core.Path.{◌≡◌, refl, sym, ap, ap₂, subst, ◌∙◌}
use mathlib.Core.Bool.{Bool, true, false}
use mathlib.Core.List.{List, [], ◌∷◌, ◌++◌, map, append_assoc}
use Prim.Native.Nat.{ℕ, suc, ◌+◌, ◌-◌, ◌≤◌, ◌<◌}
use native.Mathlib.Omega.{arith}
use lib.Dec.{ltb}
use lib.ListN.{length, drop, get_or}
use Rattle.std.specs.Prelude.{Result, Ok, Err}
use Rattle.limits.specs.Limits.{text_bytes}
use Rattle.limits.specs.Refusals.{outcome}
use Rattle.limits.specs.declared.refusal.Refusal.{Refusal}
use Rattle.limits.proofs.Refusals.{refuses}
use Rattle.words.specs.Parts.{part}
use Rattle.paper.specs.Grammar.{Bytes, Line}
use Rattle.paper.specs.Answer.{Answer, Item, run, report}
use Rattle.paper.specs.Published.{Name, is_space, pieces, NamedItem, read_by}
use Rattle.paper.specs.Named.{with_names, numbered}
use Rattle.paper.proofs.Running.{run_stands, run_refused}
use Rattle.names.specs.declared.numbering.Numbering.{Numbering}
use Rattle.names.specs.Names.{number_by}
use Rattle.names.specs.Numbered.{held_by}
use Rattle.reader.specs.Search.{FirstOrEnd}
use Rattle.table.specs.Table.{Packed, store_of}
use Rattle.steps.specs.declared.state.State.{State}
use Rattle.steps.specs.State.{state_of, Ready}
use Rattle.steps.specs.Stepped.{Room}
use Rattle.steps.specs.declared.said.Said.{Said}
use Rattle.steps.specs.Items.{index_of_read, ItemIs, ItemJudged, Unread}
use Rattle.published.specs.Statements.{reader_of, kind_behind, items_of, NamedItemIs}
use Rattle.published.specs.declared.statement.StatementRead.{StatementRead}
use Rattle.checker.proofs.Running.{reports_same}
use Rattle.triple.specs.declared.course.Refused.{Refused}
use Rattle.triple.specs.Courses.{BeginsAt, names_from, all_plain, counted_index, Underway, Onward, Turned, Judging}
use Rattle.triple.proofs.ReadItems.{NamesToCome, next_said, next_to_come}
use Rattle.triple.proofs.Starting.{no_pieces, next_piece}
use Rattle.triple.proofs.Agreeing.{stepped_index, refused_index}
use Rattle.triple.proofs.Telling.{WellWritten, well_written, own_item, plain_good, plain_read}

-- ---- one statement
module _ {capacity : ℕ} {m m' : Numbering} {i : NamedItem} {read : StatementRead} {s : State} {pool words words' : List ℕ}
    (x : NamedItemIs s.ring (store_of s.table pool) m m' i words words' read) {ms : List Name} {a : Answer} {is : List NamedItem}
    (u : Underway capacity ms a (i ∷ is) m s pool words) where
  to_come : NamesToCome m (i ∷ is) ms
  to_come = record { by_place = u.places }

  -- the item in the numbers that ms gives
  abbrev item : Item
  item = numbered (number_by m.plain ms) i

  abbrev behind : List Item
  behind = map (numbered (number_by m.plain ms)) is

  pub head : ItemIs s.ring (store_of s.table pool) item words words' read.said
  head = next_said to_come (λ p. plain_good p x.tells is (u.plainly p)) x

  module _ {r : Result Unit Refusal} {s' : State} {pool' words'' : List ℕ} (j : ItemJudged capacity item s pool words r s' pool' words'') where
    -- one that stands leads on
    pub underway_next : outcome r ≡ 0 → WellWritten m m' i read → Underway capacity ms a is m' s' pool' words''
    underway_next w t =
        let n = j.lines w in
        let e : suc s.lines ≡ s'.lines = omega arith in
        record {
          same = u.same ∙ run_stands capacity (state_of s pool words) s.lines item behind (state_of s' pool' words'') (j.stands w)
              ∙ ap₂ (λ (n : ℕ) (b : Bool). run capacity (state_of s' pool' words'') n (map (numbered (number_by b ms)) is)) e (sym t.named.plain);
          plainly = λ p. let q : m.plain ≡ true = sym t.named.plain ∙ p in sym (plain_read q t is) ∙ u.plainly q;
          places = (next_to_come to_come t.value t.rest t.short t.reads t.named t.good).by_place;
        }

    -- a refused one gives the answer, whatever the rooms
    pub underway_refused : (outcome r ≡ 0 → ⊥) → index_of_read (outcome r) item.reads ≡ counted_index (outcome r) read.index → Packed s.table → (p q : List ℕ) → a ≡ report (state_of s' p q) (outcome r) (suc s'.lines) (counted_index (outcome r) read.index)
    underway_refused n h f p q =
        let v = outcome r in
        let k = index_of_read v item.reads in
        u.same ∙ run_refused capacity (state_of s pool words) s.lines item behind v k (j.refused n) ∙ sym (reports_same (j.back n) f v k p q pool words)
        ∙ ap (report (state_of s' p q) v (suc s'.lines)) h

-- what is refused has no items to come
pub underway_other : {capacity : ℕ} {ms : List Name} {a : Answer} {is js : List NamedItem} {m : Numbering} {s : State} {pool scratch : List ℕ}
    → is ≡ js → Underway capacity ms a is m s pool scratch → Underway capacity ms a js m s pool scratch
underway_other {capacity} {ms} {m = m} {s} {pool} {scratch} e u =
    record {
      same = u.same ∙ ap (λ (l : List NamedItem). run capacity (state_of s pool scratch) s.lines (map (numbered (number_by m.plain ms)) l)) e;
      plainly = λ p. sym (ap all_plain e) ∙ u.plainly p;
      places = λ q. u.places q ∙ ap (λ (l : List NamedItem). with_names (held_by m) (names_from l)) e;
    }

-- ---- the statements of a text
abbrev pub piece_at : Bytes → ℕ → ℕ → Line
piece_at text at e = record { content = part at (e - at) text; ended = ltb e (length text) }

-- where the loop stands: at white space no more, and at the end at most
pub record AtPiece (text : Bytes) (at : ℕ) : Type 0 where
  pub inside : at ≤ length text
  pub clear : at < length text → is_space (get_or text at 0) ≡ false

pub at_piece : {text : Bytes} {from at : ℕ} → BeginsAt text from at → AtPiece text at
at_piece b = record { inside = b.inside; clear = b.clear }

-- the items from a place on: the one that is there, and those behind it
pub items_first : {text : Bytes} (kind : ℕ) {at e : ℕ} → at < length text → AtPiece text at → FirstOrEnd 59 text at e
    → items_of kind (pieces (drop at text)) ≡ read_by (reader_of kind) (piece_at text at e) ∷ items_of (kind_behind kind) (pieces (drop (e + 1) text))
unfolding items_of
items_first {text} kind {at} {e} h s f = ap (items_of kind) (next_piece text at e h (s.clear h) f)

-- from the next place on
pub items_next : {text : Bytes} (kind : ℕ) {at e at' next : ℕ} → at < length text → AtPiece text at → FirstOrEnd 59 text at e → BeginsAt text (e + 1) at' → next ≡ kind_behind kind
    → items_of kind (pieces (drop at text)) ≡ read_by (reader_of kind) (piece_at text at e) ∷ items_of next (pieces (drop at' text))
items_next {text} kind {at} {e} h s f b n =
    items_first kind h s f ∙ ap₂ (λ (k : ℕ) (ls : List Line). read_by (reader_of kind) (piece_at text at e) ∷ items_of k ls) (sym n) b.same

pub items_end : (text : Bytes) (kind at : ℕ) → length text ≤ at → items_of kind (pieces (drop at text)) ≡ []
unfolding items_of
items_end text kind at h = ap (items_of kind) (no_pieces text at h)

module _ {capacity : ℕ} {before : List NamedItem} {m₀ : Numbering} {s₀ : State} {pool₀ scratch₀ : List ℕ} where
  pub onward_start : {is : List NamedItem} {most : ℕ} → Ready capacity s₀ pool₀ scratch₀ → s₀.lines ≤ most → before ≡ is
      → Onward capacity before m₀ s₀ pool₀ scratch₀ is m₀ s₀ pool₀ scratch₀ most
  onward_start r l e =
      record {
        ready = r;
        few = l;
        same = refl;
        plainly = λ _ rest. ap (λ (is : List NamedItem). all_plain (is ++ rest)) e;
        onward = λ ms a rest u. underway_other (ap (λ (is : List NamedItem). is ++ rest) e) u;
      }

  module _ {m : Numbering} {s : State} {pool scratch : List ℕ} {most : ℕ} {is : List NamedItem} (g : Onward capacity before m₀ s₀ pool₀ scratch₀ is m s pool scratch most) where
    pub onward_room : most ≤ text_bytes → Room capacity s pool scratch
    onward_room l = record { ready = g.ready; early = omega (arith, g.few) }

    module _ {i : NamedItem} {js : List NamedItem} (e : is ≡ i ∷ js) {m' : Numbering} {scratch' : List ℕ} {read : StatementRead}
        (x : NamedItemIs s.ring (store_of s.table pool) m m' i scratch scratch' read) {r : Result Unit Refusal} {s' : State} {pool' scratch'' : List ℕ}
        (j : (item : Item) (words : List ℕ) → ItemIs s.ring (store_of s.table pool) item words scratch' read.said → ItemJudged capacity item s pool words r s' pool' scratch'')
        (n : (why : Refusal) → read.said ≡ Err why → Unread why s pool scratch' r s' pool' scratch'') (p : m'.plain ≡ m.plain) where
      at_item : (ms : List Name) (a : Answer) (rest : List NamedItem) → Underway capacity ms a (before ++ rest) m₀ s₀ pool₀ scratch₀ → Underway capacity ms a (i ∷ (js ++ rest)) m s pool scratch
      at_item ms a rest u = underway_other (ap (λ (is : List NamedItem). is ++ rest) e) (g.onward ms a rest u)

      -- what stands was said
      was_said : outcome r ≡ 0 → (said : Said) × (read.said ≡ Ok said)
      was_said w = go read.said refl
        where
          go : (y : Result Said Refusal) → read.said ≡ y → (said : Said) × (read.said ≡ Ok said)
          go (Ok said) q = (said, q)
          go (Err why) q = absurd (refuses why (sym (ap outcome (n why q).refused) ∙ w))

      pub onward_next : outcome r ≡ 0 → {more : ℕ} → most < more → Onward capacity before m₀ s₀ pool₀ scratch₀ js m' s' pool' scratch'' more
      onward_next w l =
          let y = was_said w in
          let t = well_written x.tells y.1 in
          let k = j _ _ (own_item x y.1).1 in
          record {
            ready = k.ready w;
            few = omega (arith, k.lines w, g.few);
            same = p ∙ g.same;
            plainly = λ q rest. g.plainly q rest ∙ ap (λ (is : List NamedItem). all_plain (is ++ rest)) e ∙ plain_read (g.same ∙ q) t (js ++ rest);
            onward = λ ms a rest u. let v = at_item ms a rest u in underway_next x v (j _ _ (head x v)) w t;
          }

      -- what is refused leaves the state as it was
      back : (outcome r ≡ 0 → ⊥) → s' ≡ s
      back w = go read.said refl
        where
          go : (y : Result Said Refusal) → read.said ≡ y → s' ≡ s
          go (Ok said) q = (j _ _ (own_item x q).1).back w
          go (Err why) q = (n why q).back

      reports_index : (f : Name → ℕ) → index_of_read (outcome r) (numbered f i).reads ≡ counted_index (outcome r) read.index
      reports_index f = go read.said refl
        where
          go : (y : Result Said Refusal) → read.said ≡ y → index_of_read (outcome r) (numbered f i).reads ≡ counted_index (outcome r) read.index
          go (Ok said) q = stepped_index f x.tells q (outcome r)
          go (Err why) q = subst (λ (v : ℕ). index_of_read v (numbered f i).reads ≡ counted_index v read.index) (sym (ap outcome (n why q).refused)) (refused_index f x.tells why q)

      pub onward_refused : {why : Refusal} → r ≡ Err why → {more : ℕ} → most ≤ more → Turned capacity before m₀ s₀ pool₀ scratch₀ (record { why = why; index = read.index }) m' s' more
      onward_refused {why} q l =
          let w : outcome r ≡ 0 → ⊥ = λ z. refuses why (sym (ap outcome q) ∙ z) in
          record {
            packed = subst (λ (s : State). Packed s.table) (sym (back w)) g.ready.fitting.packed;
            few = omega (arith, ap (λ (s : State). s.lines) (back w), g.few);
            same = p ∙ g.same;
            gives = λ ms a rest u p' q'.
                let v = at_item ms a rest u in
                subst (λ (v : ℕ). a ≡ report (state_of s' p' q') v (suc s'.lines) (counted_index v read.index)) (ap outcome q)
                (underway_refused x v (j _ _ (head x v)) w (reports_index (number_by m.plain ms)) g.ready.fitting.packed p' q');
          }

    pub onward_end : is ≡ [] → {more : ℕ} → most ≤ more → Onward capacity before m₀ s₀ pool₀ scratch₀ [] m s pool scratch more
    onward_end e l =
        record {
          ready = g.ready;
          few = omega (arith, g.few);
          same = g.same;
          plainly = λ p rest. g.plainly p rest ∙ ap (λ (is : List NamedItem). all_plain (is ++ rest)) e;
          onward = λ ms a rest u. underway_other (ap (λ (is : List NamedItem). is ++ rest) e) (g.onward ms a rest u);
        }

-- ---- all of them
module _ {capacity : ℕ} {before : List NamedItem} {m m' : Numbering} {s s' : State} {pool scratch pool' scratch' : List ℕ} {most : ℕ} where
  pub judging_on : {x : Unit} → Onward capacity before m s pool scratch [] m' s' pool' scratch' most → Judging capacity before m s pool scratch (Ok x) m' s' pool' scratch' most
  judging_on o = record { on = λ _ _. o; off = λ w e. absurd (let z : ⊥ = cc in z) }

  pub judging_off : {r : Result Unit Refused} {w : Refused} → r ≡ Err w → Turned capacity before m s pool scratch w m' s' most → Judging capacity before m s pool scratch r m' s' pool' scratch' most
  judging_off {r} {w} e t =
      record {
        on = λ x f. absurd (let z : ⊥ = cc in z);
        off = λ v f. subst (λ (w : Refused). Turned capacity before m s pool scratch w m' s' most) (let q : w ≡ v = cc in q) t;
      }

-- ---- texts in turn: behind the items of one there are those of the next
module _ {capacity : ℕ} {before : List NamedItem} {m₀ : Numbering} {s₀ : State} {pool₀ scratch₀ : List ℕ} where
  -- more of them that are not reached
  pub turned_more : (behind : List NamedItem) {m : Numbering} {s : State} {r : Refused} {most : ℕ} → Turned capacity before m₀ s₀ pool₀ scratch₀ r m s most
      → Turned capacity (before ++ behind) m₀ s₀ pool₀ scratch₀ r m s most
  turned_more behind h =
      record {
        packed = h.packed;
        few = h.few;
        same = h.same;
        gives = λ ms a rest u. h.gives ms a (behind ++ rest) (underway_other (append_assoc before behind rest) u);
      }

  module _ {m : Numbering} {s : State} {pool scratch : List ℕ} {l : ℕ} (g : Onward capacity before m₀ s₀ pool₀ scratch₀ [] m s pool scratch l)
      {behind : List NamedItem} {m' : Numbering} {s' : State} {most : ℕ} where
    pub onward_on : {pool' scratch' : List ℕ} → Onward capacity behind m s pool scratch [] m' s' pool' scratch' most
        → Onward capacity (before ++ behind) m₀ s₀ pool₀ scratch₀ [] m' s' pool' scratch' most
    onward_on h =
        record {
          ready = h.ready;
          few = h.few;
          same = h.same ∙ g.same;
          plainly = λ p rest. ap all_plain (append_assoc before behind rest) ∙ g.plainly p (behind ++ rest) ∙ h.plainly (g.same ∙ p) rest;
          onward = λ ms a rest u. h.onward ms a rest (g.onward ms a (behind ++ rest) (underway_other (append_assoc before behind rest) u));
        }

    pub turned_on : {r : Refused} → Turned capacity behind m s pool scratch r m' s' most → Turned capacity (before ++ behind) m₀ s₀ pool₀ scratch₀ r m' s' most
    turned_on h =
        record {
          packed = h.packed;
          few = h.few;
          same = h.same ∙ g.same;
          gives = λ ms a rest u. h.gives ms a rest (g.onward ms a (behind ++ rest) (underway_other (append_assoc before behind rest) u));
        }
