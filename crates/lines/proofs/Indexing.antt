-- The index of a line that was read stands behind its keyword; ring and goal lines have none. Assumes nothing.
use mathlib.Core.Path.{◌≡◌, refl, sym, ap, subst, ◌∙◌}
use mathlib.Core.Bool.{Bool, true, false, ◌&&◌, cond}
use mathlib.Core.Logic.{◌⊎◌, inl, inr, ⊎_elim}
use mathlib.Core.List.{◌∷◌}
use Prim.Native.Nat.{ℕ, ◌≤◌}
use native.Mathlib.Omega.{arith}
use lib.Dec.{eqb, ltb}
use lib.ListN.{length, drop}
use Rattle.std.specs.Prelude.{Some, None, slice_get}
use borrow.Author.Tests.{le-leb, eqb-true, eqb-false}
use Rattle.ground.proofs.Tests.{split, and_left, by_cond}
use Rattle.ground.specs.Lists.{every}
use Rattle.limits.specs.Limits.{greatest_index, line_bytes}
use Rattle.limits.specs.Verdicts.{ACCEPTED, NUMBER, TERMS}
use Rattle.paper.specs.Rules as paper
use Rattle.paper.specs.Rules.{first, written_rules, rules}
use Rattle.paper.specs.Grammar.{Bytes, bytes, Line, Read, got, stuck, Reader, next, give, literal, end, number, field, pairs, LineKind, whole_line, ring_line, goal_line, kinds, begins_alike, one_of, statement}
use Rattle.paper.specs.Statement.{modulo, Statement, ring, input, goal, lin, del, ext, within, is_index, is_variable, in_range, numbers_in_range}
use Rattle.paper.specs.Answer.{Outcome, stands, refused, index_of, judge, judge_item, item_of}
use Rattle.paper.proofs.Reading.{clash, parted}
use Rattle.steps.specs.Items.{index_of_read}
use Rattle.reader.specs.Verdicts.{verdict_of}
use Rattle.lines.specs.Parts.{always, keyed, pair_ranged, Taken}
use Rattle.lines.specs.Lines.{short_item}
use Rattle.lines.specs.declared.part.NumberRead.{NumberRead}
use Rattle.lines.proofs.LineKinds.{kind_of, no_kind, empty_kind}
use Rattle.lines.proofs.Statements.{ranged_input, ranged_lin, ranged_del, ranged_ext}

-- ---- only a line with its byte 10 can be read
short_of : (x : Read Statement) {st : Statement} {r : Bytes} → next x (λ st r. stuck r) ≡ got st r → ⊥
short_of (got y t) e = clash e
short_of (stuck t) e = clash e

ended_got : (s : Bytes) (ended : Bool) {st : Statement} {r : Bytes} → statement (record { content = s; ended = ended }) ≡ got st r → statement (record { content = s; ended = true }) ≡ got st r
unfolding statement
ended_got s true e = e
ended_got s false e = absurd (short_of (one_of kinds s) e)

-- ---- the statement of a whole line is that of its fields
fields_of : (k : LineKind) (s : Bytes) {st : Statement} {r : Bytes} → whole_line k s ≡ got st r → (t : Bytes) × (u : Bytes) × (literal k.0 s ≡ got tt t) × (k.1 t ≡ got st u)
fields_of k s {st} e =
    let l = parted (literal k.0 s) _ e in
    let f = parted (k.1 l.rest) _ l.second in
    let d = parted (end f.rest) _ f.second in
    let same : f.value ≡ st = (let w = d.second in cc) in
    (l.rest, f.rest, l.first, f.first ∙ ap (λ (x : Statement). got x f.rest) same)

-- the index of x is i, and in range where the numbers of x are
abbrev Has : ℕ → Statement → Type 0
Has i x = (index_of x ≡ i) × (numbers_in_range x ≡ true → is_index i ≡ true)

-- a number first, which all that follows keeps as the index
numbered : (w : Bytes) (g : ℕ → Reader Statement) → ((i : ℕ) (t : Bytes) (x : Statement) (u : Bytes) → g i t ≡ got x u → Has i x)
    → (s : Bytes) {st : Statement} {r : Bytes} → whole_line (w, λ t. next (number t) g) s ≡ got st r → (u : Bytes) × (keyed w number s ≡ got (index_of st) u) × Has (index_of st) st
numbered w g h s {st} e =
    let f = fields_of (w, λ t. next (number t) g) s e in
    let i = parted (number f.0) g f.3 in
    let x = h i.value i.rest st f.1 i.second in (
      i.rest,
      ap (λ (x : Read Unit). next x (λ _. number)) f.2 ∙ i.first ∙ ap (λ (x : ℕ). got x i.rest) (sym x.0),
      subst (λ (j : ℕ). Has j st) (sym x.0) x,
    )

-- ---- what the number of the head is, where the numbers of the line are in range
abbrev HeadIs : Bytes → Bytes → ℕ → Type 0
HeadIs w s n = (i : ℕ) (u : Bytes) → keyed w number s ≡ got i u → is_index i ≡ true → n ≡ i

module _ (w s : Bytes) (i : ℕ) (u : Bytes) (e : keyed w number s ≡ got i u) (h : is_index i ≡ true) where
  pub head_got : (n : NumberRead) → Taken (keyed w number) (within 1 greatest_index) always (λ j. n.value ≡ j) s 0 n.end n.why → n.value ≡ i
  unfolding is_index first
  head_got n t =
      let q : keyed w number s ≡ got t.value (drop n.end s) = t.taken.reads in
      let same : t.value ≡ i = cc in
      t.holds (t.verdict ∙ ap (λ (b : Bool). verdict_of b true) (ap (within 1 greatest_index) same ∙ h)) ∙ same

-- ---- the kinds
in_has : (i : ℕ) (t : Bytes) (x : Statement) (u : Bytes) → next (field t) (λ p. give (input i p)) ≡ got x u → Has i x
unfolding index_of
in_has i t x u e =
    let p = parted (field t) _ e in
    let same : input i p.value ≡ x = (let w = p.second in cc) in
    subst (Has i) same (refl, λ r. and_left (is_index i) (in_range p.value) (ranged_input i p.value ∙ r))

lin_has : (i : ℕ) (t : Bytes) (x : Statement) (u : Bytes) → next (field t) (λ p t. next (pairs t) (λ qs. give (lin i p qs))) ≡ got x u → Has i x
unfolding index_of
lin_has i t x u e =
    let p = parted (field t) _ e in
    let q = parted (pairs p.rest) _ p.second in
    let same : lin i p.value q.value ≡ x = (let w = q.second in cc) in
    subst (Has i) same (refl, λ r. and_left (is_index i) (in_range p.value) (and_left (is_index i && in_range p.value) (every pair_ranged q.value) (ranged_lin i p.value q.value ∙ r)))

del_has : (i : ℕ) (t : Bytes) (x : Statement) (u : Bytes) → give (del i) t ≡ got x u → Has i x
unfolding index_of
del_has i t x u e = let same : del i ≡ x = cc in subst (Has i) same (refl, λ r. ranged_del i ∙ r)

ext_has : (i : ℕ) (t : Bytes) (x : Statement) (u : Bytes) → next (number t) (λ v t. next (field t) (λ p. give (ext i v p))) ≡ got x u → Has i x
unfolding index_of
ext_has i t x u e =
    let v = parted (number t) _ e in
    let p = parted (field v.rest) _ v.second in
    let same : ext i v.value p.value ≡ x = (let w = p.second in cc) in
    subst (Has i) same (refl, λ r. and_left (is_index i) (is_variable v.value) (and_left (is_index i && is_variable v.value) (in_range p.value) (ranged_ext i v.value p.value ∙ r)))

-- ---- a line that begins with b is of the kind k
module _ (s : Bytes) where
  of_kind : (b : ℕ) (k : LineKind) → ((w : Bytes) → one_of kinds (b ∷ w) ≡ whole_line k (b ∷ w)) → slice_get s 0 ≡ Some b → {st : Statement} {t : Bytes}
      → statement (record { content = s; ended = true }) ≡ got st t → whole_line k s ≡ got st t
  unfolding statement
  of_kind b k same e q = sym (kind_of s b k same e) ∙ q

  indexed : (b : ℕ) (w : Bytes) (g : ℕ → Reader Statement) → ((v : Bytes) → one_of kinds (b ∷ v) ≡ whole_line (w, λ t. next (number t) g) (b ∷ v))
      → ((i : ℕ) (t : Bytes) (x : Statement) (u : Bytes) → g i t ≡ got x u → Has i x) → slice_get s 0 ≡ Some b
      → (n : ℕ) → HeadIs w s n → (st : Statement) (t : Bytes) → statement (record { content = s; ended = true }) ≡ got st t → numbers_in_range st ≡ true → n ≡ index_of st
  indexed b w g same has e n f st t q r =
      let x = numbered w g has s (of_kind b (w, λ t. next (number t) g) same e q) in
      f (index_of st) x.0 x.1 (x.2.1 r)

  module _ (n : ℕ) (st : Statement) (t : Bytes) (q : statement (record { content = s; ended = true }) ≡ got st t) (r : numbers_in_range st ≡ true) where
    pub index_input : slice_get s 0 ≡ Some 105 → HeadIs (bytes "in") s n → n ≡ index_of st
    unfolding kinds one_of begins_alike bytes
    index_input e p = indexed 105 (bytes "in") (λ i t. next (field t) (λ p. give (input i p))) (λ v. refl) in_has e n p st t q r

    pub index_lin : slice_get s 0 ≡ Some 108 → HeadIs (bytes "lin") s n → n ≡ index_of st
    unfolding kinds one_of begins_alike bytes
    index_lin e p = indexed 108 (bytes "lin") (λ i t. next (field t) (λ p t. next (pairs t) (λ qs. give (lin i p qs)))) (λ v. refl) lin_has e n p st t q r

    pub index_del : slice_get s 0 ≡ Some 100 → HeadIs (bytes "del") s n → n ≡ index_of st
    unfolding kinds one_of begins_alike bytes
    index_del e p = indexed 100 (bytes "del") (λ i. give (del i)) (λ v. refl) del_has e n p st t q r

    pub index_ext : slice_get s 0 ≡ Some 101 → HeadIs (bytes "ext") s n → n ≡ index_of st
    unfolding kinds one_of begins_alike bytes
    index_ext e p = indexed 101 (bytes "ext") (λ i t. next (number t) (λ v t. next (field t) (λ p. give (ext i v p)))) (λ v. refl) ext_has e n p st t q r

  -- ---- a line of another kind has none
  ring_none : {st : Statement} {r : Bytes} → whole_line ring_line s ≡ got st r → 0 ≡ index_of st
  unfolding index_of
  ring_none {st} e =
      let f = fields_of ring_line s e in
      let k = parted (number f.0) _ f.3 in
      let same : ring (modulo k.value) ≡ st = (let w = k.second in cc) in
      ap index_of same

  goal_none : {st : Statement} {r : Bytes} → whole_line goal_line s ≡ got st r → 0 ≡ index_of st
  unfolding index_of
  goal_none {st} e =
      let f = fields_of goal_line s e in
      let p = parted (field f.0) _ f.3 in
      let same : goal p.value ≡ st = (let w = p.second in cc) in
      ap index_of same

  pub no_index : (b : ℕ) → slice_get s 0 ≡ Some b → (b ≡ 105 → ⊥) → (b ≡ 108 → ⊥) → (b ≡ 100 → ⊥) → (b ≡ 101 → ⊥)
      → (st : Statement) (t : Bytes) → statement (record { content = s; ended = true }) ≡ got st t → 0 ≡ index_of st
  unfolding kinds one_of begins_alike bytes statement
  no_index b f i l d x st t q =
      ⊎_elim (λ e. ring_none (of_kind 114 ring_line (λ v. refl) (f ∙ ap Some (eqb-true b 114 e)) q))
      (λ r. ⊎_elim (λ e. goal_none (of_kind 103 goal_line (λ v. refl) (f ∙ ap Some (eqb-true b 103 e)) q))
      (λ g. absurd (clash (sym (no_kind s b f (eqb-false b 114 r) i (eqb-false b 103 g) l d x) ∙ q)))
      (split (eqb b 103)))
      (split (eqb b 114))

  -- an empty line is no statement
  pub none_read : slice_get s 0 ≡ None → (st : Statement) (t : Bytes) → statement (record { content = s; ended = true }) ≡ got st t → 0 ≡ index_of st
  unfolding statement
  none_read e st t q = absurd (clash (sym (empty_kind s e) ∙ q))

-- ---- what a refused line reports
pub reported : (s : Bytes) (ended : Bool) (v i : ℕ) → TERMS ≤ v
    → (st : Statement) × (t : Bytes) × (statement (record { content = s; ended = ended }) ≡ got st t) × (numbers_in_range st ≡ true)
    → ((st : Statement) (t : Bytes) → statement (record { content = s; ended = true }) ≡ got st t → numbers_in_range st ≡ true → i ≡ index_of st)
    → i ≡ index_of_read v (statement (record { content = s; ended = ended }))
reported s ended v i m x f =
    f x.0 x.1 (ended_got s ended x.2) x.3
    ∙ sym (ap (λ (b : Bool). cond b (index_of x.0) 0) (le-leb TERMS v m))
    ∙ sym (ap (index_of_read v) x.2)

-- ---- a line that is refused from TERMS on was read, and its numbers are in range
abbrev WasRead : Read Statement → Outcome → Type 0
WasRead x (stands s) = Unit {0}
WasRead x (refused v i) = TERMS ≤ v → (st : Statement) × (t : Bytes) × (x ≡ got st t) × (numbers_in_range st ≡ true)

outside : (st : Statement) → numbers_in_range st ≡ false → first (written_rules st) ≡ NUMBER
unfolding first written_rules
outside st e = rw e

judge_read : (capacity : ℕ) (s : paper.State) (st : Statement) (t : Bytes) → (numbers_in_range st ≡ true) ⊎ (numbers_in_range st ≡ false)
    → WasRead (got st t) (judge capacity s (first (written_rules st)) st)
unfolding judge
judge_read capacity s st t (inl e) =
    let w : ℕ = first (written_rules st) in
    by_cond (WasRead (got st t)) (eqb (cond (eqb w ACCEPTED) (first (rules capacity s st)) w) ACCEPTED) (λ _. tt) (λ _ _. (st, t, refl, e))
judge_read capacity s st t (inr e) = rw (outside st e) (λ m. absurd (let z : ⊥ = omega arith in z))

item_read : (capacity : ℕ) (s : paper.State) (l : Line) → WasRead (statement l) (judge_item capacity s (item_of l))
unfolding judge_item item_of
item_read capacity s l =
    by_cond (WasRead (statement l)) (ltb line_bytes (length l.content)) (λ _ m. absurd (let z : ⊥ = omega arith in z)) (λ _. go (statement l))
  where
    go : (x : Read Statement) → WasRead x (judge_item capacity s (short_item x))
    go (got st t) = judge_read capacity s st t (split (numbers_in_range st))
    go (stuck t) = λ m. absurd (let z : ⊥ = omega arith in z)

pub refused_read : (capacity : ℕ) (s : paper.State) (l : Line) {v i : ℕ} → judge_item capacity s (item_of l) ≡ refused v i → TERMS ≤ v
    → (st : Statement) × (t : Bytes) × (statement l ≡ got st t) × (numbers_in_range st ≡ true)
refused_read capacity s l e = subst (WasRead (statement l)) e (item_read capacity s l)
