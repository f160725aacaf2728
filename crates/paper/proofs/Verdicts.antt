-- The verdicts of texts that are read: late ones, neither SHORT nor LONGTEXT, and none above NAMES. Assumes nothing.
use mathlib.Core.Path.{◌≡◌, refl}
use mathlib.Core.Bool.{Bool, true, ◌&&◌, ◌||◌, not, cond}
use mathlib.Core.List.{List, [], ◌∷◌, map}
use Prim.Native.Nat.{ℕ, suc}
use lib.Dec.{eqb, leb}
use Rattle.ground.specs.Lists.{every, gather}
use Rattle.ground.proofs.Tests.{and_left, and_right, by_cond}
use Rattle.limits.specs.Verdicts.{ACCEPTED, SHORT, LONGTEXT, FORM, NAMES}
use Rattle.paper.specs.Grammar.{Bytes, Line, lines, Read, got, stuck, statement}
use Rattle.paper.specs.Statement.{Statement}
use Rattle.paper.specs.Rules.{first, steps, State, written_rules, rules}
use Rattle.paper.specs.Answer.{Answer, Outcome, stands, refused, judge, Item, judge_item, item_of, items, report, ending, run}
use Rattle.paper.specs.Published.{Name, Named, NamedItem}
use Rattle.paper.specs.Named.{names_in, readable, numbering, named_rules, numbered, Texts, named_items, published_items}

abbrev pub early : ℕ → Bool
early v = eqb v SHORT || eqb v LONGTEXT

abbrev pub late : ℕ → Bool
late v = not (early v) && leb v NAMES

first_late : (rs : List (ℕ × Bool)) → every (λ r. late r.0) rs ≡ true → late (first rs) ≡ true
unfolding first every
first_late [] h = refl
first_late (r ∷ rs) h =
    by_cond (λ (v : ℕ). late v ≡ true) r.1
    (λ _. and_left (late r.0) (every (λ r. late r.0) rs) h)
    (λ _. first_late rs (and_right (late r.0) (every (λ r. late r.0) rs) h))

-- ---- items whose verdict on what is written is late
abbrev LateItems : List Item → Type 0
LateItems [] = Unit {0}
LateItems (i ∷ is) = (late i.written ≡ true) × LateItems is

line_late : (l : Line) → late (item_of l).written ≡ true
unfolding item_of written_rules every
line_late l = go (statement l)
  where
    go : (x : Read Statement) → late (elim x [ got st r ↦ first (written_rules st) | stuck r ↦ ACCEPTED ]) ≡ true
    go (got st r) = first_late (written_rules st) refl
    go (stuck r) = refl

lines_late : (ls : List Line) → LateItems (map item_of ls)
lines_late [] = tt
lines_late (l ∷ ls) = (line_late l, lines_late ls)

numbered_late : (f : Name → ℕ) (is : List NamedItem) → LateItems (map (numbered f) is)
unfolding numbered named_rules every
numbered_late f [] = tt
numbered_late f (i ∷ is) = (go i.reads, numbered_late f is)
  where
    go : (x : Read Named) → late (elim x [ got st r ↦ first (named_rules f st) | stuck r ↦ ACCEPTED ]) ≡ true
    go (got st r) = first_late (named_rules f st) refl
    go (stuck r) = refl

-- ---- a run
module _ (capacity : ℕ) where
  abbrev RefusesLate : Outcome → Type 0
  RefusesLate (stands s) = Unit {0}
  RefusesLate (refused v i) = late v ≡ true

  read_late : (s : State) (w : ℕ) → late w ≡ true → (r : Read Statement) → RefusesLate (elim r [ got st t ↦ judge capacity s w st | stuck t ↦ refused FORM 0 ])
  unfolding judge rules every
  read_late s w h (got st r) =
      by_cond RefusesLate (eqb (cond (eqb w ACCEPTED) (first (rules capacity s st)) w) ACCEPTED) (λ _. tt)
      (λ _. by_cond (λ (v : ℕ). late v ≡ true) (eqb w ACCEPTED) (λ _. first_late (rules capacity s st) refl) (λ _. h))
  read_late s w h (stuck r) = refl

  item_late : (s : State) (i : Item) → late i.written ≡ true → RefusesLate (judge_item capacity s i)
  unfolding judge_item
  item_late s i h = by_cond RefusesLate i.long (λ _. refl) (λ _. read_late s i.written h i.reads)

  ending_late : (s : State) (n : ℕ) → late (ending s n).verdict ≡ true
  unfolding ending report
  ending_late s n = by_cond EndsLate (eqb s.phase steps) (λ _. by_cond EndsLate s.reached (λ _. refl) (λ _. refl)) (λ _. refl)
    where
      EndsLate : Answer → Type 0
      EndsLate a = late a.verdict ≡ true

  run_late : (s : State) (n : ℕ) (is : List Item) → LateItems is → late (run capacity s n is).verdict ≡ true
  unfolding run report
  run_late s n [] h = ending_late s n
  run_late s n (i ∷ is) h = go (judge_item capacity s i) (item_late s i h.0) (λ s'. run_late s' (suc n) is h.1)
    where
      go : (o : Outcome) → RefusesLate o → ((s' : State) → late (run capacity s' (suc n) is).verdict ≡ true)
          → late (elim o as (λ _. Answer) [ stands s' ↦ run capacity s' (suc n) is | refused v j ↦ report s v (suc n) j ]).verdict ≡ true
      go (stands s') h rest = rest s'
      go (refused v i) h rest = h

  pub text_late : (s : State) (n : ℕ) (text : Bytes) → late (run capacity s n (items text)).verdict ≡ true
  unfolding items
  text_late s n text = run_late s n (items text) (lines_late (lines text))

  pub texts_late : (s : State) (n : ℕ) (t : Texts) → late (run capacity s n (published_items t)).verdict ≡ true
  unfolding published_items
  texts_late s n t = run_late s n (published_items t) (numbered_late (numbering (gather names_in (readable (named_items t)))) (named_items t))
