-- The answer for a text and its lent room, and what the text says.
use mathlib.Core.{Bool.Bool, Bool.◌||◌, Bool.cond, List.List, List.[], List.◌∷◌, List.◌++◌, List.map}
use Rattle.std.specs.Prelude.{ℕ, suc, ◌+◌, ◌/◌, ◌^◌, min}
use lib.{Dec.eqb, Dec.leb, Dec.ltb, ListN.length, ListN.replicate, Bits.bit_or}
use Rattle.limits.specs.Limits.{text_bytes, line_bytes, term_words, least_pool, most_pool_terms, least_scratch}
use Rattle.limits.specs.Verdicts.{ACCEPTED, SHORT, LONGTEXT, LONGLINE, FORM, TERMS, NOGOAL, NOTREACHED}
use Rattle.ground.specs.Lists.{any, total, gather}
use Rattle.algebra.specs.Polynomial.{Poly}
use Rattle.paper.specs.Statement.{bits, Statement, ring, input, goal, lin, del, ext, on_ring, on_input, on_goal, on_ext, forgets, reduced}
use Rattle.paper.specs.Grammar.{Bytes, Line, lines, Read, got, stuck, statement}
use Rattle.paper.specs.Rules.{first, steps, stored_terms, State, start, stored, find, written_rules, rules, after, entries, product_count}

pub record Answer : Type 0 where
  pub verdict : ℕ
  pub line : ℕ
  pub index : ℕ
  pub products : ℕ
  pub polynomials : ℕ
  pub terms : ℕ

-- ---- one line: the next state, or a verdict and an index
pub data Outcome : Type 0 where
  stands : State → Outcome
  refused : ℕ → ℕ → Outcome

unfoldable pub index_of : Statement → ℕ
index_of st = elim st [ ring r ↦ 0 | input i p ↦ i | goal p ↦ 0 | lin i p qs ↦ i | del i ↦ i | ext i v p ↦ i ]

-- behind the verdict on what is written; the index counts from TERMS on
unfoldable pub judge : ℕ → State → ℕ → Statement → Outcome
judge capacity s written st =
    let v : ℕ = cond (eqb written ACCEPTED) (first (rules capacity s st)) written in
    cond (eqb v ACCEPTED) (stands (after s st)) (refused v (cond (leb TERMS v) (index_of st) 0))

-- ---- an item of a text, whatever its syntax: whether it is too long, how it reads, and the verdict on what is written
pub record Item : Type 0 where
  pub long : Bool
  pub reads : Read Statement
  pub written : ℕ

unfoldable pub judge_item : ℕ → State → Item → Outcome
judge_item capacity s i =
    let read : Outcome = elim i.reads [ got st r ↦ judge capacity s i.written st | stuck r ↦ refused FORM 0 ] in
    cond i.long (refused LONGLINE 0) read

-- a line as an item
abbrev pub written_in : Read Statement → ℕ
written_in (got st r) = first (written_rules st)
written_in (stuck r) = ACCEPTED

unfoldable pub item_of : Line → Item
item_of l = record { long = ltb line_bytes (length l.content); reads = statement l; written = written_in (statement l) }

unfoldable pub items : Bytes → List Item
items text = map item_of (lines text)

-- ---- the whole text
unfoldable pub report : State → ℕ → ℕ → ℕ → Answer
report s v n i = record { verdict = v; line = n; index = i; products = s.products; polynomials = length s.store; terms = stored_terms s.store }

unfoldable pub ending : State → ℕ → Answer
ending s n = cond (eqb s.phase steps) (cond s.reached (report s ACCEPTED 0 0) (report s NOTREACHED n 0)) (report s NOGOAL n 0)

-- item by item, n of them before
unfoldable pub run : ℕ → State → ℕ → List Item → Answer
run capacity s n [] = ending s n
run capacity s n (i ∷ is) = elim (judge_item capacity s i) [ stands s' ↦ run capacity s' (suc n) is | refused v j ↦ report s v (suc n) j ]

-- the terms that a pool holds
unfoldable pub capacity_of : ℕ → ℕ
capacity_of pool = min (pool / term_words) most_pool_terms

-- where the text is not read
unfoldable pub unread : ℕ → Answer
unread v = record { verdict = v; line = 0; index = 0; products = 0; polynomials = 0; terms = 0 }

unfoldable pub answer : Bytes → ℕ → ℕ → Answer
answer text pool scratch =
    let whole : Answer = run (capacity_of pool) start 0 (items text) in
    cond (ltb pool least_pool || ltb scratch least_scratch) (unread SHORT) (cond (ltb text_bytes (length text)) (unread LONGTEXT) whole)

-- pool or scratch afterwards: untouched after SHORT and LONGTEXT, else zero throughout
unfoldable pub room_after : ℕ → List ℕ → List ℕ
room_after verdict room = cond (eqb verdict SHORT || eqb verdict LONGTEXT) room (replicate (length room) 0)

-- ---- what a text says: all its statements; and those that are accepted, the newest first
abbrev pub if_read : Read Statement → List Statement
if_read (got st r) = st ∷ []
if_read (stuck r) = []

unfoldable pub statements_of : List Item → List Statement
statements_of is = gather (λ i. if_read i.reads) is

unfoldable pub statements : Bytes → List Statement
statements text = statements_of (items text)

unfoldable pub accepted_from : ℕ → State → List Statement → List Item → List Statement
accepted_from capacity s h [] = h
accepted_from capacity s h (i ∷ is) = elim (judge_item capacity s i) [ stands s' ↦ accepted_from capacity s' (if_read i.reads ++ h) is | refused v j ↦ h ]

unfoldable pub accepted : Bytes → ℕ → List Statement
accepted text pool = accepted_from (capacity_of pool) start [] (items text)

unfoldable pub ring_in : List Statement → ℕ
ring_in [] = 0
ring_in (st ∷ sts) = on_ring (ring_in sts) bits st

-- the variables that ext lines define
unfoldable pub defined_in : List Statement → ℕ
defined_in [] = 0
defined_in (st ∷ sts) = bit_or (on_ext 0 (λ i v p. 2 ^ v) st) (defined_in sts)

-- a sum over accepted statements; f takes those before and the statement
unfoldable pub sum_over : (List Statement → Statement → ℕ) → List Statement → ℕ
sum_over f [] = 0
sum_over f (st ∷ h) = sum_over f h + f h st

unfoldable pub deleted_polynomials : List Statement → ℕ
deleted_polynomials = sum_over (λ h st. length (forgets st))

module _ (k : ℕ) where
  unfoldable pub inputs_in : List Statement → List Poly
  inputs_in sts = gather (on_input [] (λ i p. reduced k p ∷ [])) sts

  unfoldable pub goal_in : List Statement → Poly
  goal_in [] = []
  goal_in (st ∷ sts) = on_goal (goal_in sts) (λ p. reduced k p) st

  -- the polynomials of the in, lin and ext lines
  unfoldable pub introduced_in : List Statement → List Poly
  introduced_in sts = gather (λ st. map (λ e. e.poly) (entries k st)) sts

  -- ---- the counts over accepted statements; `named` is the polynomial that an index names after them
  unfoldable pub named : List Statement → ℕ → Poly
  named [] i = []
  named (st ∷ h) i = cond (stored (entries k st) i) (find (entries k st) i) (cond (any (eqb i) (forgets st)) [] (named h i))

  unfoldable pub products_in : List Statement → ℕ
  products_in = sum_over (λ h st. product_count k (named h) st)

  unfoldable pub introduced_polynomials : List Statement → ℕ
  introduced_polynomials = sum_over (λ h st. length (entries k st))

  unfoldable pub introduced_terms : List Statement → ℕ
  introduced_terms = sum_over (λ h st. stored_terms (entries k st))

  unfoldable pub deleted_terms : List Statement → ℕ
  deleted_terms = sum_over (λ h st. total (λ i. length (named h i)) (forgets st))
