-- When a statement is refused, in the order of the verdicts, and what one that stands changes.
use mathlib.Core.{Path.◌≡◌, Bool.Bool, Bool.cond, Bool.false, Bool.◌||◌, Bool.not, List.List, List.[], List.◌∷◌, List.◌++◌}
use Rattle.std.specs.Prelude.{ℕ, ◌+◌, ◌*◌, ◌^◌}
use lib.{Dec.eqb, Dec.leb, Dec.ltb, ListN.length, Bits.bit_or}
use Rattle.limits.specs.Limits.{stored_polynomials, line_products}
use Rattle.limits.specs.Verdicts.{ACCEPTED, NUMBER, TERMS, ORDER, TAKEN, MISSING, SEEN, PRODUCTS, MISMATCH, NOTBIT, FULL}
use Rattle.ground.specs.Lists.{any, total, every}
use Rattle.algebra.specs.Polynomial.{Poly, vars, equal, products, reduce, product, extension, has}
use Rattle.paper.specs.Statement.{Written, Pair, Ring, modulo, bits, Statement, ring, input, goal, lin, del, ext, on_ring, on_input, on_goal, on_lin, on_ext, new_index, named_indices, forgets, fields, numbers_in_range, too_many_terms, reduced}

-- ---- the state between two lines
-- the phases: before the ring line, before the goal line, after it
abbrev pub opening : ℕ
opening = 0

abbrev pub inputs : ℕ
inputs = 1

abbrev pub steps : ℕ
steps = 2

pub record Entry : Type 0 where
  pub index : ℕ
  pub poly : Poly

-- the oldest first
abbrev pub Store : Type 0
Store = List Entry

abbrev pub entry : ℕ → Poly → Store
entry i p = record { index = i; poly = p } ∷ []

unfoldable pub stored : Store → ℕ → Bool
stored s i = any (λ e. eqb i e.index) s

-- no index twice
abbrev pub Distinct : Store → Type 0
Distinct [] = Unit {0}
Distinct (e ∷ s) = (stored s e.index ≡ false) × Distinct s

-- zero where the index is not stored
unfoldable pub find : Store → ℕ → Poly
find [] i = []
find (e ∷ s) i = cond (eqb i e.index) e.poly (find s i)

unfoldable pub remove : Store → ℕ → Store
remove [] i = []
remove (e ∷ s) i = cond (eqb i e.index) s (e ∷ remove s i)

-- without what a list of indices names
unfoldable pub without : List ℕ → Store → Store
without [] s = s
without (i ∷ is) s = without is (remove s i)

unfoldable pub stored_terms : Store → ℕ
stored_terms s = total (λ e. length e.poly) s

pub record State : Type 0 where
  pub phase : ℕ
  pub ring : Ring
  pub store : Store
  -- the variables that have been seen
  pub seen : ℕ
  pub goal : Poly
  pub reached : Bool
  -- those of all accepted lines
  pub products : ℕ

unfoldable pub start : State
start = record { phase = opening; ring = modulo 0; store = []; seen = 0; goal = []; reached = false; products = 0 }

-- ---- what a statement does; first, where it may stand
unfoldable pub place : Statement → ℕ
place st = elim st [ ring r ↦ opening | input i p ↦ inputs | goal p ↦ inputs | lin i p qs ↦ steps | del i ↦ steps | ext i v p ↦ steps ]

module _ (k : ℕ) where
  -- what a statement stores: an ext -v + p, the others the polynomial they state
  unfoldable pub entries : Statement → Store
  entries st = elim st [ ring r ↦ [] | input i p ↦ entry i (reduced k p) | goal p ↦ [] | lin i p qs ↦ entry i (reduced k p) | del i ↦ [] | ext i v p ↦ entry i (extension k v (reduced k p)) ]

  -- the variables that a field makes seen: those of the reduced polynomial
  unfoldable pub shows : Written → ℕ
  shows p = vars (reduced k p)

  unfoldable pub shows_all : List Written → ℕ
  shows_all [] = 0
  shows_all (p ∷ ps) = bit_or (shows p) (shows_all ps)

  -- the variables that a statement makes seen: those of its fields, and the v of an ext
  unfoldable pub makes_seen : Statement → ℕ
  makes_seen st = bit_or (on_ext 0 (λ i v p. 2 ^ v) st) (shows_all (fields st))

  -- the sum of factor times named polynomial
  unfoldable pub combination : (ℕ → Poly) → List Pair → Poly
  combination named [] = []
  combination named (q ∷ qs) = products (reduced k q.factor) (named q.index) ++ combination named qs

  unfoldable pub product_count : (ℕ → Poly) → Statement → ℕ
  product_count named st =
      on_lin 0 (λ i p qs. total (λ q. length (reduced k q.factor) * length (named q.index)) qs) st
      + on_ext 0 (λ i v p. length (reduced k p) * length (reduced k p)) st

-- no room for the entries beside the store in a pool of so many terms
unfoldable pub overfull : ℕ → Store → Store → Bool
overfull capacity s [] = false
overfull capacity s (e ∷ es) = leb stored_polynomials (length s) || ltb capacity (stored_terms s + length e.poly)

-- ---- the rules, each a verdict and its test: the first whose test holds gives the verdict, and 0 is given where none does
unfoldable pub first : List (ℕ × Bool) → ℕ
first [] = ACCEPTED
first (r ∷ rs) = let rest : ℕ = first rs in cond r.1 r.0 rest

-- those that what is written decides alone
unfoldable pub written_rules : Statement → List (ℕ × Bool)
written_rules st = (NUMBER, not (numbers_in_range st)) ∷ (TERMS, any too_many_terms (fields st)) ∷ []

-- and behind them those that the state decides
unfoldable pub rules : ℕ → State → Statement → List (ℕ × Bool)
rules capacity s st =
    let k : ℕ = bits s.ring in
    (ORDER, not (eqb (place st) s.phase))
    ∷ (TAKEN, any (stored s.store) (new_index st))
    ∷ (MISSING, not (every (stored s.store) (named_indices st)))
    ∷ (SEEN, on_ext false (λ i v p. has (bit_or (shows k p) s.seen) v) st)
    ∷ (PRODUCTS, ltb line_products (product_count k (find s.store) st))
    ∷ (MISMATCH, on_lin false (λ i p qs. not (equal (reduced k p) (reduce k (combination k (find s.store) qs)))) st)
    ∷ (NOTBIT, on_ext false (λ i v p. not (equal (product k (reduced k p) (reduced k p)) (reduced k p))) st)
    ∷ (FULL, overfull capacity (without (forgets st) s.store) (entries k st))
    ∷ []

-- ---- what a statement that stands changes; nothing is reached before the goal line; first, whether some stored polynomial is g
unfoldable pub holds_goal : Poly → Store → Bool
holds_goal g s = any (λ e. equal e.poly g) s

unfoldable pub after : State → Statement → State
after s st =
    let k : ℕ = bits s.ring in
    record {
      phase = on_ring (on_goal s.phase (λ p. steps) st) (λ r. inputs) st;
      ring = on_ring s.ring (λ r. r) st;
      store = without (forgets st) s.store ++ entries k st;
      seen = bit_or (makes_seen k st) s.seen;
      goal = on_goal s.goal (λ p. reduced k p) st;
      reached = on_goal (on_input (s.reached || holds_goal s.goal (entries k st)) (λ i p. false) st) (λ p. holds_goal (reduced k p) s.store) st;
      products = s.products + product_count k (find s.store) st;
    }
