-- What the parts of a step say: rows of the paper's table, what a statement has to store, and what the pool takes.
use Rattle.std.specs.Prelude.{◌≡◌, Bool, not, ◌||◌, List, [], ◌∷◌, ◌++◌, ℕ, ◌+◌, ◌*◌, ◌≤◌, Result, Ok}
use lib.{Bits.bit_or, Dec.eqb, Dec.leb, Dec.ltb, ListN.length, ListN.drop, Seq.paste}
use Rattle.limits.specs.Limits.{stored_polynomials, field_terms, line_products, term_words}
use Rattle.limits.specs.Refusals.{outcome}
use Rattle.limits.specs.declared.refusal.Refusal.{Refusal}
use Rattle.limits.specs.Verdicts.{ACCEPTED, ORDER, TAKEN, SEEN, PRODUCTS, MISMATCH, NOTBIT, FULL}
use Rattle.algebra.specs.Polynomial.{Poly, has, equal, reduce, product}
use Rattle.words.specs.Words.{number_of}
use Rattle.terms.specs.Terms.{decode}
use Rattle.paper.specs.Statement.{Written, Pair, reduced}
use Rattle.paper.specs.Rules.{first, Store, find, shows, combination}
use Rattle.scratch.specs.Scratch.{stated_at, goal_at}
use Rattle.sums.specs.Rows.{Rows}
use Rattle.sums.specs.Sums.{pair_rows}
use Rattle.table.specs.Columns.{Pushed}
use Rattle.steps.specs.declared.check.Candidate.{Candidate}
use Rattle.steps.specs.declared.state.State.{State}
use Rattle.steps.specs.State.{grown}

-- ---- the rows of a statement that stores a polynomial, in the paper's order
-- first: in its phase, with an index that is taken or not
abbrev pub admit_rows : ℕ → ℕ → Bool → Rows
admit_rows place phase taken = (ORDER, not (eqb place phase)) ∷ (TAKEN, taken) ∷ []

-- of a lin
abbrev pub lin_rows : ℕ → Store → Written → List Pair → Rows
lin_rows k store p qs = pair_rows k store qs ++ ((MISMATCH, not (equal (reduced k p) (reduce k (combination k (find store) qs)))) ∷ [])

-- of an ext, where these variables have been seen
abbrev pub ext_rows : ℕ → ℕ → ℕ → Written → Rows
ext_rows k seen v p =
    (SEEN, has (bit_or (shows k p) seen) v)
    ∷ (PRODUCTS, ltb line_products (length (reduced k p) * length (reduced k p)))
    ∷ (NOTBIT, not (equal (product k (reduced k p) (reduced k p)) (reduced k p)))
    ∷ []

-- last: no room for a polynomial more
abbrev pub full_rows : Bool → Rows
full_rows full = (FULL, full) ∷ []

-- ---- q in the stated region, so many products made, and these variables seen
pub record MadeIs (q : Poly) (made shown : ℕ) (r : List ℕ) (m : Candidate) : Type 0 where
  pub run : decode m.terms (drop stated_at r) ≡ q
  pub few : m.terms ≤ field_terms
  pub count : m.products ≡ made
  pub most : m.products ≤ line_products
  pub seen : number_of m.seen ≡ shown

-- or refused by these rows
pub record CandidateIs (rows : Rows) (q : Poly) (made shown : ℕ) (s r : List ℕ) (c : Result Candidate Refusal) : Type 0 where
  pub verdict : outcome c ≡ first rows
  pub makes : (m : Candidate) → c ≡ Ok m → MadeIs q made shown r m
  pub goal : drop goal_at r ≡ drop goal_at s
  pub same : length r ≡ length s

-- ---- the n terms of the stated region go behind the used ones of the pool, where there is room for a polynomial more
pub record PoolTakes (stored used n capacity : ℕ) (pool scratch : List ℕ) (r : Result Unit Refusal) (pool' : List ℕ) : Type 0 where
  pub verdict : outcome r ≡ first (full_rows (leb stored_polynomials stored || ltb capacity (used + n)))
  pub kept : outcome r ≡ ACCEPTED → pool' ≡ paste pool (used * term_words) (drop stated_at scratch) (n * term_words)
  pub untouched : (outcome r ≡ ACCEPTED → ⊥) → pool' ≡ pool
  pub same : length pool' ≡ length pool

-- ---- that polynomial is stored under x, and what the line made counts; or all is as it was
pub record StoredIs (capacity x : ℕ) (c : Candidate) (reached : Bool) (s : State) (pool scratch : List ℕ) (r : Result Unit Refusal) (s' : State) (pool' : List ℕ) : Type 0 where
  pub taken : PoolTakes s.table.stored s.table.used c.terms capacity pool scratch r pool'
  pub pushed : outcome r ≡ ACCEPTED → Pushed s.table x c.terms s'.table
  pub next : outcome r ≡ ACCEPTED → s' ≡ grown s s'.table c.seen reached (s.products + c.products)
  pub back : (outcome r ≡ ACCEPTED → ⊥) → s' ≡ s
