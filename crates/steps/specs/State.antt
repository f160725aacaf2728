-- What the checker's state stands for, and what holds of it between two statements.
use Rattle.std.specs.Prelude.{◌≡◌, Bool, List, ℕ, ◌+◌, ◌*◌, ◌≤◌, ◌<◌, length, drop}
use Rattle.limits.specs.Limits.{field_terms, line_products, greatest_ring, most_pool_terms, term_words, least_scratch}
use Rattle.words.specs.Words.{number_of}
use Rattle.terms.specs.Terms.{decode}
use Rattle.paper.specs.Rules as paper
use Rattle.paper.specs.Rules.{Distinct, start}
use Rattle.paper.specs.Statement.{modulo}
use Rattle.table.specs.declared.Table.{Table}
use Rattle.table.specs.Table.{store_of, Fitting}
use Rattle.table.specs.Columns as table
use Rattle.scratch.specs.Scratch.{goal_at}
use Rattle.steps.specs.declared.state.State.{State}

abbrev pub state_of : State → List ℕ → List ℕ → paper.State
state_of s pool scratch = record {
  phase = s.phase;
  ring = modulo s.ring;
  store = store_of s.table pool;
  seen = number_of s.seen;
  goal = decode s.goal_terms (drop goal_at scratch);
  reached = s.reached;
  products = s.products;
}

-- with a pool that holds so many terms
pub record Ready (capacity : ℕ) (s : State) (pool scratch : List ℕ) : Type 0 where
  pub fitting : Fitting s.table pool capacity
  pub room : least_scratch ≤ length scratch
  pub aim : s.goal_terms ≤ field_terms
  pub ringed : 0 < s.phase → (1 ≤ s.ring) × (s.ring ≤ greatest_ring)
  pub opened : 0 < s.table.stored → 0 < s.phase
  pub distinct : Distinct (store_of s.table pool)
  pub few : s.products ≤ line_products * s.lines

-- one more statement stood, which stored a polynomial
abbrev pub grown : State → Table → List ℕ → Bool → ℕ → State
grown s t seen reached products = record {
  phase = s.phase;
  ring = s.ring;
  table = t;
  seen = seen;
  goal_terms = s.goal_terms;
  reached = reached;
  products = products;
  lines = s.lines + 1;
}

-- before the first statement
pub record AtStart (s : State) : Type 0 where
  pub state : (pool scratch : List ℕ) → state_of s pool scratch ≡ start
  pub lines : s.lines ≡ 0
  pub ready : (capacity : ℕ) (pool scratch : List ℕ) → capacity * term_words ≤ length pool → capacity ≤ most_pool_terms → least_scratch ≤ length scratch
      → Ready capacity s pool scratch
  pub columns : table.Fresh s.table
