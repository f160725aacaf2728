-- The names of published texts, their numbers, and the answer for three texts, k and the lent room.
use mathlib.Core.{Bool.Bool, Bool.true, Bool.false, Bool.◌&&◌, Bool.◌||◌, Bool.not, Bool.cond, List.List, List.[], List.◌∷◌, List.◌++◌, List.map}
use Rattle.std.specs.Prelude.{ℕ, suc, ◌+◌}
use lib.{Dec.eqb, Dec.ltb, ListN.length}
use Rattle.limits.specs.Limits.{name_bytes, text_bytes, least_pool, least_scratch}
use Rattle.limits.specs.Verdicts.{ACCEPTED, SHORT, LONGTEXT, NUMBER, TERMS, NAMES}
use Rattle.ground.specs.Lists.{any, every, gather}
use Rattle.paper.specs.Statement.{WrittenOf, Statement, modulo, ring, input, goal, lin, del, ext, renamed, fields, is_ring, is_variable, numbers_in_range, too_many_terms}
use Rattle.paper.specs.Grammar.{Bytes, bytes, got, stuck, Reader, ◌>>=◌, ◌>>◌, give, literal, end, decimal}
use Rattle.paper.specs.Rules.{first, start, after}
use Rattle.paper.specs.Answer.{Answer, Item, run, capacity_of, unread, statements_of, accepted_from}
use Rattle.paper.specs.Published.{Name, Named, NamedItem, pieces, read_by, constraint, target_items, proof_step}

-- ---- the names of a statement, as they follow each other in its bytes
unfoldable pub names_of : WrittenOf Name → List Name
names_of p = gather (λ t. t.variables) p

unfoldable pub names_in : Named → List Name
names_in st = elim st [ ring r ↦ [] | input i p ↦ names_of p | goal p ↦ names_of p | lin i p qs ↦ gather (λ q. names_of q.factor) qs ++ names_of p | del i ↦ [] | ext i v p ↦ v ∷ names_of p ]

-- the statements that can be read, up to the first that can't
unfoldable pub readable : List NamedItem → List Named
readable [] = []
readable (i ∷ is) = let rest : List Named = readable is in cond i.long [] (elim i.reads [ got st r ↦ st ∷ rest | stuck r ↦ [] ])

-- ---- numbers: where every name is x and a decimal in the range of variables, that decimal
abbrev pub after_x : Reader ℕ
after_x = do literal (bytes "x"); v ← decimal; end; give v

unfoldable pub plain_number : Name → ℕ
plain_number n = elim (after_x n) [ got v r ↦ v | stuck r ↦ 0 ]

unfoldable pub is_plain : Name → Bool
is_plain n = elim (after_x n) [ got v r ↦ is_variable v | stuck r ↦ false ]

-- else its place among the names as they first appear
unfoldable pub same_name : Name → Name → Bool
same_name [] [] = true
same_name [] (c ∷ n) = false
same_name (b ∷ m) [] = false
same_name (b ∷ m) (c ∷ n) = eqb b c && same_name m n

unfoldable pub place_in : List Name → Name → ℕ
place_in [] n = 0
place_in (m ∷ ms) n = cond (same_name m n) 0 (suc (place_in ms n))

-- ms and, each once, those of ns that it lacks
unfoldable pub with_names : List Name → List Name → List Name
with_names ms [] = ms
with_names ms (n ∷ ns) = with_names (cond (any (λ m. same_name m n) ms) ms (ms ++ (n ∷ []))) ns

unfoldable pub numbering : List Name → Name → ℕ
numbering ns n = cond (every is_plain ns) (plain_number n) (place_in (with_names [] ns) n)

-- ---- the statement with its numbers; a number is an id or a coefficient here, names have a rule of their own
module _ (f : Name → ℕ) where
  unfoldable pub bad_name : Name → Bool
  bad_name n = ltb name_bytes (length n) || not (is_variable (f n))

  unfoldable pub named_rules : Named → List (ℕ × Bool)
  named_rules st =
      (NUMBER, not (numbers_in_range (renamed (λ n. 0) st)))
      ∷ (TERMS, any too_many_terms (fields (renamed f st)))
      ∷ (NAMES, any bad_name (names_in st))
      ∷ []

  unfoldable pub numbered : NamedItem → Item
  numbered i = record {
    long = i.long;
    reads = elim i.reads [ got st r ↦ got (renamed f st) r | stuck r ↦ stuck r ];
    written = elim i.reads [ got st r ↦ first (named_rules st) | stuck r ↦ ACCEPTED ];
  }

-- ---- the three texts; without a target the proof is not read
pub record Texts : Type 0 where
  pub constraints : Bytes
  pub target : Bytes
  pub proof : Bytes

unfoldable pub named_items : Texts → List NamedItem
named_items t =
    let goals : List NamedItem = target_items (pieces t.target) in
    let steps : List NamedItem = map (read_by proof_step) (pieces t.proof) in
    map (read_by constraint) (pieces t.constraints) ++ (goals ++ cond (eqb (length goals) 0) [] steps)

-- the names that are numbered
abbrev pub all_names : Texts → List Name
all_names t = gather names_in (readable (named_items t))

unfoldable pub published_items : Texts → List Item
published_items t = map (numbered (numbering (all_names t))) (named_items t)

-- a line is a statement's place, from 1; k out of range is NUMBER at line 0
unfoldable pub published_answer : ℕ → Texts → ℕ → ℕ → Answer
published_answer k t pool scratch =
    let whole : Answer = run (capacity_of pool) (after start (ring (modulo k))) 0 (published_items t) in
    cond (ltb pool least_pool || ltb scratch least_scratch) (unread SHORT)
    (cond (ltb text_bytes (length t.constraints + length t.target + length t.proof)) (unread LONGTEXT)
    (cond (is_ring (modulo k)) whole (unread NUMBER)))

-- ---- what the texts say: all their statements, by number; and those that are accepted, the newest first
unfoldable pub published_statements : Texts → List Statement
published_statements t = statements_of (published_items t)

unfoldable pub published_accepted : ℕ → Texts → ℕ → List Statement
published_accepted k t pool = accepted_from (capacity_of pool) (after start (ring (modulo k))) [] (published_items t)
