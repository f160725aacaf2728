-- Statements of published texts decide by the next byte, so a statement of bad form fails at the byte of its form. Assumes nothing.
use mathlib.Core.Path.{◌≡◌, refl, subst, ◌∙◌}
use mathlib.Core.Bool.{Bool, true, false, ◌||◌}
use mathlib.Core.List.{List, [], ◌∷◌, ◌++◌, map}
use Prim.Native.Nat.{ℕ, suc, ◌-◌}
use Prim.Native.Char.{code}
use lib.Dec.{eqb}
use lib.ListN.{length}
use Rattle.ground.specs.Lists.{every}
use Rattle.ground.proofs.Tests.{cond_yes, cond_no, or_none_left, or_none_right}
use Rattle.paper.specs.Statement.{PairOf, input, goal, lin, del, ext}
use Rattle.paper.specs.Grammar.{Bytes, bytes, Line, stuck, Reader, next, ◌>>=◌, ◌>>◌, give, literal, end}
use Rattle.paper.specs.Published.{Name, Named, spaces, symbol, poly, one, factor, pair_of, summand, summands, addends, multiplied, linear, extend, Rule, step_rules, rule_of, constraint, target, proof_step, read_by}
use Rattle.paper.specs.Beginnings.{FormByte}
use Rattle.paper.proofs.Exact.{Halts, Exact, only, true_false}
use Rattle.paper.proofs.FormByte.{FailsAt, whole, whole_all, whole_fails, ended_fails, none_fails, fails_byte}
use Rattle.paper.proofs.ExactPublished.{among, fit, Decides, joined, followed, gives, seen, reads_as, wider, led, maybe, items, behind_spaces, behind_poly, spaces_decide, symbol_decides, constant_decides, name_decides, poly_decides}

-- ---- pairs
factor_decides : Decides behind_poly [] factor
unfolding factor every bytes
factor_decides = maybe (only (code "*")) (do spaces; symbol (code "("); q ← poly; symbol (code ")"); give q) one factor refl refl (λ b z. refl) inside
  where
    inside : Decides behind_poly (bytes "(x)") (do spaces; symbol (code "("); q ← poly; symbol (code ")"); give q)
    inside =
        joined behind_poly refl spaces_decide (λ _. joined behind_poly refl (symbol_decides (code "(")) (λ _. joined behind_poly refl poly_decides (λ q. seen (λ _. q) (symbol_decides (code ")")))))

summand_decides : Decides behind_poly (bytes "0") summand
unfolding summand every bytes
summand_decides = joined behind_poly refl constant_decides (λ i. seen (pair_of i) factor_decides)

summands_decide : Decides behind_poly (bytes "0") summands
unfolding summands every bytes
summands_decide =
    joined behind_poly refl summand_decides (λ q. seen (λ qs. q ∷ qs) (items (code "+") (do spaces; summand) refl (joined behind_poly refl spaces_decide (λ _. summand_decides))))

-- behind a comma
comma_decides : {A B : Type 0} {es ss : Bytes} {read : Reader A} (f : A → B) → fit behind_spaces ss es behind_poly ≡ true → Decides es ss read
    → Decides behind_poly (bytes ",") (do symbol (code ","); x ← read; give (f x))
unfolding literal bytes
comma_decides f h d = followed behind_poly h (symbol_decides (code ",")) (λ _. seen f d) refl

addends_decide : Decides behind_poly (bytes "0,") addends
unfolding addends every bytes
addends_decide = joined behind_poly refl constant_decides (λ j. comma_decides (λ l. pair_of j one ∷ pair_of l one ∷ []) refl constant_decides)

multiplied_decides : Decides behind_poly (bytes "0,") multiplied
unfolding multiplied every bytes
multiplied_decides = joined behind_poly refl constant_decides (λ j. comma_decides (λ q. pair_of j q ∷ []) refl poly_decides)

-- ---- rules: the sign picks one
module _ (i : ℕ) where
  linear_decides : {ss : Bytes} {pairs : Reader (List (PairOf Name))} → Decides behind_poly ss pairs → Decides behind_poly (ss ++ bytes ",") (linear pairs i)
  unfolding every bytes
  linear_decides d = joined behind_poly refl d (λ qs. comma_decides (λ p. lin i p qs) refl poly_decides)

  extend_decides : Decides behind_poly (bytes "x,") (extend i)
  unfolding every bytes
  extend_decides = joined behind_poly refl name_decides (λ v. comma_decides (λ p. ext i v p) refl poly_decides)

  -- each rule behind its sign and white space
  abbrev AllDecide : List Rule → Type 0
  AllDecide [] = Unit {0}
  AllDecide (r ∷ rs) = Decides behind_poly behind_spaces (r.1 i) × AllDecide rs

  abbrev signs : List Rule → Bytes
  signs rs = map (λ (r : Rule). r.0) rs

  rule_behind : (rs : List Rule) → AllDecide rs → (b : ℕ) → among (signs rs) b ≡ true → Decides behind_poly behind_spaces (λ z. rule_of rs i (b ∷ z))
  unfolding rule_of every bytes
  rule_behind [] d b h = absurd (true_false h refl)
  rule_behind (r ∷ rs) d b h = go (eqb b r.0) refl h (rule_behind rs d.1 b)
    where
      go : (t : Bool) → eqb b r.0 ≡ t → (t || among (signs rs) b) ≡ true → (among (signs rs) b ≡ true → Decides behind_poly behind_spaces (λ z. rule_of rs i (b ∷ z)))
          → Decides behind_poly behind_spaces (λ z. rule_of (r ∷ rs) i (b ∷ z))
      go true e h ih =
          reads_as (λ z. cond_yes (eqb b r.0) (next (spaces z) (λ _. r.1 i)) (rule_of rs i (b ∷ z)) e) (joined behind_poly refl spaces_decide (λ _. d.0))
      go false e h ih = reads_as (λ z. cond_no (eqb b r.0) (next (spaces z) (λ _. r.1 i)) (rule_of rs i (b ∷ z)) e) (ih h)

  rule_ends : (rs : List Rule) (z : Bytes) → Halts (among (signs rs)) z → rule_of rs i z ≡ stuck z
  unfolding rule_of
  rule_ends [] z h = refl
  rule_ends (r ∷ rs) [] h = refl
  rule_ends (r ∷ rs) (b ∷ z) h =
      cond_no (eqb b r.0) (next (spaces z) (λ _. r.1 i)) (rule_of rs i (b ∷ z)) (or_none_left (eqb b r.0) (among (signs rs) b) h)
      ∙ rule_ends rs (b ∷ z) (or_none_right (eqb b r.0) (among (signs rs) b) h)

  all_decide : AllDecide step_rules
  unfolding step_rules every bytes
  all_decide = (
    wider behind_spaces refl (linear_decides summands_decide),
    (
      wider behind_spaces refl (gives behind_poly (del i)),
      (wider behind_spaces refl extend_decides, (wider behind_spaces refl (linear_decides addends_decide), (wider behind_spaces refl (linear_decides multiplied_decides), tt))),
    ),
  )

  rules_decide : Decides behind_poly (bytes "*") (rule_of step_rules i)
  unfolding step_rules bytes
  rules_decide = led (among (signs step_rules)) (rule_of step_rules i) (code "*") refl (rule_ends step_rules) (rule_behind step_rules all_decide)

-- ---- statements
pub constraint_decides : Decides behind_poly (bytes "0x") constraint
unfolding constraint every bytes
constraint_decides = joined behind_poly refl constant_decides (λ i. seen (input i) poly_decides)

pub target_decides : Decides behind_poly (bytes "x") target
unfolding target bytes
target_decides = seen goal poly_decides

pub step_decides : Decides behind_poly (bytes "0*") proof_step
unfolding proof_step every bytes
step_decides = joined behind_poly refl constant_decides rules_decide

-- ---- a statement fails at the byte of its form; one that lacks its ; alone fails one past its end
abbrev pub FailsAtByte : Reader Named → Type 0
FailsAtByte read =
    (l : Line) (r : Bytes) → (read_by read l).reads ≡ stuck r → FormByte (λ s. (do st ← read; end; give st) s) l.content (suc (length l.content - length r))

statement_byte_law : (read : Reader Named) → ((s u : Bytes) → whole read s ≡ stuck u → FailsAt (whole read) s u) → FailsAtByte read
unfolding read_by
statement_byte_law read fails l r e = fails_byte (ended_fails (whole_all read) fails l.ended l.content r e)

pub published_byte : {goes starts : ℕ → Bool} (read : Reader Named) → Exact goes starts read → FailsAtByte read
published_byte read exact = statement_byte_law read (whole_fails read exact)

pub constraint_byte : FailsAtByte constraint
constraint_byte = published_byte constraint constraint_decides.exact

pub target_byte : FailsAtByte target
target_byte = published_byte target target_decides.exact

pub step_byte : FailsAtByte proof_step
step_byte = published_byte proof_step step_decides.exact

-- a second statement in the target: none is well formed
pub second_byte : FailsAtByte (λ s. stuck s)
second_byte = statement_byte_law (λ s. stuck s) (λ s u e. let q : s ≡ u = cc in subst (FailsAt (whole (λ s. stuck s)) s) q (none_fails s (λ b v w d. refl)))
