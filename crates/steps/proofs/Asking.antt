-- What judging asks of an item that was read, and each step of what it says. Assumes nothing.
use mathlib.Core.Path.{◌≡◌, sym, ap, subst, ◌∙◌}
use mathlib.Core.Bool.{Bool, true, ◌&&◌}
use mathlib.Core.List.{List, ◌++◌}
use Prim.Native.Nat.{ℕ}
use Rattle.std.specs.Prelude.{Result, Ok}
use Rattle.ground.specs.Lists.{every}
use Rattle.ground.proofs.Tests.{and_left, and_right}
use Rattle.limits.specs.Refusals.{outcome}
use Rattle.limits.proofs.Refusals.{refuses}
use Rattle.limits.specs.declared.refusal.Refusal.{Refusal}
use Rattle.limits.specs.declared.refusal.Refusal.TheVariants.{LongLine, Form}
use Rattle.paper.specs.Statement.{Written, Pair, modulo, Statement, on_ring, on_ext, new_index, named_indices, fields, is_ring, is_index, is_variable, in_range, numbers_in_range}
use Rattle.paper.specs.Rules.{Store}
use Rattle.paper.specs.Answer.{Item}
use Rattle.written.specs.Worded.{Holds}
use Rattle.scratch.specs.Scratch.{stated_at}
use Rattle.sums.specs.declared.Sum.{Sum}
use Rattle.sums.specs.Sums.{Summed}
use Rattle.steps.specs.declared.said.Said.{Said}
use Rattle.steps.specs.declared.said.Said.TheVariants.{Ring, Input, Goal, Lin, Ext}
use Rattle.steps.specs.declared.state.State.{State}
use Rattle.steps.specs.Stepped.{Room}
use Rattle.steps.specs.Items.{Means, Sayable, Tells, long, stops, turns, passes, ItemIs}
use Rattle.steps.proofs.Calling.{room_kept}

-- ---- an item that was read
-- what was said is one
pub said_one : {x y : Said} → ◌≡◌ {A = Result Said Refusal} (Ok x) (Ok y) → x ≡ y
said_one e = cc

pub sayable : {k : ℕ} {store : Store} {i : Item} {words : List ℕ} {r : Result Said Refusal} → Tells k store i words r → Sayable k store words r
sayable (long l q) = record { means = λ y e. absurd (refuses LongLine (ap outcome (sym q ∙ e))) }
sayable (stops l t f q) = record { means = λ y e. absurd (refuses Form (ap outcome (sym q ∙ e))) }
sayable (turns l st t f why q w) = record { means = λ y e. absurd (refuses why (ap outcome (sym q ∙ e))) }
sayable {k} {store} {words = words} (passes l st t f a g said q m) = record { means = λ y e. (st, g, subst (Means k store words st) (said_one (sym q ∙ e)) m) }

pub ask_judge : {capacity k : ℕ} {store : Store} {item : Item} {s : State} {pool words words' : List ℕ} {r : Result Said Refusal} → ItemIs k store item words words' r
    → Room capacity s pool words → Room capacity s pool words' × Sayable k store words' r
ask_judge x room = (room_kept x.kept.same room, sayable x.tells)

-- ---- what it says
-- the numbers of the statement x that a step looks at
ranges : {st x : Statement} → st ≡ x → numbers_in_range st ≡ true → (on_ring true is_ring x ≡ true) × (on_ext true (λ i v p. is_variable v) x ≡ true)
unfolding numbers_in_range
ranges {st} {x} e h =
    let r : Bool = on_ring true is_ring x in
    let v : Bool = on_ext true (λ i v p. is_variable v) x in
    let n : Bool = every is_index (new_index x ++ named_indices x) in
    let f : Bool = every in_range (fields x) in
    let b : (r && v) ≡ true = and_left (r && v) n (and_left (r && v && n) f (subst (λ (st : Statement). numbers_in_range st ≡ true) e h)) in
    (and_left r v b, and_right r v b)

-- the polynomial that stands in the stated region
abbrev pub Stands : ℕ → List ℕ → Type 0
Stands n words = (p : Written) × Holds p n stated_at words

-- what the step of what was said asks for; that of a del asks for the room alone
module _ {k : ℕ} {store : Store} {words : List ℕ} {r : Result Said Refusal} (a : Sayable k store words r) where
  pub ask_ring : {j : ℕ} → r ≡ Ok (Ring j) → is_ring (modulo j) ≡ true
  ask_ring e = let b = a.means _ e in (ranges b.2 b.1).0

  pub ask_input : {i n : ℕ} → r ≡ Ok (Input i n) → Stands n words
  ask_input e = let h = (a.means _ e).2 in (h.0, h.2)

  pub ask_goal : {n : ℕ} → r ≡ Ok (Goal n) → Stands n words
  ask_goal e = let h = (a.means _ e).2 in (h.0, h.2)

  pub ask_ext : {i v n : ℕ} → r ≡ Ok (Ext i v n) → (is_variable v ≡ true) × Stands n words
  ask_ext e =
      let b = a.means _ e in
      let h = b.2 in
      ((ranges h.1 b.1).1, (h.0, h.2))

-- what the step of a lin asks for, in the room that judging has
pub ask_lin : {capacity k : ℕ} {store : Store} {s : State} {pool words : List ℕ} {r : Result Said Refusal} → Room capacity s pool words × Sayable k store words r
    → {i n : ℕ} {x : Result Sum Refusal} → r ≡ Ok (Lin i n x) → Room capacity s pool words × Stands n words × ((qs : List Pair) × Summed k store qs words x)
ask_lin a e = let h = ((a.1).means _ e).2 in (a.0, (h.2.0, h.2.2), (h.0, h.1))
