-- What judging an item gives, and how a run goes on after it. Assumes nothing.
use mathlib.Core.Path.{◌≡◌, refl}
use mathlib.Core.Bool.{true, false}
use mathlib.Core.List.{List, ◌∷◌}
use Prim.Native.Nat.{ℕ, suc}
use Rattle.limits.specs.Verdicts.{LONGLINE, FORM}
use Rattle.paper.specs.Grammar.{Bytes, got, stuck}
use Rattle.paper.specs.Statement.{Statement}
use Rattle.paper.specs.Rules.{first, State, rules, after}
use Rattle.paper.specs.Answer.{stands, refused, judge, Item, judge_item, report, run}

module _ (capacity : ℕ) (s : State) where
  -- ---- one item
  pub judge_stands : (st : Statement) → first (rules capacity s st) ≡ 0 → judge capacity s 0 st ≡ stands (after s st)
  unfolding judge
  judge_stands st e = rw e refl

  module _ (i : Item) where
    pub item_long : i.long ≡ true → judge_item capacity s i ≡ refused LONGLINE 0
    unfolding judge_item
    item_long h = rw h refl

    pub item_stuck : i.long ≡ false → (r : Bytes) → i.reads ≡ stuck r → judge_item capacity s i ≡ refused FORM 0
    unfolding judge_item
    item_stuck h r e = rw (h, e) refl

    pub item_read : i.long ≡ false → (st : Statement) (r : Bytes) → i.reads ≡ got st r → judge_item capacity s i ≡ judge capacity s i.written st
    unfolding judge_item
    item_read h st r e = rw (h, e) refl

  -- ---- many items
  pub run_stands : (n : ℕ) (i : Item) (is : List Item) (s' : State) → judge_item capacity s i ≡ stands s' → run capacity s n (i ∷ is) ≡ run capacity s' (suc n) is
  unfolding run
  run_stands n i is s' e = rw (e, run)

  pub run_refused : (n : ℕ) (i : Item) (is : List Item) (v j : ℕ) → judge_item capacity s i ≡ refused v j → run capacity s n (i ∷ is) ≡ report s v (suc n) j
  unfolding run
  run_refused n i is v j e = rw (e, run)
