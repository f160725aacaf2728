-- What makes a judged item: one that reading refuses, and one that is stepped. Assumes nothing.
use mathlib.Core.Path.{◌≡◌, refl, sym, ap, subst, ◌∙◌}
use mathlib.Core.Bool.{cond}
use mathlib.Core.List.{List}
use Prim.Native.Nat.{ℕ, ◌<◌}
use native.Mathlib.Omega.{arith}
use lib.Dec.{eqb}
use lib.ListN.{length}
use borrow.Author.Tests.{ne_eqb, lt-leb}
use Rattle.std.specs.Prelude.{Result, Ok, Err}
use Rattle.ground.proofs.Tests.{cond_no}
use Rattle.limits.specs.Verdicts.{ACCEPTED, LONGLINE, FORM, TERMS}
use Rattle.limits.specs.Refusals.{number_of, outcome}
use Rattle.limits.proofs.Refusals.{refuses}
use Rattle.limits.specs.declared.refusal.Refusal.{Refusal}
use Rattle.limits.specs.declared.refusal.Refusal.TheVariants.{LongLine, Form}
use Rattle.paper.specs.Grammar.{Bytes, Read, got, stuck}
use Rattle.paper.specs.Statement.{Written, Pair, modulo, Statement, ring, input, goal, lin, del, ext}
use Rattle.paper.specs.Rules as paper
use Rattle.paper.specs.Rules.{first, Store, rules, after}
use Rattle.paper.specs.Answer.{stands, refused, judge, Item, judge_item}
use Rattle.paper.proofs.Running.{judge_stands, item_long, item_stuck, item_read}
use Rattle.written.specs.Worded.{Holds}
use Rattle.table.specs.Table.{store_of}
use Rattle.scratch.specs.Scratch.{stated_at}
use Rattle.sums.specs.declared.Sum.{Sum}
use Rattle.sums.specs.Sums.{Summed}
use Rattle.steps.specs.declared.said.Said.{Said}
use Rattle.steps.specs.declared.said.Said.TheVariants.{Ring, Input, Goal, Lin, Del, Ext}
use Rattle.steps.specs.declared.state.State.{State}
use Rattle.steps.specs.State.{state_of}
use Rattle.steps.specs.Stepped.{Stepped}
use Rattle.steps.specs.Items.{Stated, Means, Tells, long, stops, turns, passes, ItemIs, index_of_read, ItemJudged, Unread}
use Rattle.steps.proofs.Calling.{state_kept}
use Rattle.steps.proofs.Asking.{said_one}

-- no index goes with a verdict before TERMS
pub early_none : (v : ℕ) (x : Read Statement) → v < TERMS → index_of_read v x ≡ 0
early_none v (got st r) h = rw (lt-leb TERMS v h) refl
early_none v (stuck r) h = refl

-- ---- an item in a state of the paper
module _ (capacity : ℕ) (s : paper.State) (i : Item) where
  -- the statement st is refused with v, by the verdict w on what is written or behind it
  item_refused : (st : Statement) (r : Bytes) → i.reads ≡ got st r → (w : ℕ) → judge_item capacity s i ≡ judge capacity s w st
      → (v : ℕ) → (v ≡ 0 → ⊥) → cond (eqb w ACCEPTED) (first (rules capacity s st)) w ≡ v → judge_item capacity s i ≡ refused v (index_of_read v i.reads)
  unfolding judge
  item_refused st r e w j v n f = j ∙ rw (f, ne_eqb v 0 n) refl ∙ ap (λ (x : Read Statement). refused v (index_of_read v x)) (sym e)

  -- what reading refuses
  abbrev RefusedWith : ℕ → Type 0
  RefusedWith v = judge_item capacity s i ≡ refused v (index_of_read v i.reads)

  -- with a verdict before TERMS
  refused_early : (v : ℕ) → v < TERMS → judge_item capacity s i ≡ refused v 0 → RefusedWith v
  refused_early v l e = e ∙ ap (refused v) (sym (early_none v i.reads l))

  by_reading : {k : ℕ} {store : Store} {words : List ℕ} {said : Result Said Refusal} {why : Refusal} → Tells k store i words said → said ≡ Err why → RefusedWith (number_of why)
  by_reading (long l q) e = subst RefusedWith (ap outcome (sym q ∙ e)) (refused_early LONGLINE (omega arith) (item_long capacity s i l))
  by_reading (stops l r f q) e = subst RefusedWith (ap outcome (sym q ∙ e)) (refused_early FORM (omega arith) (item_stuck capacity s i l r f))
  by_reading {why = why} (turns l st r f x q h) e =
      let w : ℕ = i.written in
      let u : w ≡ number_of why = sym h ∙ ap outcome (sym q ∙ e) in
      let d : (w ≡ ACCEPTED → ⊥) = (λ z. refuses why (sym u ∙ z)) in
      subst RefusedWith u (item_refused st r f w (item_read capacity s i l st r f) w d (cond_no (eqb w ACCEPTED) (first (rules capacity s st)) w (ne_eqb w ACCEPTED d)))
  by_reading {why = why} (passes l st r f a g said q m) e = absurd (refuses why (ap outcome (sym (sym q ∙ e))))

module _ {capacity : ℕ} {item : Item} {s : State} {pool words words' : List ℕ} {said : Result Said Refusal} (x : ItemIs s.ring (store_of s.table pool) item words words' said) where
  pub judged_unread : {why : Refusal} → said ≡ Err why → {r : Result Unit Refusal} {s' : State} {pool' words'' : List ℕ} → Unread why s pool words' r s' pool' words''
      → ItemJudged capacity item s pool words r s' pool' words''
  judged_unread {why} e {r} u =
      let v : outcome r ≡ number_of why = ap outcome u.refused in
      record {
        stands = λ z. absurd (refuses why (sym v ∙ z));
        ready = λ z. absurd (refuses why (sym v ∙ z));
        lines = λ z. absurd (refuses why (sym v ∙ z));
        refused = λ _. subst (RefusedWith capacity (state_of s pool words) item) (sym v) (by_reading capacity (state_of s pool words) item x.tells e);
        back = λ _. u.back;
        untouched = λ _. u.untouched;
        pool_length = ap length u.untouched;
        scratch_length = ap length u.kept ∙ x.kept.same;
      }

  -- the step of the statement that was read
  module _ {y : Said} (e : said ≡ Ok y) {r : Result Unit Refusal} {s' : State} {pool' words'' : List ℕ} where
    judged : ((st : Statement) → Means s.ring (store_of s.table pool) words' st y → Stepped capacity st s pool words' r s' pool' words'') → ItemJudged capacity item s pool words r s' pool' words''
    judged g = by x.tells
      where
        by : Tells s.ring (store_of s.table pool) item words' said → ItemJudged capacity item s pool words r s' pool' words''
        by (long l q) = absurd (refuses LongLine (ap outcome (sym q ∙ e)))
        by (stops l t f q) = absurd (refuses Form (ap outcome (sym q ∙ e)))
        by (turns l st t f why q h) = absurd (refuses why (ap outcome (sym q ∙ e)))
        by (passes l st t f a _ z u m) =
            let q = g st (subst (Means s.ring (store_of s.table pool) words' st) (said_one (sym u ∙ e)) m) in
            let j : judge_item capacity (state_of s pool words) item ≡ judge capacity (state_of s pool words) 0 st =
            item_read capacity (state_of s pool words) item l st t f ∙ ap (λ (w : ℕ). judge capacity (state_of s pool words) w st) a in
            let k : state_of s pool words' ≡ state_of s pool words = state_kept s pool words words' x.kept.after in
            let v : first (rules capacity (state_of s pool words) st) ≡ outcome r = subst (λ (y : paper.State). first (rules capacity y st) ≡ outcome r) k q.verdict in
            record {
              stands = λ z. j ∙ judge_stands capacity (state_of s pool words) st (v ∙ z)
                  ∙ ap (λ (y : paper.State). stands y) (ap (λ (y : paper.State). after y st) (sym k) ∙ sym (q.next z));
              ready = q.ready;
              lines = q.lines;
              refused = λ n. item_refused capacity (state_of s pool words) item st t f 0 j (outcome r) n v;
              back = q.back;
              untouched = q.untouched;
              pool_length = q.pool_length;
              scratch_length = q.scratch_length ∙ x.kept.same;
            }

    -- the statement st, and one that states p
    judged_plain : (st : Statement) → ((x : Statement) → Means s.ring (store_of s.table pool) words' x y → x ≡ st) → Stepped capacity st s pool words' r s' pool' words'' → ItemJudged capacity item s pool words r s' pool' words''
    judged_plain st f q = judged (λ x m. subst (λ (x : Statement). Stepped capacity x s pool words' r s' pool' words'') (sym (f x m)) q)

    judged_stated : {make : Written → Statement} {n : ℕ} → ((x : Statement) → Means s.ring (store_of s.table pool) words' x y → Stated make n words' x)
        → ((p : Written) → Holds p n stated_at words' → Stepped capacity (make p) s pool words' r s' pool' words'') → ItemJudged capacity item s pool words r s' pool' words''
    judged_stated f g = judged (λ x m. let h = f x m in subst (λ (x : Statement). Stepped capacity x s pool words' r s' pool' words'') (sym h.1) (g h.0 h.2))

  module _ {r : Result Unit Refusal} {s' : State} {pool' words'' : List ℕ} where
    pub judged_input : {i n : ℕ} → said ≡ Ok (Input i n) → ((p : Written) → Holds p n stated_at words' → Stepped capacity (input i p) s pool words' r s' pool' words'')
        → ItemJudged capacity item s pool words r s' pool' words''
    judged_input e g = judged_stated e (λ x m. m) g

    pub judged_lin : {i n : ℕ} {sum : Result Sum Refusal} → said ≡ Ok (Lin i n sum)
        → ((p : Written) → Holds p n stated_at words' → (qs : List Pair) → Summed s.ring (store_of s.table pool) qs words' sum → Stepped capacity (lin i p qs) s pool words' r s' pool' words'')
        → ItemJudged capacity item s pool words r s' pool' words''
    judged_lin e g = judged e (λ x m. let h = m.2 in subst (λ (x : Statement). Stepped capacity x s pool words' r s' pool' words'') (sym h.1) (g h.0 h.2 m.0 m.1))

    pub judged_ext : {i v n : ℕ} → said ≡ Ok (Ext i v n) → ((p : Written) → Holds p n stated_at words' → Stepped capacity (ext i v p) s pool words' r s' pool' words'')
        → ItemJudged capacity item s pool words r s' pool' words''
    judged_ext e g = judged_stated e (λ x m. m) g

    pub judged_ring : {k : ℕ} → said ≡ Ok (Ring k) → Stepped capacity (ring (modulo k)) s pool words' r s' pool' words'' → ItemJudged capacity item s pool words r s' pool' words''
    judged_ring {k} e g = judged_plain e (ring (modulo k)) (λ x m. m) g

    pub judged_goal : {n : ℕ} → said ≡ Ok (Goal n) → ((p : Written) → Holds p n stated_at words' → Stepped capacity (goal p) s pool words' r s' pool' words'')
        → ItemJudged capacity item s pool words r s' pool' words''
    judged_goal e g = judged_stated e (λ x m. m) g

    pub judged_del : {i : ℕ} → said ≡ Ok (Del i) → Stepped capacity (del i) s pool words' r s' pool' words'' → ItemJudged capacity item s pool words r s' pool' words''
    judged_del {i} e g = judged_plain e (del i) (λ x m. m) g
