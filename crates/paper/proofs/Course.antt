-- A run is a row of statements that stand, and a last word. Assumes nothing.
use mathlib.Core.Path.{◌≡◌, refl, sym, ap, ◌∙◌, subst}
use mathlib.Core.Bool.{true, cond}
use mathlib.Core.Logic.{⊎_elim}
use mathlib.Core.List.{List, [], ◌∷◌, ◌++◌, reverse_aux}
use Prim.Native.Nat.{ℕ, suc, ◌<◌}
use native.Mathlib.Omega.{arith}
use lib.Dec.{eqb}
use lib.ListN.{length}
use borrow.Author.Tests.{eqb-true, eqb-false}
use Rattle.ground.specs.Lists.{gather}
use Rattle.ground.proofs.Tests.{split, by_cond, cond_yes, cond_no}
use Rattle.limits.specs.Verdicts.{ACCEPTED, LONGLINE, FORM, NOGOAL, NOTREACHED}
use Rattle.paper.specs.Rules.{first, steps, stored_terms, State, start, place, rules, after}
use Rattle.paper.specs.Grammar.{Read, got, stuck}
use Rattle.paper.specs.Statement.{modulo, Statement, ring, input, goal, lin, del, ext}
use Rattle.paper.specs.Answer.{Answer, Outcome, stands, refused, judge, Item, judge_item, report, ending, run, if_read, statements_of, accepted_from}
use Rattle.paper.proofs.Stands.{stands_none}

positive : (n : ℕ) → (n ≡ 0 → ⊥) → 0 < n
positive n h = omega (arith, h)

-- ---- a state whose ring is known: what is shown of it is shown of the state
abbrev pub with_ring : ℕ → State → State
with_ring k s = record { phase = s.phase; ring = modulo k; store = s.store; seen = s.seen; goal = s.goal; reached = s.reached; products = s.products }

pub by_ring : (k : ℕ) (s : State) (P : State → Type 0) → s.ring ≡ modulo k → P (with_ring k s) → P s
by_ring k s P e = subst P (sym path)
  where
    path : s ≡ with_ring k s
    path = λ i. record { phase = s.phase; ring = e i; store = s.store; seen = s.seen; goal = s.goal; reached = s.reached; products = s.products }

module _ (capacity : ℕ) where
  -- from s to e by statements that stand, in the order of the text
  pub data Steps : State → List Statement → State → Type 0 where
    done : {s : State} → Steps s [] s
    step : {s e : State} {sts : List Statement} (st : Statement) → first (rules capacity s st) ≡ 0 → Steps (after s st) sts e → Steps s (st ∷ sts) e

  -- ---- one item
  abbrev Heard : State → Read Statement → Outcome → Type 0
  Heard s (got st r) (stands s') = (first (rules capacity s st) ≡ 0) × (s' ≡ after s st)
  Heard s (stuck r) (stands s') = ⊥
  Heard s r (refused v i) = 0 < v

  -- the verdict on what is written is w, and that of the state comes behind it
  stands_both : (s : State) (st : Statement) (w : ℕ) → cond (eqb w 0) (first (rules capacity s st)) w ≡ 0 → first (rules capacity s st) ≡ 0
  stands_both s st w e = ⊎_elim (λ z. sym (cond_yes (eqb w 0) (first (rules capacity s st)) w z) ∙ e)
      (λ n. absurd (eqb-false w 0 n (sym (cond_no (eqb w 0) (first (rules capacity s st)) w n) ∙ e))) (split (eqb w 0))

  judged_read : (s : State) (w : ℕ) (r : Read Statement) → Heard s r (elim r [ got st t ↦ judge capacity s w st | stuck t ↦ refused FORM 0 ])
  unfolding judge
  judged_read s w (got st r) =
      let v : ℕ = cond (eqb w 0) (first (rules capacity s st)) w in
      by_cond (Heard s (got st r)) (eqb v 0) (λ e. (stands_both s st w (eqb-true v 0 e), refl)) (λ e. positive v (eqb-false v 0 e))
  judged_read s w (stuck r) = omega arith

  judged : (s : State) (i : Item) → Heard s i.reads (judge_item capacity s i)
  unfolding judge_item
  judged s i = by_cond (Heard s i.reads) i.long (λ e. long i.reads) (λ e. judged_read s i.written i.reads)
    where
      long : (r : Read Statement) → Heard s r (refused LONGLINE 0)
      long (got st r) = omega arith
      long (stuck r) = omega arith

  -- ---- all items: those that stood, what is heard of them, and the answer
  pub record Course (s : State) (heard : List Statement → List Statement) (read : List Statement) (a : Answer) : Type 0 where
    pub last : State
    pub sts : List Statement
    pub went : Steps s sts last
    pub hear : (h : List Statement) → heard h ≡ reverse_aux sts h
    pub products : a.products ≡ last.products
    pub polynomials : a.polynomials ≡ length last.store
    pub terms : a.terms ≡ stored_terms last.store
    pub phase : a.verdict ≡ 0 → last.phase ≡ steps
    pub reached : a.verdict ≡ 0 → last.reached ≡ true
    pub all : a.verdict ≡ 0 → sts ≡ read

  stopped : (s : State) (read : List Statement) (v n i : ℕ) → 0 < v → Course s (λ h. h) read (report s v n i)
  unfolding report
  stopped s read v n i h = record {
    last = s;
    sts = [];
    went = done;
    hear = λ h. refl;
    products = refl;
    polynomials = refl;
    terms = refl;
    phase = λ e. absurd (omega arith);
    reached = λ e. absurd (omega arith);
    all = λ e. absurd (omega arith);
  }

  -- what is accepted has reached its goal
  won : (s : State) → s.phase ≡ steps → s.reached ≡ true → Course s (λ h. h) [] (report s ACCEPTED 0 0)
  unfolding report
  won s p r = record {
    last = s;
    sts = [];
    went = done;
    hear = λ h. refl;
    products = refl;
    polynomials = refl;
    terms = refl;
    phase = λ z. p;
    reached = λ z. r;
    all = λ z. refl;
  }

  ended : (s : State) (n : ℕ) → Course s (λ h. h) [] (ending s n)
  unfolding ending
  ended s n =
      by_cond (Course s (λ h. h) []) _
      (λ e. by_cond (Course s (λ h. h) []) _ (λ f. won s (eqb-true s.phase steps e) f) (λ f. stopped s [] NOTREACHED n 0 (omega arith)))
      (λ e. stopped s [] NOGOAL n 0 (omega arith))

  module _ (s : State) (n : ℕ) (is : List Item) (rest : (s' : State) → Course s' (λ h. accepted_from capacity s' h is) (statements_of is) (run capacity s' n is)) where
    onward : (r : Read Statement) (o : Outcome) → Heard s r o
        → Course s (λ h. elim o [ stands s' ↦ accepted_from capacity s' (if_read r ++ h) is | refused v i ↦ h ]) (if_read r ++ statements_of is)
        (elim o [ stands s' ↦ run capacity s' n is | refused v i ↦ report s v n i ])
    onward (got st r) (stands s') j =
        let f = rest s' in
        record {
          last = f.last;
          sts = st ∷ f.sts;
          went = step st j.0 (subst (λ (x : State). Steps x f.sts f.last) j.1 f.went);
          hear = λ h. f.hear (st ∷ h);
          products = f.products;
          polynomials = f.polynomials;
          terms = f.terms;
          phase = f.phase;
          reached = f.reached;
          all = λ e. ap (λ (x : List Statement). st ∷ x) (f.all e);
        }
    onward (stuck r) (stands s') j = absurd j
    onward (got st r) (refused v i) j = stopped s (st ∷ statements_of is) v n i j
    onward (stuck r) (refused v i) j = stopped s (statements_of is) v n i j

  pub ran : (s : State) (n : ℕ) (is : List Item) → Course s (λ h. accepted_from capacity s h is) (statements_of is) (run capacity s n is)
  unfolding run accepted_from statements_of gather
  ran s n [] = ended s n
  ran s n (i ∷ is) = onward s (suc n) is (λ s'. ran s' (suc n) is) i.reads (judge_item capacity s i) (judged s i)

  -- ---- from the start: nothing stands, or a ring line first
  pub data Opened : List Statement → State → Type 0 where
    nothing : Opened [] start
    opening : {sts : List Statement} {e : State} (k : ℕ) → Steps (after start (ring (modulo k))) sts e → Opened (ring (modulo k) ∷ sts) e

  first_ring : (st : Statement) {sts : List Statement} {e : State} → place st ≡ 0 → Steps (after start st) sts e → Opened (st ∷ sts) e
  unfolding place
  first_ring (ring (modulo k)) h r = opening k r
  first_ring (input i p) h r = absurd (omega arith)
  first_ring (goal p) h r = absurd (omega arith)
  first_ring (lin i p qs) h r = absurd (omega arith)
  first_ring (del i) h r = absurd (omega arith)
  first_ring (ext i v p) h r = absurd (omega arith)

  pub opened : {s e : State} {sts : List Statement} → Steps s sts e → s ≡ start → Opened sts e
  unfolding start
  opened done q = subst (λ (x : State). Opened [] x) (sym q) nothing
  opened (step {s} {e} {sts} st h r) q =
      first_ring st ((stands_none capacity s st h).placed ∙ ap (λ (x : State). x.phase) q) (subst (λ (x : State). Steps (after x st) sts e) q r)
