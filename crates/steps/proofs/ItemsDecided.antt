-- What `ItemIs`, the contract of a reader of items, decides: what is said, with the sum of a lin; of a statement the words of its polynomial, and of a lin
-- those of the products as `add_factor` does; and that all from the goal's region on is kept. The other words of the regions before it are left open.
-- Assumes nothing.
use mathlib.Core.Path.{◌≡◌, refl, sym, ap, subst, ◌∙◌}
use mathlib.Core.Bool.{Bool, cond}
use mathlib.Core.List.{List, []}
use Prim.Native.Nat.{ℕ, ◌*◌}
use lib.ListN.{length, drop}
use Rattle.std.specs.Prelude.{Result, Ok, Err}
use Rattle.limits.specs.Limits.{term_words}
use Rattle.limits.specs.Verdicts.{ACCEPTED, LONGLINE, FORM}
use Rattle.limits.specs.Refusals.{number_of}
use Rattle.limits.specs.declared.refusal.Refusal.{Refusal}
use Rattle.limits.specs.declared.refusal.Refusal.TheVariants.{LongLine, Form}
use Rattle.limits.proofs.Refusals.{refuses, one_refusal}
use Rattle.words.specs.Parts.{part, Within}
use Rattle.words.proofs.Laws.{Words}
use Rattle.terms.specs.Terms.{decode}
use Rattle.terms.proofs.Decided.{one_run_at}
use Rattle.paper.specs.Grammar.{Bytes, Read, got, stuck}
use Rattle.paper.specs.Statement.{Written, Pair, bits, Statement, ring, input, goal, lin, del, ext, on_lin}
use Rattle.paper.specs.Rules.{Store}
use Rattle.paper.specs.Answer.{Item}
use Rattle.written.specs.Worded.{worded}
use Rattle.scratch.specs.Scratch.{stated_at, goal_at}
use Rattle.sums.specs.declared.Sum.{Sum}
use Rattle.sums.specs.Sums.{Summed}
use Rattle.sums.proofs.Decided.{SameSum, Wordly, sums_alike}
use Rattle.steps.specs.declared.said.Said.{Said}
use Rattle.steps.specs.declared.said.Said.TheVariants.{Ring, Input, Goal, Lin, Del, Ext}
use Rattle.steps.specs.Items.{Means, Tells, long, stops, turns, passes, ItemIs}
use Rattle.steps.proofs.Asking.{said_one}

-- ---- a statement: what is said of it with the sum of its pairs, its polynomial, and its pairs
abbrev said_of : Statement → Result Sum Refusal → Said
said_of (ring r) a = Ring (bits r)
said_of (input i p) a = Input i (length p)
said_of (goal p) a = Goal (length p)
said_of (lin i p qs) a = Lin i (length p) a
said_of (del i) a = Del i
said_of (ext i v p) a = Ext i v (length p)

abbrev polynomial_of : Statement → Written
polynomial_of (ring r) = []
polynomial_of (input i p) = p
polynomial_of (goal p) = p
polynomial_of (lin i p qs) = p
polynomial_of (del i) = []
polynomial_of (ext i v p) = p

abbrev pairs_of : Statement → List Pair
pairs_of st = on_lin [] (λ i p qs. qs) st

-- the terms that are said to stand in the stated region
abbrev pub terms_in : Said → ℕ
terms_in (Ring k) = 0
terms_in (Input i n) = n
terms_in (Goal n) = n
terms_in (Lin i n a) = n
terms_in (Del i) = 0
terms_in (Ext i v n) = n

-- the sum that is said
abbrev sum_in : Said → Result Sum Refusal
sum_in (Ring k) = Err Form
sum_in (Input i n) = Err Form
sum_in (Goal n) = Err Form
sum_in (Lin i n a) = a
sum_in (Del i) = Err Form
sum_in (Ext i v n) = Err Form

module _ (k : ℕ) (store : Store) (words : List ℕ) (st : Statement) where
  means_said : (said : Said) → Means k store words st said → said ≡ said_of st (sum_in said)
  means_said (Ring j) h = ap (λ (x : Statement). said_of x (Err Form)) (sym h)
  means_said (Input i n) h = ap (λ (m : ℕ). Input i m) h.2.terms ∙ ap (λ (x : Statement). said_of x (Err Form)) (sym h.1)
  means_said (Goal n) h = ap (λ (m : ℕ). Goal m) h.2.terms ∙ ap (λ (x : Statement). said_of x (Err Form)) (sym h.1)
  means_said (Lin i n a) h = ap (λ (m : ℕ). Lin i m a) h.2.2.terms ∙ ap (λ (x : Statement). said_of x a) (sym h.2.1)
  means_said (Del i) h = ap (λ (x : Statement). said_of x (Err Form)) (sym h)
  means_said (Ext i v n) h = ap (λ (m : ℕ). Ext i v m) h.2.terms ∙ ap (λ (x : Statement). said_of x (Err Form)) (sym h.1)

  means_run : (said : Said) → Means k store words st said → decode (terms_in said) (drop stated_at words) ≡ worded (polynomial_of st)
  unfolding decode worded
  means_run (Ring j) h = ap (λ (x : Statement). worded (polynomial_of x)) (sym h)
  means_run (Input i n) h = h.2.run ∙ ap (λ (x : Statement). worded (polynomial_of x)) (sym h.1)
  means_run (Goal n) h = h.2.run ∙ ap (λ (x : Statement). worded (polynomial_of x)) (sym h.1)
  means_run (Lin i n a) h = h.2.2.run ∙ ap (λ (x : Statement). worded (polynomial_of x)) (sym h.2.1)
  means_run (Del i) h = ap (λ (x : Statement). worded (polynomial_of x)) (sym h)
  means_run (Ext i v n) h = h.2.run ∙ ap (λ (x : Statement). worded (polynomial_of x)) (sym h.1)

  means_sum : {said : Said} {i n : ℕ} {a : Result Sum Refusal} → said ≡ Lin i n a → Means k store words st said → Summed k store (pairs_of st) words a
  means_sum {a = a} e m = let h = subst (Means k store words st) e m in subst (λ (qs : List Pair). Summed k store qs words a) (ap pairs_of (sym h.2.1)) h.1

-- ---- an item: how reading it is refused, or the statement that is said
abbrev read_refusal : ℕ → Read Statement → ℕ
read_refusal written (got st r) = written
read_refusal written (stuck r) = FORM

abbrev refusal_of : Item → ℕ
refusal_of i = cond i.long LONGLINE (read_refusal i.written i.reads)

data Told (k : ℕ) (store : Store) (i : Item) (words : List ℕ) (r : Result Said Refusal) : Type 0 where
  refusing : (why : Refusal) → r ≡ Err why → number_of why ≡ refusal_of i → Told k store i words r
  saying : (st : Statement) (t : Bytes) (said : Said) → i.reads ≡ got st t → refusal_of i ≡ ACCEPTED → r ≡ Ok said → Means k store words st said → Told k store i words r

module _ {k : ℕ} {store : Store} {i : Item} {words : List ℕ} {r : Result Said Refusal} where
  told : Tells k store i words r → Told k store i words r
  told (long l q) = refusing LongLine q (ap (λ (b : Bool). cond b LONGLINE (read_refusal i.written i.reads)) (sym l))
  told (stops l t f q) = refusing Form q (ap (read_refusal i.written) (sym f) ∙ ap (λ (b : Bool). cond b LONGLINE (read_refusal i.written i.reads)) (sym l))
  told (turns l st t f why q h) = refusing why q (h ∙ ap (read_refusal i.written) (sym f) ∙ ap (λ (b : Bool). cond b LONGLINE (read_refusal i.written i.reads)) (sym l))
  told (passes l st t f a g said q m) =
      saying st t said f (ap (λ (b : Bool). cond b LONGLINE (read_refusal i.written i.reads)) l ∙ ap (read_refusal i.written) f ∙ a) q m

-- ---- `read_line`
-- the sum that is said has words
abbrev pub SaysWords : Result Said Refusal → Type 0
SaysWords x = (i n : ℕ) (a : Result Sum Refusal) → x ≡ Ok (Lin i n a) → Wordly a

pub record SameItem (r q : List ℕ) (x y : Result Said Refusal) : Type 0 where
  pub said : x ≡ y
  pub stated : (said : Said) → x ≡ Ok said → part stated_at (terms_in said * term_words) r ≡ part stated_at (terms_in said * term_words) q
  pub sum : (i n : ℕ) (a : Result Sum Refusal) → x ≡ Ok (Lin i n a) → SameSum r q a a
  pub kept : Within 0 goal_at q r

not_both : {why : Refusal} {said : Said} → ◌≡◌ {A = Result Said Refusal} (Err why) (Ok said) → ⊥
not_both e = cc

-- one statement was said twice
module _ (k : ℕ) (store : Store) (r q : List ℕ) (same : length r ≡ length q) (f : Words r) (g : Words q) where
  sums_of : (st : Statement) (u v : Said) → ((i n : ℕ) (a : Result Sum Refusal) → u ≡ Lin i n a → Wordly a) → ((i n : ℕ) (a : Result Sum Refusal) → v ≡ Lin i n a → Wordly a)
      → Means k store r st u → Means k store q st v → said_of st (sum_in u) ≡ said_of st (sum_in v)
  sums_of (ring x) u v a b m n = refl
  sums_of (input i p) u v a b m n = refl
  sums_of (goal p) u v a b m n = refl
  sums_of (lin i p qs) u v a b m n =
      let e : u ≡ Lin i (length p) (sum_in u) = means_said k store r (lin i p qs) u m in
      let h : v ≡ Lin i (length p) (sum_in v) = means_said k store q (lin i p qs) v n in
      ap (λ (a : Result Sum Refusal). Lin i (length p) a)
      (sums_alike k store qs r q (sum_in u) (sum_in v) same f g (a i (length p) (sum_in u) e) (b i (length p) (sum_in v) h) (means_sum k store r (lin i p qs) e m) (means_sum k store q (lin i p qs) h n)).sum
  sums_of (del i) u v a b m n = refl
  sums_of (ext i w p) u v a b m n = refl

  one_said : (st : Statement) (u v : Said) → ((i n : ℕ) (a : Result Sum Refusal) → u ≡ Lin i n a → Wordly a) → ((i n : ℕ) (a : Result Sum Refusal) → v ≡ Lin i n a → Wordly a)
      → Means k store r st u → Means k store q st v → u ≡ v
  one_said st u v a b m n = means_said k store r st u m ∙ sums_of st u v a b m n ∙ sym (means_said k store q st v n)

pub items_alike : (k : ℕ) (store : Store) (i : Item) (s r q : List ℕ) (x y : Result Said Refusal) → Words r → Words q → SaysWords x → SaysWords y
    → ItemIs k store i s r x → ItemIs k store i s q y → SameItem r q x y
items_alike k store i s r q x y f g u w a b = by (told a.tells) (told b.tells)
  where
    same : length r ≡ length q
    same = a.kept.same ∙ sym b.kept.same

    kept : Within 0 goal_at q r
    kept = record { before = refl; after = a.kept.after ∙ sym b.kept.after; same = same }

    by : Told k store i r x → Told k store i q y → SameItem r q x y
    by (refusing v h m) (refusing z l n) = record {
      said = h ∙ ap (λ (w : Refusal). Err w) (one_refusal v z (m ∙ sym n)) ∙ sym l;
      stated = λ said e. absurd (not_both (sym h ∙ e));
      sum = λ j c d e. absurd (not_both (sym h ∙ e));
      kept = kept;
    }
    by (refusing v h m) (saying st t said e n l o) = absurd (refuses v (m ∙ n))
    by (saying st t said e n l o) (refusing v h m) = absurd (refuses v (m ∙ n))
    by (saying st t v e z h m) (saying st' t' v' e' z' h' m') =
        let o : st' ≡ st = (let c = e in let d = e' in cc) in
        let n : Means k store q st v' = subst (λ (st : Statement). Means k store q st v') o m' in
        let d : v ≡ v' = one_said k store r q same f g st v v' (λ i n a d. u i n a (h ∙ ap (λ (c : Said). Ok c) d)) (λ i n a d. w i n a (h' ∙ ap (λ (c : Said). Ok c) d)) m n in
        let n' : Means k store q st v = subst (Means k store q st) (sym d) n in
        record {
          said = h ∙ ap (λ (c : Said). Ok c) d ∙ sym h';
          stated = λ y c.
              let l : v ≡ y = said_one (sym h ∙ c) in
              subst (λ (y : Said). part stated_at (terms_in y * term_words) r ≡ part stated_at (terms_in y * term_words) q) l
              (one_run_at stated_at (terms_in v) r q same f g (means_run k store r st v m ∙ sym (means_run k store q st v n')));
          sum = λ j c y l.
              let p : v ≡ Lin j c y = said_one (sym h ∙ l) in
              sums_alike k store (pairs_of st) r q y y same f g (u j c y l) (u j c y l) (means_sum k store r st p m) (means_sum k store q st p n');
          kept = kept;
        }
