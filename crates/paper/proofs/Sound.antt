-- Statements that stand make a derivation: what they introduce is derived from the inputs, and a goal that is reached is forced. Assumes nothing.
use mathlib.Core.Path.{◌≡◌, refl, sym, ap, ◌∙◌}
use mathlib.Core.Bool.{Bool, true, false, ◌||◌, cond}
use mathlib.Core.Logic.{⊎_elim}
use mathlib.Core.List.{List, [], ◌∷◌, ◌++◌, map}
use Prim.Native.Nat.{ℕ, ◌^◌, ◌≤◌, ◌<◌}
use native.Mathlib.Nat.{le_trans}
use native.Mathlib.Omega.{arith}
use lib.Bits.{bit_or}
use lib.Dec.{eqb}
use borrow.Author.Tests.{not-false, eqb-true, eqb-false}
use Rattle.ground.specs.Lists.{any, gather}
use Rattle.ground.proofs.Tests.{split, or_cases}
use Rattle.algebra.specs.Polynomial.{bit, Apart, Poly, vars, reduce, product, extension, all_vars, AllZero, Forced, Derived, input as input_of, forced, defined}
use Rattle.algebra.proofs.Sets.{bit_or_law, bit_lt, bit_of_zero, bit_pow_other, has_false, has_none}
use Rattle.algebra.proofs.Bit.{equal_true}
use Rattle.algebra.proofs.Variables.{vars_extension}
use Rattle.algebra.proofs.Derivation.{zero_left, zero_right, zero_both}
use Rattle.limits.specs.Verdicts.{SEEN, MISMATCH, NOTBIT}
use Rattle.paper.specs.Statement.{Written, Pair, modulo, Statement, ring, input, goal, lin, del, ext, on_input, on_ext, forgets, fields, reduced}
use Rattle.paper.specs.Rules.{inputs, steps, find, remove, State, place, entries, shows, shows_all, makes_seen, combination, holds_goal, without, rules, after}
use Rattle.paper.specs.Answer.{inputs_in, goal_in, introduced_in, defined_in}
use Rattle.paper.proofs.Stands.{Stands, stands_none}
use Rattle.paper.proofs.Course.{with_ring, by_ring, Steps, done, step}
use Rattle.paper.proofs.Zeros.{StoreZero, zero_append, zero_remove, zero_goal, zero_stated}

-- the variable that a statement defines
abbrev defines : Statement → ℕ
defines = on_ext 0 (λ i v p. 2 ^ v)

-- the goal that is in force, or is still to come
abbrev aim_of : ℕ → State → List Statement → Poly
aim_of k s sts = cond (eqb s.phase steps) s.goal (goal_in k sts)

none_more : (b : Bool) → (b || false) ≡ true → b ≡ true
none_more true e = refl
none_more false e = e

-- ---- what a statement makes seen
seen_own : (d n m v : ℕ) → bit d v ≤ bit (bit_or (bit_or d n) m) v
seen_own d n m v = omega (arith, bit_or_law (bit_or d n) m v, bit_or_law d n v)

seen_first : (d n o m v : ℕ) → bit n v ≤ bit (bit_or (bit_or d (bit_or n o)) m) v
seen_first d n o m v = omega (arith, bit_or_law (bit_or d (bit_or n o)) m v, bit_or_law d (bit_or n o) v, bit_or_law n o v)

all_in : (p : Poly) (ps : List Poly) (m v : ℕ) → bit (vars p) v ≤ bit m v → bit (all_vars ps) v ≤ bit m v → bit (all_vars (p ∷ ps)) v ≤ bit m v
unfolding all_vars
all_in p ps m v h g = omega (arith, bit_or_law (vars p) (all_vars ps) v)

apart_zero : (m : ℕ) {es : ℕ} → es ≡ 0 → Apart es m
apart_zero m e = record { at = λ v h. absurd (omega (arith, bit_of_zero v, ap (λ (x : ℕ). bit x v) e)) }

-- a goal whose variables are all in m stays apart from a definition of v, which is not
apart_more : (es v m : ℕ) (g : Poly) → ((w : ℕ) → bit (vars g) w ≤ bit m w) → bit m v ≡ 0 → Apart es (vars g) → Apart (bit_or (2 ^ v) es) (vars g)
apart_more es v m g h z a = record {
  at = λ w e. ⊎_elim
      (λ t. omega (arith, h v, ap (λ (x : ℕ). bit (vars g) x) (eqb-true w v t)))
      (λ t. a.at w (omega (arith, bit_or_law (2 ^ v) es w, bit_pow_other v w (eqb-false w v t), bit_lt es w)))
      (split (eqb w v));
}

module _ (k : ℕ) where
  -- ---- what holds between two lines: a derivation of ps from is, with definitions for es
  pub record Good (s : State) (is : List Poly) (es : ℕ) (ps : List Poly) : Type 0 where
    pub ringed : s.ring ≡ modulo k
    pub begun : 0 < s.phase
    pub derived : Derived k is es ps
    pub kept : (b : ℕ) → AllZero k b ps → StoreZero k b s.store
    pub witnessed : (v : ℕ) → bit (all_vars ps) v ≤ bit s.seen v
    pub early : s.phase ≡ inputs → es ≡ 0
    pub aimed : (v : ℕ) → bit (vars s.goal) v ≤ bit s.seen v
    pub apart : Apart es (vars s.goal)
    pub hit : s.reached ≡ true → Forced k ps s.goal

  forced_more : {ps : List Poly} {g : Poly} (p : Poly) → Forced k ps g → Forced k (p ∷ ps) g
  forced_more p f = record { at = λ b z. f.at b z.1 }

  -- ---- one statement
  module _ (s : State) where
    abbrev Next : Statement → List Poly → ℕ → List Poly → Type 0
    Next st is es ps =
        Good (after (with_ring k s) st) (on_input [] (λ i p. reduced k p ∷ []) st ++ is) (on_ext es (λ i v p. bit_or (2 ^ v) es) st) (map (λ e. e.poly) (entries k st) ++ ps)

    old : (st : Statement) (v : ℕ) → bit s.seen v ≤ bit (after (with_ring k s) st).seen v
    unfolding after
    old st v = omega (arith, bit_or_law (makes_seen k st) s.seen v)

    module _ (is : List Poly) (es : ℕ) (ps : List Poly) (g : Good (with_ring k s) is es ps) where
      next_input : (i : ℕ) (p : Written) → s.phase ≡ inputs → Next (input i p) is es ps
      unfolding after entries makes_seen shows shows_all fields forgets without
      next_input i p ph = record {
        ringed = refl;
        begun = g.begun;
        derived = input_of (reduced k p) (apart_zero (vars (reduced k p)) (g.early ph)) g.derived;
        kept = λ b z. zero_append k b s.store _ (g.kept b z.1) (z.0, tt);
        witnessed = λ v. all_in (reduced k p) ps _ v (seen_first 0 (vars (reduced k p)) 0 s.seen v) (le_trans (g.witnessed v) (old (input i p) v));
        early = g.early;
        aimed = λ v. le_trans (g.aimed v) (old (input i p) v);
        apart = g.apart;
        hit = λ e. absurd (let z : ◌≡◌ {A = ℕ} 0 1 = cc in omega arith);
      }

      next_goal : (p : Written) → s.phase ≡ inputs → Next (goal p) is es ps
      unfolding after entries makes_seen shows shows_all fields forgets without
      next_goal p ph = record {
        ringed = refl;
        begun = omega arith;
        derived = g.derived;
        kept = λ b z. zero_append k b s.store [] (g.kept b z) tt;
        witnessed = λ v. le_trans (g.witnessed v) (old (goal p) v);
        early = λ e. absurd (omega arith);
        aimed = λ v. seen_first 0 (vars (reduced k p)) 0 s.seen v;
        apart = apart_zero (vars (reduced k p)) (g.early ph);
        hit = λ e. record { at = λ b z. zero_goal k b (reduced k p) s.store (g.kept b z) e };
      }

      -- the goal is reached by what is stored now, or was before
      hit_more : (i : ℕ) (p : Poly) → (s.reached || holds_goal s.goal (record { index = i; poly = p } ∷ [])) ≡ true → Forced k (p ∷ ps) s.goal
      hit_more i p e =
          ⊎_elim (λ t. forced_more p (g.hit t))
          (λ t. record { at = λ b z. zero_goal k b s.goal (record { index = i; poly = p } ∷ []) (z.0, tt) t })
          (or_cases s.reached (holds_goal s.goal (record { index = i; poly = p } ∷ [])) e)

      next_lin : (i : ℕ) (p : Written) (qs : List Pair) → reduced k p ≡ reduce k (combination k (find s.store) qs) → Next (lin i p qs) is es ps
      unfolding after entries makes_seen shows shows_all fields forgets without
      next_lin i p qs e = record {
        ringed = refl;
        begun = g.begun;
        derived = forced (reduced k p) (record { at = λ b z. zero_stated k b (reduced k p) qs s.store (g.kept b z) e }) g.derived;
        kept = λ b z. zero_append k b s.store _ (g.kept b z.1) (z.0, tt);
        witnessed = λ v. all_in (reduced k p) ps _ v (seen_first 0 (vars (reduced k p)) _ s.seen v) (le_trans (g.witnessed v) (old (lin i p qs) v));
        early = g.early;
        aimed = λ v. le_trans (g.aimed v) (old (lin i p qs) v);
        apart = g.apart;
        hit = hit_more i (reduced k p);
      }

      next_del : (i : ℕ) → Next (del i) is es ps
      unfolding after entries makes_seen shows shows_all fields forgets without holds_goal any
      next_del i = record {
        ringed = refl;
        begun = g.begun;
        derived = g.derived;
        kept = λ b z. zero_append k b (remove s.store i) [] (zero_remove k b i s.store (g.kept b z)) tt;
        witnessed = λ v. le_trans (g.witnessed v) (old (del i) v);
        early = g.early;
        aimed = λ v. le_trans (g.aimed v) (old (del i) v);
        apart = g.apart;
        hit = λ e. g.hit (none_more s.reached e);
      }

      next_ext : (i v : ℕ) (p : Written) → s.phase ≡ steps → bit (bit_or (vars (reduced k p)) s.seen) v ≡ 0 → product k (reduced k p) (reduced k p) ≡ reduced k p
          → Next (ext i v p) is es ps
      unfolding after entries makes_seen shows shows_all fields forgets without
      next_ext i v p ph unseen square = record {
        ringed = refl;
        begun = g.begun;
        derived = defined v r square (has_none (bit_or (vars r) (all_vars ps)) v fresh) g.derived;
        kept = λ b z. zero_append k b s.store _ (g.kept b z.1) (z.0, tt);
        witnessed = λ w. all_in (extension k v r) ps _ w
            (omega (arith, vars_extension k w v r, bit_or_law (2 ^ v) (vars r) w, seen_own (2 ^ v) (bit_or (vars r) 0) s.seen w, seen_first (2 ^ v) (vars r) 0 s.seen w))
            (le_trans (g.witnessed w) (old (ext i v p) w));
        early = λ e. absurd (omega arith);
        aimed = λ w. le_trans (g.aimed w) (old (ext i v p) w);
        apart = apart_more es v s.seen s.goal g.aimed clear g.apart;
        hit = hit_more i (extension k v r);
      }
        where
          r : Poly
          r = reduced k p

          clear : bit s.seen v ≡ 0
          clear = omega (arith, bit_or_law (vars r) s.seen v, unseen)

          fresh : bit (bit_or (vars r) (all_vars ps)) v ≡ 0
          fresh = omega (arith, unseen, bit_or_law (vars r) s.seen v, bit_or_law (vars r) (all_vars ps) v, g.witnessed v)

      next : (capacity : ℕ) (st : Statement) → Stands capacity (with_ring k s) st → Next st is es ps
      unfolding place rules shows
      next capacity (ring j) h = absurd (omega (arith, h.placed, g.begun))
      next capacity (input i p) h = next_input i p (sym h.placed)
      next capacity (goal p) h = next_goal p (sym h.placed)
      next capacity (lin i p qs) h = next_lin i p qs (equal_true (reduced k p) (reduce k (combination k (find s.store) qs)) (not-false _ (h.passed MISMATCH)))
      next capacity (del i) h = next_del i
      next capacity (ext i v p) h =
          next_ext i v p (sym h.placed) (has_false (bit_or (vars (reduced k p)) s.seen) v (h.passed SEEN))
          (equal_true (product k (reduced k p) (reduced k p)) (reduced k p) (not-false _ (h.passed NOTBIT)))

      aim_next : (capacity : ℕ) (st : Statement) (sts : List Statement) → Stands capacity (with_ring k s) st → aim_of k (after (with_ring k s) st) sts ≡ aim_of k (with_ring k s) (st ∷ sts)
      unfolding after goal_in place
      aim_next capacity (ring j) sts h = absurd (omega (arith, h.placed, g.begun))
      aim_next capacity (input i p) sts h = refl
      aim_next capacity (goal p) sts h = let e : s.phase ≡ inputs = sym h.placed in rw e refl
      aim_next capacity (lin i p qs) sts h = refl
      aim_next capacity (del i) sts h = refl
      aim_next capacity (ext i v p) sts h = refl

  -- ---- many statements: those of sts on top of what was there
  pub record Final (s : State) (sts : List Statement) (is : List Poly) (es : ℕ) (ps : List Poly) (e : State) : Type 0 where
    pub inputs' : List Poly
    pub defined' : ℕ
    pub polys' : List Poly
    pub good : Good e inputs' defined' polys'
    pub given : (a : ℕ) → AllZero k a is → AllZero k a (inputs_in k sts) → AllZero k a inputs'
    pub before : (b : ℕ) → AllZero k b polys' → AllZero k b ps
    pub new : (b : ℕ) → AllZero k b polys' → AllZero k b (introduced_in k sts)
    pub only : (w : ℕ) → bit es w ≡ 0 → bit (defined_in sts) w ≡ 0 → bit defined' w ≡ 0
    pub aim : aim_of k e [] ≡ aim_of k s sts

  none_defined : (st : Statement) (es w : ℕ) → bit es w ≡ 0 → bit (defines st) w ≡ 0 → bit (on_ext es (λ i v p. bit_or (2 ^ v) es) st) w ≡ 0
  none_defined (ring j) es w h d = h
  none_defined (input i p) es w h d = h
  none_defined (goal p) es w h d = h
  none_defined (lin i p qs) es w h d = h
  none_defined (del i) es w h d = h
  none_defined (ext i v p) es w h d = omega (arith, bit_or_law (2 ^ v) es w)

  module _ (capacity : ℕ) where
    -- one step and the rest
    onward : (s e : State) (st : Statement) (sts : List Statement) (is : List Poly) (es : ℕ) (ps : List Poly) → Good s is es ps → Stands capacity s st
        → ((is : List Poly) (es : ℕ) (ps : List Poly) → Good (after s st) is es ps → Final (after s st) sts is es ps e) → Final s (st ∷ sts) is es ps e
    unfolding inputs_in introduced_in defined_in gather
    onward s e st sts is es ps g h rest =
        by_ring k s (λ (x : State). Good x is es ps → Stands capacity x st
        → ((is : List Poly) (es : ℕ) (ps : List Poly) → Good (after x st) is es ps → Final (after x st) sts is es ps e) → Final x (st ∷ sts) is es ps e)
        g.ringed go g h rest
      where
        mine : List Poly
        mine = on_input [] (λ i p. reduced k p ∷ []) st

        made : List Poly
        made = map (λ e. e.poly) (entries k st)

        es' : ℕ
        es' = on_ext es (λ i v p. bit_or (2 ^ v) es) st

        go : Good (with_ring k s) is es ps → Stands capacity (with_ring k s) st
            → ((is : List Poly) (es : ℕ) (ps : List Poly) → Good (after (with_ring k s) st) is es ps → Final (after (with_ring k s) st) sts is es ps e)
            → Final (with_ring k s) (st ∷ sts) is es ps e
        go g h rest =
            let f = rest (mine ++ is) es' (made ++ ps) (next s is es ps g capacity st h) in
            record {
              inputs' = f.inputs';
              defined' = f.defined';
              polys' = f.polys';
              good = f.good;
              given = λ a z n. f.given a (zero_both k a mine is (zero_left k a mine (inputs_in k sts) n) z) (zero_right k a mine (inputs_in k sts) n);
              before = λ b z. zero_right k b made ps (f.before b z);
              new = λ b z. zero_both k b made (introduced_in k sts) (zero_left k b made ps (f.before b z)) (f.new b z);
              only = λ w n d. f.only w (none_defined st es w n (omega (arith, bit_or_law (defines st) (defined_in sts) w))) (omega (arith, bit_or_law (defines st) (defined_in sts) w));
              aim = f.aim ∙ aim_next s is es ps g capacity st sts h;
            }

    pub final : {s e : State} {sts : List Statement} → Steps capacity s sts e → (is : List Poly) (es : ℕ) (ps : List Poly) → Good s is es ps → Final s sts is es ps e
    unfolding inputs_in introduced_in defined_in gather
    final done is es ps g = record {
      inputs' = is;
      defined' = es;
      polys' = ps;
      good = g;
      given = λ a z n. z;
      before = λ b z. z;
      new = λ b z. tt;
      only = λ w n d. n;
      aim = refl;
    }
    final (step {s} {e} {sts} st h r) is es ps g = onward s e st sts is es ps g (stands_none capacity s st h) (final r)
