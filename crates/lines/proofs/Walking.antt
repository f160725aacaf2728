-- The pairs of a line one by one: each is read, and added to the sum of those before it. Assumes nothing.
use mathlib.Core.Path.{◌≡◌, refl, sym, ap, ap₂, subst, ◌∙◌}
use mathlib.Core.Bool.{true, false}
use mathlib.Core.List.{List, [], ◌∷◌, ◌++◌}
use Prim.Native.Nat.{ℕ, ◌+◌, ◌≤◌}
use Prim.Native.Char.{code}
use native.Mathlib.Omega.{arith}
use lib.ListN.{length, drop}
use Rattle.ground.specs.Lists.{every}
use Rattle.ground.proofs.Lists.{every_more}
use Rattle.std.specs.Prelude.{Result}
use Rattle.limits.specs.Verdicts.{ACCEPTED}
use Rattle.limits.specs.declared.refusal.Refusal.{Refusal}
use Rattle.words.specs.Parts.{Within}
use Rattle.paper.specs.Grammar.{Bytes, Read, got, stuck, Reader, next, give, tab, pair, more_pairs, pairs}
use Rattle.paper.specs.Statement.{Written, Pair}
use Rattle.paper.specs.Rules.{first, Store}
use Rattle.paper.proofs.Reading.{takes_pair, each_more, each_stuck}
use Rattle.written.specs.Worded.{Holds}
use Rattle.scratch.specs.Scratch.{factor_at, goal_at}
use Rattle.sums.specs.declared.Sum.{Sum}
use Rattle.sums.specs.Sums.{Summed}
use Rattle.sums.proofs.Summing.{summed_kept}
use Rattle.reader.specs.Places.{Fails}
use Rattle.reader.specs.Fields.{stands_at}
use Rattle.reader.specs.Verdicts.{verdict_of, lesser_of}
use Rattle.reader.proofs.Fields.{stands, each_over}
use Rattle.reader.proofs.Following.{fails_first, ItemsUpTo, passed_none, passed_more, passed_stuck, passed_stop}
use Rattle.reader.proofs.Verdicts.{verdict_both, lesser_accepted}
use Rattle.lines.specs.Parts.{pair_ranged, pair_few, Taken}
use Rattle.lines.specs.declared.part.PairRead.{PairRead}
use Rattle.lines.proofs.Parts.{got_as, fails_as, tab_got, tab_fails}

-- ---- one pair or more, and as many as follow
module _ (s : Bytes) (at : ℕ) where
  pub pairs_untabbed : at ≤ length s → stands_at s at 9 ≡ false → Fails pairs s at at
  unfolding pairs
  pairs_untabbed l t = fails_first tab _ (tab_fails s at l t)

  module _ (t : stands_at s at 9 ≡ true) where
    pairs_as : pairs (drop at s) ≡ more_pairs (drop at s)
    unfolding pairs
    pairs_as = ap (λ (r : Read (Unit {0})). next r (λ _ r. next (pair r) behind)) (tab_got s at t).reads ∙ go (pair (drop (at + 1) s)) refl
      where
        behind : Pair → Reader (List Pair)
        behind q r = next (more_pairs r) (λ qs. give (q ∷ qs))

        go : (x : Read Pair) → pair (drop (at + 1) s) ≡ x → next (pair (drop (at + 1) s)) behind ≡ more_pairs (drop at s)
        go (got q r) e = ap (λ (x : Read Pair). next x behind) e ∙ sym (each_more (code "\t") pair takes_pair s at (stands s at 9 t).0 (stands s at 9 t).1 q r e)
        go (stuck r) e = ap (λ (x : Read Pair). next x behind) e ∙ sym (each_stuck (code "\t") pair s at (stands s at 9 t).0 (stands s at 9 t).1 r e)

-- ---- pairs stand from at up to i, with their verdict, and their sum where nothing refuses them
abbrev pub PairsTo : ℕ → Store → Bytes → ℕ → List ℕ → Result Sum Refusal → ℕ → ℕ → Type 0
PairsTo k store s at words sum why i =
    ItemsUpTo (code "\t") pair (λ qs. (why ≡ verdict_of (every pair_ranged qs) (every pair_few qs)) × (why ≡ ACCEPTED → Summed k store qs words sum)) s at i

pub pairs_none : {k : ℕ} {store : Store} {words : List ℕ} {sum : Result Sum Refusal} (s : Bytes) (at : ℕ) → at ≤ length s → Summed k store [] words sum
    → PairsTo k store s at words sum ACCEPTED at
unfolding every first
pairs_none s at h u = passed_none (code "\t") pair s at h (refl, λ _. u)

-- a pair in the factor's region
abbrev PairStands : Bytes → ℕ → List ℕ → PairRead → Type 0
PairStands s at words r = Taken pair pair_ranged pair_few (λ q. (r.index ≡ q.index) × Holds q.factor r.terms factor_at words) s at r.end r.why

module _ {k : ℕ} {store : Store} {s : Bytes} {at : ℕ} {words : List ℕ} {sum : Result Sum Refusal} {why i : ℕ} (p : PairsTo k store s at words sum why i) where
  module _ (t : stands_at s i 9 ≡ true) where
    pub pairs_stuck : {q : ℕ} → stands_at s at 9 ≡ true → Fails pair s (i + 1) q → Fails pairs s at q
    pairs_stuck a f = fails_as (pairs_as s at a) (passed_stuck (code "\t") pair s at i p (stands s i 9 t).0 (stands s i 9 t).1 f)

    module _ {words' : List ℕ} (r : PairRead) (u : PairStands s (i + 1) words' r) {why' : ℕ} (c : why' ≡ lesser_of why r.why) where
      -- one pair more, whatever is summed
      pairs_with : {words'' : List ℕ} {sum' : Result Sum Refusal}
          → ((qs : List Pair) → (why ≡ ACCEPTED → Summed k store qs words sum) → why' ≡ ACCEPTED → Summed k store (qs ++ (u.value ∷ [])) words'' sum')
          → PairsTo k store s at words'' sum' why' r.end
      pairs_with f =
          passed_more (code "\t") pair s at i p (stands s i 9 t).0 (stands s i 9 t).1 takes_pair u.taken
          (λ qs v. (
            c ∙ ap₂ lesser_of v.0 u.verdict ∙ sym (verdict_both (every pair_ranged qs) (pair_ranged u.value) (every pair_few qs) (pair_few u.value))
                ∙ sym (ap₂ verdict_of (every_more pair_ranged qs u.value) (every_more pair_few qs u.value)),
            f qs v.1,
          ))

      -- they are refused
      pub pairs_turned : {words'' : List ℕ} {sum' : Result Sum Refusal} → (why' ≡ ACCEPTED → ⊥) → PairsTo k store s at words'' sum' why' r.end
      pairs_turned n = pairs_with (λ qs g a. absurd (n a))

      -- nothing refuses them
      module _ (a : why' ≡ ACCEPTED) (kept : Within factor_at goal_at words words') where
        both : (why ≡ ACCEPTED) × (r.why ≡ ACCEPTED)
        both = lesser_accepted why r.why (sym c ∙ a)

        -- the sum, where the factor was read
        still_summed : (qs : List Pair) → (why ≡ ACCEPTED → Summed k store qs words sum) → Summed k store qs words' sum
        still_summed qs g = summed_kept factor_at goal_at kept (omega arith) (g both.0)

        -- the last two of `add_factor`
        pub pairs_ask : ((w : Written) × Holds w r.terms factor_at words') × ((qs : List Pair) × Summed k store qs words' sum)
        pairs_ask = ((u.value.factor, (u.holds both.1).1), (p.items, still_summed p.items p.holds.1))

        pub pairs_more : {words'' : List ℕ} {sum' : Result Sum Refusal}
            → ((w : Written) → Holds w r.terms factor_at words' → (qs : List Pair) → Summed k store qs words' sum
            → Summed k store (qs ++ (record { index = r.index; factor = w } ∷ [])) words'' sum')
            → PairsTo k store s at words'' sum' why' r.end
        pairs_more {words''} {sum'} added =
            let h = u.holds both.1 in
            let q : record { index = r.index; factor = u.value.factor } ≡ u.value = λ j. record { index = h.0 j; factor = u.value.factor } in
            pairs_with (λ qs g _. subst (λ (y : Pair). Summed k store (qs ++ (y ∷ [])) words'' sum') q (added u.value.factor h.1 qs (still_summed qs g)))

  pub pairs_took : stands_at s at 9 ≡ true → stands_at s i 9 ≡ false → Taken pairs (every pair_ranged) (every pair_few) (λ qs. Summed k store qs words sum) s at i why
  pairs_took a t =
      record { value = p.items; taken = got_as (pairs_as s at a) (passed_stop (code "\t") pair s at i p (each_over (code "\t") pair s i t)); verdict = p.holds.0; holds = p.holds.1 }
