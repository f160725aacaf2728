-- Pairs read one after the other, each added to the sum of those before it. Assumes nothing.
use mathlib.Core.Path.{◌≡◌, refl, sym, ap, ap₂, subst, ◌∙◌}
use mathlib.Core.Bool.{Bool, true, false, and-true}
use mathlib.Core.List.{List, [], ◌∷◌, ◌++◌, map}
use Prim.Native.Nat.{ℕ, ◌+◌}
use Prim.Native.Char.{code}
use native.Mathlib.Omega.{arith}
use lib.ListN.{drop}
use Rattle.std.proofs.Common.{Result}
use Rattle.ground.specs.Lists.{every, gather}
use Rattle.ground.proofs.Lists.{every_more}
use Rattle.ground.proofs.Tests.{or_none_left, or_none_right}
use Rattle.limits.specs.Verdicts.{ACCEPTED}
use Rattle.limits.specs.declared.refusal.Refusal.{Refusal}
use Rattle.words.specs.Parts.{Within}
use Rattle.paper.specs.Grammar.{Bytes, Reader, Read, got, stuck, next, ◌>>◌, give}
use Rattle.paper.specs.Statement.{Written, Pair, WrittenOf, PairOf, renamed_term, renamed_field, renamed_pair, is_index, is_term, in_range, too_many_terms}
use Rattle.paper.specs.Rules.{Store, first}
use Rattle.paper.specs.Published.{Name, spaces, symbol, constant, poly, summand, more_summands, summands, one, pair_of, addends, multiplied}
use Rattle.paper.specs.Named.{names_of}
use Rattle.paper.proofs.PublishedReading.{takes_summand}
use Rattle.written.specs.Worded.{Holds}
use Rattle.reader.specs.Places.{Got, Fails}
use Rattle.reader.specs.Fields.{stands_at}
use Rattle.reader.specs.Verdicts.{verdict_of, lesser_of}
use Rattle.reader.proofs.Marks.{gather_last}
use Rattle.reader.proofs.Following.{got_then, got_give, fails_then, fails_first, ItemsUpTo, passed_none, passed_more, passed_stuck, passed_stop}
use Rattle.reader.proofs.Fields.{stands, each_over}
use Rattle.reader.proofs.Verdicts.{verdict_both, verdict_number, lesser_accepted}
use Rattle.names.specs.declared.numbering.Numbering.{Numbering}
use Rattle.named.specs.Reads.{NamesAre, number_in}
use Rattle.named.proofs.Naming.{names_none, names_then, pairs_stay}
use Rattle.named.proofs.Factors.{map_append}
use Rattle.scratch.specs.Scratch.{factor_at, goal_at}
use Rattle.sums.specs.declared.Sum.{Sum}
use Rattle.sums.specs.Sums.{Summed}
use Rattle.sums.proofs.Summing.{summed_kept}
use Rattle.published.specs.Pairs.{IdAt, field_ranged, field_few, summand_ranged, summand_few, SummandAt, multiplied_pair, id_pair, NoPairs, Behind, AddedAt, OneAdded, SumAt}
use Rattle.published.specs.declared.pairs.IdRead.{IdRead}
use Rattle.published.specs.declared.pairs.SummandRead.{SummandRead}
use Rattle.published.specs.declared.combination.SumRead.{SumRead}

-- ---- one pair more
pub pair_added : {k : ℕ} {store : Store} {read : Reader (PairOf Name)} {old new : Numbering} {s : Bytes} {at : ℕ} {words words' words'' : List ℕ} {x r : SumRead} (q : SummandRead)
    → SummandAt read old new s at words' q → Within factor_at goal_at words words' → Behind x q r
    → (r.why ≡ ACCEPTED → r.bad ≡ false → (w : Written) → Holds w q.terms factor_at words' → (qs : List Pair) → Summed k store qs words' x.sum
    → Summed k store (qs ++ (record { index = q.index; factor = w } ∷ [])) words'' r.sum)
    → AddedAt k store read old new s at words words'' x r
unfolding renamed_pair
pair_added {k} {store} {read} {new = new} {s} {at} {words'' = words''} {x} {r} q h w e added = record {
  value = h.value;
  taken = subst (Got read s at h.value) (sym e.end) h.taken;
  verdict = e.why ∙ ap (lesser_of x.why) h.verdict;
  own = q.bad;
  some = e.bad;
  named = h.named;
  summed = λ a b qs u.
      let y = h.holds (lesser_accepted x.why q.why (sym e.why ∙ a)).1 (or_none_right x.bad q.bad (sym e.bad ∙ b)) in
      let p : Written = renamed_field (number_in new) h.value.factor in
      subst (λ (i : ℕ). Summed k store (qs ++ (record { index = i; factor = p } ∷ [])) words'' r.sum) y.0 (added a b p y.1 qs (summed_kept factor_at goal_at w (omega arith) u));
}

-- pairs with their verdict, their sum and their names
pub record PairsSummed (k : ℕ) (store : Store) (old new : Numbering) (words' : List ℕ) (sum : Result Sum Refusal) (why : ℕ) (bad : Bool) (qs : List (PairOf Name)) : Type 0 where
  pub verdict : why ≡ verdict_of (every summand_ranged qs) (every summand_few qs)
  pub holds : why ≡ ACCEPTED → bad ≡ false → Summed k store (map (renamed_pair (number_in new)) qs) words' sum
  pub named : NamesAre old new (gather (λ q. names_of q.factor) qs) bad

module _ {k : ℕ} {store : Store} {words : List ℕ} where
  no_pairs : (names : Numbering) (x : SumRead) → NoPairs x → PairsSummed k store names names words x.sum x.why x.bad []
  unfolding every gather first
  no_pairs names x n = record { verdict = n.why; holds = λ a b. n.summed k store words; named = subst (NamesAre names names []) (sym n.bad) (names_none names) }

  pub pairs_and_one : {read : Reader (PairOf Name)} {old mid new : Numbering} {words' : List ℕ} {s : Bytes} {at : ℕ} {qs : List (PairOf Name)} {x r : SumRead}
      → PairsSummed k store old mid words x.sum x.why x.bad qs → (h : AddedAt k store read mid new s at words words' x r)
      → PairsSummed k store old new words' r.sum r.why r.bad (qs ++ (h.value ∷ []))
  pairs_and_one {old = old} {new = new} {words'} {qs = qs} {x} {r} p h = record {
    verdict =
        h.verdict ∙ ap (λ (v : ℕ). lesser_of v (verdict_of (summand_ranged h.value) (summand_few h.value))) p.verdict
        ∙ sym (verdict_both (every summand_ranged qs) (summand_ranged h.value) (every summand_few qs) (summand_few h.value))
        ∙ sym (ap₂ verdict_of (every_more summand_ranged qs h.value) (every_more summand_few qs h.value));
    holds = λ a b.
        let d = sym h.some ∙ b in
        let before = or_none_left x.bad h.own d in
        let f = number_in new in
        let all : map (renamed_pair f) qs ++ (renamed_pair f h.value ∷ []) ≡ map (renamed_pair f) (qs ++ (h.value ∷ [])) = sym (map_append (renamed_pair f) qs (h.value ∷ [])) in
        subst (λ (ps : List Pair). Summed k store ps words' r.sum) all
        (h.summed a b (map (renamed_pair f) qs)
        (subst (λ (ps : List Pair). Summed k store ps words x.sum) (sym (pairs_stay qs p.named h.named before (or_none_right x.bad h.own d)))
        (p.holds (lesser_accepted x.why _ (sym h.verdict ∙ a)).0 before)));
    named =
        subst (λ (b : Bool). NamesAre old new (gather (λ q. names_of q.factor) (qs ++ (h.value ∷ []))) b) (sym h.some)
        (rw (gather_last (λ q. names_of q.factor) qs h.value) (names_then p.named h.named));
  }

  -- the first
  pub one_pair : {read : Reader (PairOf Name)} {old new : Numbering} {words' : List ℕ} {s : Bytes} {at : ℕ} {x r : SumRead} → NoPairs x
      → (h : AddedAt k store read old new s at words words' x r) → PairsSummed k store old new words' r.sum r.why r.bad (h.value ∷ [])
  one_pair {old = old} {x = x} n h = pairs_and_one (no_pairs old x n) h

-- ---- summands
abbrev next_summand : Reader (PairOf Name)
next_summand = do spaces; summand

-- they stand from at up to the end of r, which has their sum
pub record SummandsTo (k : ℕ) (store : Store) (old new : Numbering) (s : Bytes) (at : ℕ) (words' : List ℕ) (r : SumRead) : Type 0 where
  pub first : PairOf Name
  pub behind : ℕ
  pub taken : Got summand s at first behind
  pub more : ItemsUpTo (code "+") next_summand (λ qs. PairsSummed k store old new words' r.sum r.why r.bad (first ∷ qs)) s behind r.end

pub summands_unread : {s : Bytes} {at e : ℕ} → Fails summand s at e → Fails summands s at e
unfolding summands
summands_unread f = fails_first summand _ f

module _ {k : ℕ} {store : Store} {old : Numbering} {s : Bytes} {at : ℕ} where
  pub summands_first : {new : Numbering} {words words' : List ℕ} {x r : SumRead} → NoPairs x → AddedAt k store summand old new s at words words' x r → SummandsTo k store old new s at words' r
  summands_first {r = r} n g = record { first = g.value; behind = r.end; taken = g.taken; more = passed_none (code "+") next_summand s r.end g.taken.inside (one_pair n g) }

  module _ {mid : Numbering} {words : List ℕ} {r : SumRead} (p : SummandsTo k store old mid s at words r) where
    module _ {j : ℕ} (here : stands_at s r.end 43 ≡ true) (g : Got spaces s (r.end + 1) tt j) where
      pub summands_stuck : {e : ℕ} → Fails summand s j e → Fails summands s at e
      unfolding summands
      summands_stuck f =
          let b = stands s r.end 43 here in
          fails_then summand _ p.taken (fails_first more_summands _ (passed_stuck (code "+") next_summand s p.behind r.end p.more b.0 b.1 (fails_then spaces _ g f)))

      pub summands_more : {new : Numbering} {words' : List ℕ} {r' : SumRead} → AddedAt k store summand mid new s j words words' r r' → SummandsTo k store old new s at words' r'
      summands_more h =
          let b = stands s r.end 43 here in
          record {
            first = p.first;
            behind = p.behind;
            taken = p.taken;
            more = passed_more (code "+") next_summand s p.behind r.end p.more b.0 b.1 takes_summand (got_then spaces _ g h.taken) (λ qs v. pairs_and_one v h);
          }

    pub summands_took : stands_at s r.end 43 ≡ false → SumAt k store summands old mid s at words r
    unfolding summands
    summands_took z =
        let m = p.more.holds in
        record {
          value = p.first ∷ p.more.items;
          taken = got_then summand _ p.taken (got_then more_summands _ (passed_stop (code "+") next_summand s p.behind r.end p.more (each_over (code "+") next_summand s r.end z)) (got_give _ p.more.inside));
          verdict = m.verdict;
          holds = m.holds;
          named = m.named;
        }

-- ---- PAC's product: one pair
multiplied_by_law : (r : Bytes) → multiplied r ≡ next (multiplied_pair r) (λ q. give (q ∷ []))
unfolding multiplied
multiplied_by_law r = go (constant r)
  where
    third : (j : ℕ) (x : Read (WrittenOf Name)) → next x (λ q. give (pair_of j q ∷ [])) ≡ next (next x (λ q. give (pair_of j q))) (λ q. give (q ∷ []))
    third j (got q u) = refl
    third j (stuck u) = refl

    second : (j : ℕ) (x : Read (Unit {0}))
        → next x (λ _ t. next (poly t) (λ q. give (pair_of j q ∷ []))) ≡ next (next x (λ _ t. next (poly t) (λ q. give (pair_of j q)))) (λ q. give (q ∷ []))
    second j (got z t) = third j (poly t)
    second j (stuck t) = refl

    go : (x : Read ℕ)
        → next x (λ j t. next (symbol 44 t) (λ _ t. next (poly t) (λ q. give (pair_of j q ∷ []))))
        ≡ next (next x (λ j t. next (symbol 44 t) (λ _ t. next (poly t) (λ q. give (pair_of j q))))) (λ q. give (q ∷ []))
    go (got j t) = second j (symbol 44 t)
    go (stuck t) = refl

module _ {s : Bytes} {at : ℕ} where
  pub multiplied_stuck : {e : ℕ} → Fails multiplied_pair s at e → Fails multiplied s at e
  multiplied_stuck f = record { reads = multiplied_by_law (drop at s) ∙ (fails_first multiplied_pair (λ q. give (q ∷ [])) f).reads; onward = f.onward; inside = f.inside }

  pub multiplied_took : {k : ℕ} {store : Store} {old new : Numbering} {words words' : List ℕ} {x r : SumRead} → NoPairs x → AddedAt k store multiplied_pair old new s at words words' x r
      → SumAt k store multiplied old new s at words' r
  multiplied_took n g =
      let p = one_pair n g in
      record {
        value = g.value ∷ [];
        taken = record { reads = multiplied_by_law (drop at s) ∙ (got_then multiplied_pair (λ q. give (q ∷ [])) g.taken (got_give (g.value ∷ []) g.taken.inside)).reads; onward = g.taken.onward; inside = g.taken.inside };
        verdict = p.verdict;
        holds = p.holds;
        named = p.named;
      }

-- ---- PAC's sum: two ids, each a pair whose factor is 1
module _ {s : Bytes} {at : ℕ} where
  -- the pair of an id alone, behind those of x
  pub one_added : {k : ℕ} {store : Store} (names : Numbering) {words words' : List ℕ} {i : IdRead} {x r : SumRead} → IdAt s at i → OneAdded k store i words words' x r
      → AddedAt k store id_pair names names s at words words' x r
  unfolding summand_ranged summand_few field_ranged field_few renamed_field renamed_term in_range every is_term too_many_terms names_of gather first
  one_added {k} {store} names {words' = words'} {i} {x} {r} h o =
      let f = number_in names in
      record {
        value = pair_of h.value one;
        taken = subst (Got id_pair s at (pair_of h.value one)) (sym o.behind.end) (got_then constant _ h.taken (got_give (pair_of h.value one) h.taken.inside));
        verdict = o.behind.why ∙ ap (lesser_of x.why) (h.verdict ∙ verdict_number (is_index h.value) ∙ ap (λ (b : Bool). verdict_of b true) (sym (and-true (is_index h.value))));
        own = false;
        some = o.behind.bad;
        named = names_none names;
        summed = λ a b qs u.
            subst (λ (v : ℕ). Summed k store (qs ++ (renamed_pair f (pair_of v one) ∷ [])) words' r.sum) (h.word (lesser_accepted x.why i.why (sym o.behind.why ∙ a)).1) (o.summed a b f qs u);
      }

addends_by_law : (r : Bytes) → addends r ≡ next (id_pair r) (λ p t. next (symbol 44 t) (λ _ t. next (id_pair t) (λ q. give (p ∷ q ∷ []))))
unfolding addends
addends_by_law r = first (constant r)
  where
    third : (j : ℕ) (x : Read ℕ) → next x (λ o. give (pair_of j one ∷ pair_of o one ∷ [])) ≡ next (next x (λ o. give (pair_of o one))) (λ q. give (pair_of j one ∷ q ∷ []))
    third j (got o u) = refl
    third j (stuck u) = refl

    second : (j : ℕ) (x : Read (Unit {0}))
        → next x (λ _ t. next (constant t) (λ o. give (pair_of j one ∷ pair_of o one ∷ []))) ≡ next x (λ _ t. next (id_pair t) (λ q. give (pair_of j one ∷ q ∷ [])))
    second j (got z t) = third j (constant t)
    second j (stuck t) = refl

    first : (x : Read ℕ)
        → next x (λ j t. next (symbol 44 t) (λ _ t. next (constant t) (λ o. give (pair_of j one ∷ pair_of o one ∷ []))))
        ≡ next (next x (λ j. give (pair_of j one))) (λ p t. next (symbol 44 t) (λ _ t. next (id_pair t) (λ q. give (p ∷ q ∷ []))))
    first (got j t) = second j (symbol 44 t)
    first (stuck t) = refl

module _ {s : Bytes} {at : ℕ} where
  pub addends_unread : {e : ℕ} → Fails constant s at e → Fails addends s at e
  unfolding addends
  addends_unread f = fails_first constant _ f

  module _ {i : IdRead} (h : IdAt s at i) where
    pub addends_parted : {e : ℕ} → Fails (symbol 44) s i.end e → Fails addends s at e
    unfolding addends
    addends_parted f = fails_then constant _ h.taken (fails_first (symbol 44) _ f)

    pub addends_stuck : {m : ℕ} → Got (symbol 44) s i.end tt m → {e : ℕ} → Fails constant s m e → Fails addends s at e
    unfolding addends
    addends_stuck g f = fails_then constant _ h.taken (fails_then (symbol 44) _ g (fails_first constant _ f))

  pub addends_took : {k : ℕ} {store : Store} {names : Numbering} {words words' words'' : List ℕ} {x r r' : SumRead} {e m : ℕ} → NoPairs x
      → AddedAt k store id_pair names names s at words words' x r → r.end ≡ e → Got (symbol 44) s e tt m → AddedAt k store id_pair names names s m words' words'' r r'
      → SumAt k store addends names names s at words'' r'
  addends_took {r = r} {m = m} n p same g q =
      let c : Got (symbol 44) s r.end tt m = subst (λ (e : ℕ). Got (symbol 44) s e tt m) (sym same) g in
      let t = got_then id_pair _ p.taken (got_then (symbol 44) _ c (got_then id_pair _ q.taken (got_give (p.value ∷ q.value ∷ []) q.taken.inside))) in
      let z = pairs_and_one (one_pair n p) q in
      record {
        value = p.value ∷ q.value ∷ [];
        taken = record { reads = addends_by_law (drop at s) ∙ t.reads; onward = t.onward; inside = t.inside };
        verdict = z.verdict;
        holds = z.holds;
        named = z.named;
      }
