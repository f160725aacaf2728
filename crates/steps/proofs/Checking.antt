-- What the checks of an ext line and of a lin line say. Assumes nothing.
use mathlib.Core.Path.{◌≡◌, refl, sym, ap, ap₂, subst, ◌∙◌}
use mathlib.Core.Bool.{Bool, true, false, not}
use mathlib.Core.List.{List, [], ◌∷◌}
use Prim.Native.Nat.{ℕ, ◌*◌, ◌^◌, ◌≤◌, ◌<◌}
use native.Mathlib.Omega.{arith}
use Rattle.std.specs.Prelude.{Result, Ok, Err}
use lib.Bits.{bit_or}
use lib.Dec.{ltb}
use lib.ListN.{length, drop}
use borrow.Author.Tests.{lt-ltb, le-ltb}
use Rattle.ground.proofs.Lists.{drop_more}
use Rattle.words.specs.Parts.{Within}
use Rattle.limits.specs.Limits.{greatest_ring, line_products}
use Rattle.limits.specs.Verdicts.{SEEN, PRODUCTS, MISMATCH, NOTBIT}
use Rattle.limits.specs.Refusals as refusals
use Rattle.limits.specs.declared.refusal.Refusal.{Refusal}
use Rattle.limits.specs.declared.refusal.Refusal.TheVariants.{Seen, Products, Mismatch, NotBit}
use Rattle.limits.proofs.Refusals.{refuses}
use Rattle.algebra.specs.Polynomial.{Poly, has, equal, reduce, product, extension}
use Rattle.algebra.proofs.Unions.{or_assoc}
use Rattle.words.specs.Words.{number_of}
use Rattle.terms.specs.Terms.{decode}
use Rattle.terms.proofs.Decode.{decode_length, decode_above, decode_below}
use Rattle.terms.proofs.Rounding.{reduce_rounded}
use Rattle.paper.specs.Statement.{Written, Pair, reduced}
use Rattle.paper.specs.Rules.{first, Store, find, combination, shows, shows_all}
use Rattle.scratch.specs.Scratch.{stated_at, factor_at, goal_at, RunAt, ReducedAt}
use Rattle.scratch.specs.declared.Reduced.{Reduced}
use Rattle.sums.specs.declared.Sum.{Sum}
use Rattle.sums.specs.Rows.{Rows, or_else}
use Rattle.sums.specs.Sums.{factors_of, products_of, pair_rows, SumOf, Summed}
use Rattle.sums.proofs.Rows.{else_stop, first_append}
use Rattle.steps.specs.declared.check.Candidate.{Candidate}
use Rattle.steps.specs.Parts.{lin_rows, ext_rows, MadeIs, CandidateIs}

-- ---- refused, or made
refused : {rows : Rows} {q : Poly} {made shown : ℕ} {s r : List ℕ} {c : Result Candidate Refusal} (why : Refusal) → c ≡ Err why → refusals.number_of why ≡ first rows
    → drop goal_at r ≡ drop goal_at s → length r ≡ length s → CandidateIs rows q made shown s r c
refused why h e g l = record {
  verdict = ap refusals.outcome h ∙ e;
  makes = λ m z. absurd (refuses why (ap refusals.outcome (sym h ∙ z)));
  goal = g;
  same = l;
}

candidate_one : {m n : Candidate} → ◌≡◌ {A = Result Candidate Refusal} (Ok m) (Ok n) → m ≡ n
candidate_one e = cc

makes : {rows : Rows} {q : Poly} {made shown : ℕ} {s r : List ℕ} {m : Candidate} → 0 ≡ first rows → MadeIs q made shown r m
    → drop goal_at r ≡ drop goal_at s → length r ≡ length s → CandidateIs rows q made shown s r (Ok m)
makes {q = q} {made} {shown} {r = r} e d g l = record { verdict = e; makes = λ n z. subst (MadeIs q made shown r) (candidate_one z) d; goal = g; same = l }

-- ---- in
pub input_candidate : {k : ℕ} {p : Written} {f : Reduced} {s x : List ℕ} (seen all : List ℕ) → ReducedAt k p stated_at s x f → number_of all ≡ bit_or (number_of f.shown) (number_of seen)
    → CandidateIs [] (reduced k p) 0 (bit_or (shows k p) (number_of seen)) s x (Ok (record { terms = f.terms; products = 0; seen = all }))
unfolding first
input_candidate {s = s} {x} seen all d u = makes refl (record {
  run = d.at.run;
  few = d.at.few;
  count = refl;
  most = omega arith;
  seen = u ∙ ap (λ (m : ℕ). bit_or m (number_of seen)) d.shown;
}) (drop_more factor_at goal_at s x (omega arith) d.at.within.after) d.at.within.same

-- ---- ext
module _ (k v : ℕ) (seen : List ℕ) {p : Written} {f : Reduced} {s x : List ℕ} (d : ReducedAt k p stated_at s x f) where
  abbrev Extending : List ℕ → Result Candidate Refusal → Type 0
  Extending r c =
      CandidateIs (ext_rows k (number_of seen) v p) (extension k v (reduced k p)) (length (reduced k p) * length (reduced k p)) (bit_or (bit_or (2 ^ v) (shows k p)) (number_of seen)) s r c

  abbrev rows_of : Bool → Bool → Bool → ℕ
  rows_of clash over bit = first ((SEEN, clash) ∷ (PRODUCTS, over) ∷ (NOTBIT, not bit) ∷ [])

  -- the verdict by the tests
  by_tests : {a b c : Bool} → has (bit_or (shows k p) (number_of seen)) v ≡ a → ltb line_products (length (reduced k p) * length (reduced k p)) ≡ b
      → equal (product k (reduced k p) (reduced k p)) (reduced k p) ≡ c → rows_of a b c ≡ first (ext_rows k (number_of seen) v p)
  by_tests e₁ e₂ e₃ = λ i. rows_of (sym e₁ i) (sym e₂ i) (sym e₃ i)

  long : length (reduced k p) ≡ f.terms
  long = ap length (sym d.at.run) ∙ decode_length f.terms (drop stated_at x)

  goal_kept : drop goal_at x ≡ drop goal_at s
  goal_kept = drop_more factor_at goal_at s x (omega arith) d.at.within.after

  module _ (all : List ℕ) (t : Bool) (u : number_of all ≡ bit_or (number_of f.shown) (number_of seen)) (e : t ≡ has (number_of all) v) where
    shown_too : number_of all ≡ bit_or (shows k p) (number_of seen)
    shown_too = u ∙ ap (λ (m : ℕ). bit_or m (number_of seen)) d.shown

    clashes : has (bit_or (shows k p) (number_of seen)) v ≡ t
    clashes = sym (e ∙ ap (λ (m : ℕ). has m v) shown_too)

    pub extends_seen : t ≡ true → Extending x (Err Seen)
    unfolding first
    extends_seen h = refused Seen refl (by_tests (clashes ∙ h) refl refl) goal_kept d.at.within.same

    module _ (h : t ≡ false) where
      pub extends_many : line_products < f.terms * f.terms → Extending x (Err Products)
      unfolding first
      extends_many l =
          refused Products refl (by_tests (clashes ∙ h) (ap (λ (m : ℕ). ltb line_products (m * m)) long ∙ lt-ltb line_products (f.terms * f.terms) l) refl)
          goal_kept d.at.within.same

      module _ (few : f.terms * f.terms ≤ line_products) {b : Bool} (y : List ℕ) (w : Within 0 stated_at x y)
          (q : b ≡ equal (product k (decode f.terms (drop stated_at x)) (decode f.terms (drop stated_at x))) (decode f.terms (drop stated_at x))) where
        counted : ltb line_products (length (reduced k p) * length (reduced k p)) ≡ false
        counted = ap (λ (m : ℕ). ltb line_products (m * m)) long ∙ le-ltb line_products (f.terms * f.terms) few

        bit : equal (product k (reduced k p) (reduced k p)) (reduced k p) ≡ b
        bit = sym (q ∙ ap (λ (y : Poly). equal (product k y y) y) d.at.run)

        goal_too : drop goal_at y ≡ drop goal_at s
        goal_too = drop_more stated_at goal_at x y (omega arith) w.after ∙ goal_kept

        pub extends_no_bit : b ≡ false → Extending y (Err NotBit)
        unfolding first
        extends_no_bit l = refused NotBit refl (by_tests (clashes ∙ h) counted (bit ∙ l)) goal_too (w.same ∙ d.at.within.same)

        pub extends_all : b ≡ true → (r more : List ℕ) (m : ℕ) → RunAt stated_at (extension k v (decode f.terms (drop stated_at y))) y r m → number_of more ≡ bit_or (2 ^ v) (number_of all)
            → Extending r (Ok (record { terms = m; products = f.terms * f.terms; seen = more }))
        unfolding first
        extends_all l r more m i o = makes (by_tests (clashes ∙ h) counted (bit ∙ l)) (record {
          run = i.run ∙ ap (extension k v) (decode_above f.terms stated_at 0 stated_at x y w (omega arith) ∙ d.at.run);
          few = i.few;
          count = ap (λ (m : ℕ). m * m) (sym long);
          most = few;
          seen = o ∙ ap (bit_or (2 ^ v)) shown_too ∙ sym (or_assoc (2 ^ v) (shows k p) (number_of seen));
        }) (drop_more factor_at goal_at y r (omega arith) i.within.after ∙ goal_too) (i.within.same ∙ w.same ∙ d.at.within.same)

-- ---- lin
module _ {k : ℕ} {store : Store} {qs : List Pair} (seen : List ℕ) (p : Written) {s : List ℕ} {u : Result Sum Refusal} (a : Summed k store qs s u) where
  abbrev Adding : List ℕ → Result Candidate Refusal → Type 0
  Adding r c =
      CandidateIs (lin_rows k store p qs) (reduced k p) (products_of k (find store) qs) (bit_or (bit_or (shows k p) (shows_all k (factors_of qs))) (number_of seen)) s r c

  abbrev mismatch : Rows
  mismatch = (MISMATCH, not (equal (reduced k p) (reduce k (combination k (find store) qs)))) ∷ []

  by_sum : first (lin_rows k store p qs) ≡ or_else (refusals.outcome u) (first mismatch)
  by_sum = first_append (pair_rows k store qs) mismatch (omega arith, (omega arith, tt)) ∙ ap (λ (v : ℕ). or_else v (first mismatch)) (sym a.verdict)

  pub sum_refused : {why : Refusal} {c : Result Candidate Refusal} → u ≡ Err why → c ≡ Err why → Adding s c
  sum_refused {why} e h =
      let v : refusals.outcome u ≡ refusals.number_of why = ap refusals.outcome e in
      refused why h (sym (by_sum ∙ else_stop (refusals.outcome u) (first mismatch) (λ z. refuses why (sym v ∙ z)) ∙ v)) refl refl

  module _ {m : Sum} (o : u ≡ Ok m) (kk : k ≤ greatest_ring) {x y : List ℕ} {f : Reduced} (d : ReducedAt k p stated_at s x f) {b : Bool} (w : Within 0 stated_at x y)
      (e : b ≡ equal (decode f.terms (drop stated_at x)) (reduce k (decode m.terms x))) where
    sum : SumOf k store qs s m
    sum = a.some m o

    same_sum : equal (reduced k p) (reduce k (combination k (find store) qs)) ≡ b
    same_sum = sym (e ∙ ap₂ equal d.at.run (ap (reduce k) (decode_below m.terms stated_at factor_at s x d.at.within (omega (arith, sum.most)) ∙ sum.run)
        ∙ reduce_rounded k kk (combination k (find store) qs)))

    by_match : (t : Bool) → b ≡ t → first ((MISMATCH, not t) ∷ []) ≡ first (lin_rows k store p qs)
    by_match t h = sym (by_sum ∙ ap (λ (u : Result Sum Refusal). or_else (refusals.outcome u) (first mismatch)) o ∙ ap (λ (t : Bool). first ((MISMATCH, not t) ∷ [])) (same_sum ∙ h))

    goal_same : drop goal_at y ≡ drop goal_at s
    goal_same = drop_more stated_at goal_at x y (omega arith) w.after ∙ drop_more factor_at goal_at s x (omega arith) d.at.within.after

    pub sum_differs : b ≡ false → Adding y (Err Mismatch)
    unfolding first
    sum_differs z = refused Mismatch refl (by_match false z) goal_same (w.same ∙ d.at.within.same)

    pub sum_matches : b ≡ true → (all more : List ℕ) → number_of all ≡ bit_or (number_of f.shown) (number_of m.seen) → number_of more ≡ bit_or (number_of all) (number_of seen)
        → Adding y (Ok (record { terms = f.terms; products = m.terms; seen = more }))
    unfolding first
    sum_matches z all more g h = makes (by_match true z) (record {
      run = decode_above f.terms stated_at 0 stated_at x y w (omega arith) ∙ d.at.run;
      few = d.at.few;
      count = sum.count;
      most = sum.most;
      seen = h ∙ ap (λ (m : ℕ). bit_or m (number_of seen)) (g ∙ ap₂ bit_or d.shown sum.seen);
    }) goal_same (w.same ∙ d.at.within.same)
