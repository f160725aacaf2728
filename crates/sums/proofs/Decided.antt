-- What the contracts of `add_factor` and `Sum::none` decide: how the pairs are refused, else how many products there are, their words
-- and the variables seen, and that the stated region and all from the goal's on are kept. The words behind the products and the
-- factor's region are left open. Assumes nothing.
use mathlib.Core.Path.{◌≡◌, refl, sym, ap, ◌∙◌}
use mathlib.Core.List.{List}
use Prim.Native.Nat.{ℕ, ◌*◌}
use lib.ListN.{length, take}
use Rattle.std.specs.Prelude.{Result, Ok, Err}
use Rattle.limits.specs.Limits.{set_words, term_words}
use Rattle.limits.specs.declared.refusal.Refusal.{Refusal}
use Rattle.limits.proofs.Refusals.{refuses, one_refusal}
use Rattle.words.proofs.Laws.{Words}
use Rattle.words.proofs.Decided.{one_set}
use Rattle.terms.specs.Terms.{decode}
use Rattle.terms.proofs.Decided.{one_run}
use Rattle.paper.specs.Rules.{Store}
use Rattle.paper.specs.Statement.{Pair}
use Rattle.scratch.specs.Scratch.{Kept}
use Rattle.sums.specs.Sums.{SumOf, Summed}
use Rattle.sums.specs.declared.Sum.{Sum}
use Rattle.sums.proofs.Adding.{of_ok, of_err}

-- of two results: the same refusal, or the same sum with the same products
pub record SameSum (r q : List ℕ) (x y : Result Sum Refusal) : Type 0 where
  pub sum : x ≡ y
  pub products : (m : Sum) → x ≡ Ok m → take (m.terms * term_words) r ≡ take (m.terms * term_words) q

-- the words of a sum
pub record Wordly (x : Result Sum Refusal) : Type 0 where
  pub words : (m : Sum) → x ≡ Ok m → Words m.seen
  pub long : (m : Sum) → x ≡ Ok m → length m.seen ≡ set_words

sum_alike : (k : ℕ) (store : Store) (qs : List Pair) (r q : List ℕ) (m n : Sum) → Words m.seen → Words n.seen → length m.seen ≡ set_words → length n.seen ≡ set_words
    → SumOf k store qs r m → SumOf k store qs q n → m ≡ n
sum_alike k store qs r q m n u w l o a b = λ i. record {
  terms = (a.count ∙ sym b.count) i;
  seen = one_set m.seen n.seen l o u w (a.seen ∙ sym b.seen) i;
}

pub sums_alike : (k : ℕ) (store : Store) (qs : List Pair) (r q : List ℕ) (x y : Result Sum Refusal) → length r ≡ length q → Words r → Words q → Wordly x → Wordly y
    → Summed k store qs r x → Summed k store qs q y → SameSum r q x y
sums_alike k store qs r q (Ok m) (Ok n) same f g u w a b = record { sum = ap (λ (c : Sum). Ok c) e; products = products }
  where
    e : m ≡ n
    e = sum_alike k store qs r q m n (u.words m refl) (w.words n refl) (u.long m refl) (w.long n refl) (a.some m refl) (b.some n refl)

    products : (p : Sum) → ◌≡◌ {A = Result Sum Refusal} (Ok m) (Ok p) → take (p.terms * term_words) r ≡ take (p.terms * term_words) q
    products = of_ok (λ (p : Sum). take (p.terms * term_words) r ≡ take (p.terms * term_words) q) m
        (one_run m.terms r q same f g ((a.some m refl).run ∙ sym (b.some n refl).run ∙ ap (λ (c : Sum). decode c.terms q) (sym e)))
sums_alike k store qs r q (Ok m) (Err v) same f g u w a b = absurd (refuses v (b.verdict ∙ sym a.verdict))
sums_alike k store qs r q (Err v) (Ok n) same f g u w a b = absurd (refuses v (a.verdict ∙ sym b.verdict))
sums_alike k store qs r q (Err v) (Err z) same f g u w a b = record {
  sum = ap (λ (c : Refusal). Err c) (one_refusal v z (a.verdict ∙ sym b.verdict));
  products = of_err (λ (m : Sum). take (m.terms * term_words) r ≡ take (m.terms * term_words) q) v;
}

-- what was left of a scratch, for two of which it is said
pub kept_alike : (s r q : List ℕ) → Kept s r → Kept s q → Kept q r
kept_alike s r q a b = record { stated = a.stated ∙ sym b.stated; goal = a.goal ∙ sym b.goal; same = a.same ∙ sym b.same }
