-- Published texts that are accepted are sound, and the counts of an answer are the sums over what was accepted. Assumes nothing.
use mathlib.Core.Path.{◌≡◌, refl, sym, ◌∙◌, subst}
use mathlib.Core.Bool.{true, false, ◌||◌}
use mathlib.Core.List.{List, []}
use Prim.Native.Nat.{ℕ, ◌+◌}
use native.Mathlib.Omega.{arith}
use lib.Dec.{ltb}
use lib.ListN.{length}
use Rattle.ground.proofs.Tests.{by_cond}
use Rattle.limits.specs.Limits.{text_bytes, least_pool, least_scratch}
use Rattle.limits.specs.Verdicts.{ACCEPTED, SHORT, LONGTEXT, NUMBER}
use Rattle.paper.specs.Statement.{Statement, modulo, ring, is_ring}
use Rattle.paper.specs.Rules.{State, start, after}
use Rattle.paper.specs.Answer.{Answer, run, capacity_of, unread, products_in, introduced_polynomials, deleted_polynomials, introduced_terms, deleted_terms}
use Rattle.paper.specs.Named.{Texts, published_items, published_answer, published_statements, published_accepted}
use Rattle.paper.proofs.Course.{ran}
use Rattle.paper.proofs.Accepted.{SoundAt, sound_behind}
use Rattle.paper.proofs.Counts.{counted_behind}

abbrev behind_ring : ℕ → State
behind_ring k = after start (ring (modulo k))

-- the counts of a are the sums over the statements h at the ring k
pub record SumsOver (k : ℕ) (a : Answer) (h : List Statement) : Type 0 where
  pub products : a.products ≡ products_in k h
  pub polynomials : a.polynomials + deleted_polynomials h ≡ introduced_polynomials k h
  pub terms : a.terms + deleted_terms k h ≡ introduced_terms k h

module _ (k : ℕ) (t : Texts) (pool scratch : ℕ) where
  -- what holds of every answer that does not read the texts, and of the run, holds of the answer
  by_published : (P : Answer → Type 0) → P (unread SHORT) → P (unread LONGTEXT) → (is_ring (modulo k) ≡ false → P (unread NUMBER))
      → P (run (capacity_of pool) (behind_ring k) 0 (published_items t)) → P (published_answer k t pool scratch)
  unfolding published_answer
  by_published P short long out whole =
      by_cond P (ltb pool least_pool || ltb scratch least_scratch) (λ _. short)
      (λ _. by_cond P (ltb text_bytes (length t.constraints + length t.target + length t.proof)) (λ _. long) (λ _. by_cond P (is_ring (modulo k)) (λ _. whole) out))

  pub published_sound : (published_answer k t pool scratch).verdict ≡ ACCEPTED → SoundAt k (published_statements t)
  unfolding unread published_statements
  published_sound =
      by_published (λ (a : Answer). a.verdict ≡ ACCEPTED → SoundAt k (published_statements t))
      (λ e. absurd (omega arith)) (λ e. absurd (omega arith)) (λ _ e. absurd (omega arith)) whole
    where
      whole : (run (capacity_of pool) (behind_ring k) 0 (published_items t)).verdict ≡ ACCEPTED → SoundAt k (published_statements t)
      whole e =
          let r = ran (capacity_of pool) (behind_ring k) 0 (published_items t) in
          subst (SoundAt k) (r.all e) (sound_behind (capacity_of pool) k r.went (r.phase e) (r.reached e))

  pub published_counts : is_ring (modulo k) ≡ true → ((published_answer k t pool scratch).verdict ≡ SHORT → ⊥) → ((published_answer k t pool scratch).verdict ≡ LONGTEXT → ⊥)
      → SumsOver k (published_answer k t pool scratch) (published_accepted k t pool)
  unfolding unread published_accepted
  published_counts e =
      by_published (λ (a : Answer). (a.verdict ≡ SHORT → ⊥) → (a.verdict ≡ LONGTEXT → ⊥) → SumsOver k a (published_accepted k t pool))
      (λ n m. absurd (n refl)) (λ n m. absurd (m refl)) (λ f n m. absurd (let z : ◌≡◌ {A = ℕ} 0 1 = cc in omega arith)) (λ n m. whole)
    where
      whole : SumsOver k (run (capacity_of pool) (behind_ring k) 0 (published_items t)) (published_accepted k t pool)
      whole =
          let r = ran (capacity_of pool) (behind_ring k) 0 (published_items t) in
          let c = counted_behind (capacity_of pool) k r.went in
          subst (SumsOver k (run (capacity_of pool) (behind_ring k) 0 (published_items t))) (sym (r.hear []))
          (record { products = r.products ∙ c.products; polynomials = omega (arith, r.polynomials, c.polynomials); terms = omega (arith, r.terms, c.terms) })
