-- The promises, each by the law behind it. Assumes nothing.
use mathlib.Core.Path.{◌≡◌, refl, sym, ◌∙◌, subst}
use mathlib.Core.Bool.{◌||◌}
use mathlib.Core.Logic.{inl, inr, ⊎_elim}
use mathlib.Core.List.{List, []}
use Prim.Native.Nat.{ℕ, zero, suc, ◌^◌, ◌<◌}
use native.Mathlib.Nat.{pow-suc}
use native.Mathlib.Omega.{arith}
use lib.Pow.{pow_pos}
use lib.Dec.{ltb}
use lib.ListN.{length}
use Rattle.ground.proofs.Tests.{by_cond}
use Rattle.ground.proofs.Congruence.{same_lt}
use Rattle.limits.specs.Limits.{text_bytes, least_pool, least_scratch}
use Rattle.limits.specs.Verdicts.{SHORT, LONGTEXT}
use Rattle.algebra.proofs.Values.{value_add, value_mul}
use Rattle.algebra.proofs.Reduced.{is_reduce}
use Rattle.algebra.proofs.OneForm.{one_form}
use Rattle.algebra.proofs.Bit.{bit_cases, value_lt}
use Rattle.algebra.proofs.Derivation.{derived_zero, derived_goal}
use Rattle.paper.specs.Grammar.{Bytes}
use Rattle.paper.specs.Statement.{Statement}
use Rattle.paper.specs.Rules.{start}
use Rattle.paper.specs.Answer.{items, Answer, run, capacity_of, unread, answer, statements, ring_in, accepted}
use Rattle.paper.proofs.Course.{ran, opened}
use Rattle.paper.proofs.Accepted.{sound_steps}
use Rattle.paper.proofs.Counts.{counted_steps}
use Rattle.promises.specs.Promises.{SumOfValues, ProductOfValues, OneForm, OneList, BitEverywhere, DerivedForces, DefinitionsCanBeMet, Sound, AcceptedIsSound, Counted, CountsAreSums}

pub sum_of_values : SumOfValues
sum_of_values = value_add

pub product_of_values : ProductOfValues
product_of_values = value_mul

pub one_form_n : OneForm
one_form_n k n p q = one_form k p q (2 ^ n)

pub one_list : OneList
one_list k n p q b r e = is_reduce k (2 ^ n) p q b r (λ m h. record { same = e m h })

pub bit_everywhere : BitEverywhere
bit_everywhere k a p h e =
    ⊎_elim (λ s. inl (same_lt (value_lt k a p) (pow_pos k) s)) (λ s. inr (same_lt (value_lt k a p) (two k h) s)) (bit_cases k a p e)
  where
    two : (k : ℕ) → 0 < k → 1 < 2 ^ k
    two zero h = absurd (omega arith)
    two (suc k) h = omega (arith, pow-suc 2 k, pow_pos k)

pub derived_forces : DerivedForces
derived_forces k is ps es g d = derived_goal k d

pub definitions_can_be_met : DefinitionsCanBeMet
definitions_can_be_met k is ps es d a h = let z = derived_zero k d a h in (z.now, z.only, z.null)

-- what is promised of a text that was run, is promised of its answer
by_answer : (P : Answer → Type 0) (text : Bytes) (pool scratch : ℕ) → P (unread SHORT) → P (unread LONGTEXT) → P (run (capacity_of pool) start 0 (items text))
    → P (answer text pool scratch)
unfolding answer
by_answer P text pool scratch short long whole =
    by_cond P (ltb pool least_pool || ltb scratch least_scratch) (λ e. short) (λ e. by_cond P (ltb text_bytes (length text)) (λ f. long) (λ f. whole))

pub accepted_is_sound : AcceptedIsSound
unfolding unread statements
accepted_is_sound text pool scratch =
    by_answer (λ (a : Answer). a.verdict ≡ 0 → Sound (statements text) (ring_in (statements text))) text pool scratch (λ e. absurd (omega arith)) (λ e. absurd (omega arith)) whole
  where
    whole : (run (capacity_of pool) start 0 (items text)).verdict ≡ 0 → Sound (statements text) (ring_in (statements text))
    whole e =
        let r = ran (capacity_of pool) start 0 (items text) in
        let s = sound_steps (capacity_of pool) (opened (capacity_of pool) r.went refl) (r.phase e) (r.reached e) in
        subst (λ (sts : List Statement). Sound sts (ring_in sts)) (r.all e)
        (record { forced = s.goal_zero; met = λ a z. ((s.all_zero a z).now, (s.all_zero a z).only, (s.all_zero a z).null) })

pub counts_are_sums : CountsAreSums
unfolding unread accepted
counts_are_sums text pool scratch =
    by_answer (λ (a : Answer). (a.verdict ≡ SHORT → ⊥) → (a.verdict ≡ LONGTEXT → ⊥) → Counted a (accepted text pool) (ring_in (accepted text pool))) text pool scratch
    (λ n m. absurd (n refl)) (λ n m. absurd (m refl)) (λ n m. whole)
  where
    whole : Counted (run (capacity_of pool) start 0 (items text)) (accepted text pool) (ring_in (accepted text pool))
    whole =
        let r = ran (capacity_of pool) start 0 (items text) in
        let c = counted_steps (capacity_of pool) (opened (capacity_of pool) r.went refl) in
        subst (λ (h : List Statement). Counted (run (capacity_of pool) start 0 (items text)) h (ring_in h)) (sym (r.hear []))
        (record { products = r.products ∙ c.products; polynomials = omega (arith, r.polynomials, c.polynomials); terms = omega (arith, r.terms, c.terms) })
