-- The numbers of a spelling are in range, what it means, and when two are one. Assumes nothing.
use mathlib.Core.Path.{◌≡◌, refl, sym, ap, ◌∙◌}
use mathlib.Core.Bool.{true}
use mathlib.Core.Logic.{◌↔◌}
use mathlib.Core.List.{List, [], ◌∷◌, map}
use Prim.Native.Nat.{ℕ, zero, suc, ◌+◌, ◌-◌, ◌/◌, ◌%◌, ◌^◌, ◌≤◌, ◌<◌}
use native.Mathlib.Nat.{pow-le-pow_right}
use native.Mathlib.Omega.{arith}
use lib.Dec.{eqb, leb, ltb}
use lib.ListN.{length, length-map}
use borrow.Author.Tests.{lt-ltb}
use Rattle.ground.specs.Lists.{every}
use Rattle.ground.proofs.Tests.{by_cond, and_both}
use Rattle.limits.specs.Limits.{variables, greatest_magnitude}
use Rattle.algebra.specs.Polynomial.{members, Term, Poly, value, put, insert, reduce, Reduced}
use Rattle.algebra.proofs.Reduced.{reduced_reduce}
use Rattle.algebra.proofs.OneForm.{one_form}
use Rattle.paper.specs.Grammar.{got}
use Rattle.paper.specs.Statement.{Written, within, modulo, is_ring, is_variable, is_term, in_range, as_term, reduced}
use Rattle.paper.specs.Spelling.{spell, whole_field}
use Rattle.paper.proofs.Ranges.{ring_most}
use Rattle.paper.proofs.ReadBack.{written_term, spell_back}
use Rattle.paper.proofs.SpelledMeaning.{field_below, meaning_back}
use Rattle.reader.proofs.Numbers.{within_yes}
use Rattle.promises.specs.Promises.{ReadBack}

-- ---- the numbers of a spelling
members_range : (n v m : ℕ) → v + n ≤ variables → every is_variable (members n v m) ≡ true
unfolding members every is_variable
members_range zero v m h = refl
members_range (suc n) v m h =
    let ih = members_range n (suc v) (m / 2) (omega arith) in
    by_cond (λ (l : List ℕ). every is_variable l ≡ true) (eqb (m % 2) 1)
    (λ _. and_both (is_variable v) (every is_variable (members n (suc v) (m / 2))) (lt-ltb v variables (omega arith)) ih) (λ _. ih)

module _ (k : ℕ) where
  magnitude_range : (t : Term) → is_ring (modulo k) ≡ true → 0 < t.coef → t.coef < 2 ^ k → within 1 greatest_magnitude (written_term k t).magnitude ≡ true
  unfolding written_term
  magnitude_range t e h l =
      let w : 2 ^ k ≤ 2 ^ 64 = pow-le-pow_right {n = 2} (omega arith) {i = k} {j = 64} (ring_most k e) in
      by_cond (λ (m : ℕ). within 1 greatest_magnitude m ≡ true) (leb t.coef (2 ^ (k - 1)))
      (λ _. within_yes 1 greatest_magnitude t.coef (omega arith) (omega arith)) (λ _. within_yes 1 greatest_magnitude (2 ^ k - t.coef) (omega arith) (omega arith))

  spelled_range : (b : ℕ) (p : Poly) → is_ring (modulo k) ≡ true → Reduced k b p → in_range (map (written_term k) p) ≡ true
  unfolding in_range every is_term written_term
  spelled_range b [] e r = refl
  spelled_range b (t ∷ p) e r =
      and_both (is_term (written_term k t)) (in_range (map (written_term k) p))
      (and_both (within 1 greatest_magnitude (written_term k t).magnitude) (every is_variable (members variables 0 t.set))
      (magnitude_range t e r.1 r.2) (members_range variables 0 t.set (omega arith)))
      (spelled_range t.set p e r.3)

pub read_back : ReadBack
read_back k p e r =
    (map (written_term k) p, spell_back k (2 ^ variables) p r, spelled_range k (2 ^ variables) p e r, length-map p (written_term k), meaning_back k p r)

-- ---- its terms are no more than the field's
module _ (k : ℕ) where
  put_few : (m c : ℕ) (p : Poly) → length (put k m c p) ≤ suc (length p)
  unfolding put
  put_few m c p = by_cond (λ (q : Poly). length q ≤ suc (length p)) (eqb (c % 2 ^ k) 0) (λ _. omega arith) (λ _. omega arith)

  insert_few : (m c : ℕ) (p : Poly) → length (insert k m c p) ≤ suc (length p)
  unfolding insert
  insert_few m c [] = put_few m c []
  insert_few m c (t ∷ p) =
      by_cond (λ (q : Poly). length q ≤ suc (suc (length p))) (eqb m t.set)
      (λ _. omega (arith, put_few m (c + t.coef) p))
      (λ _. by_cond (λ (q : Poly). length q ≤ suc (suc (length p))) (ltb t.set m) (λ _. put_few m c (t ∷ p)) (λ _. omega (arith, insert_few m c p)))

  pub reduced_few : (f : Written) → length (reduced k f) ≤ length f
  unfolding reduced reduce
  reduced_few [] = omega arith
  reduced_few (t ∷ f) = omega (arith, insert_few (as_term k t).set (as_term k t).coef (reduce k (map (as_term k) f)), reduced_few f)

  -- ---- what it means
  pub reduced_field : (f : Written) → in_range f ≡ true → Reduced k (2 ^ variables) (reduced k f)
  unfolding reduced
  reduced_field f e = reduced_reduce k (2 ^ variables) (map (as_term k) f) (field_below k f e)

  one_meaning : (f g : Written) → in_range f ≡ true → in_range g ≡ true
      → (reduced k f ≡ reduced k g) ↔ ((m : ℕ) → m < 2 ^ variables → value k m (map (as_term k) f) ≡ value k m (map (as_term k) g))
  unfolding reduced
  one_meaning f g ef eg = one_form k (map (as_term k) f) (map (as_term k) g) (2 ^ variables) (field_below k f ef) (field_below k g eg)

  -- a polynomial is all that its spelling reads as
  one_reading : (p q : Poly) → Reduced k (2 ^ variables) p → Reduced k (2 ^ variables) q → spell k p ≡ spell k q → p ≡ q
  one_reading p q r s e =
      let a : whole_field (spell k p) ≡ got (map (written_term k) p) [] = spell_back k (2 ^ variables) p r in
      let b : whole_field (spell k q) ≡ got (map (written_term k) q) [] = spell_back k (2 ^ variables) q s in
      let w : map (written_term k) p ≡ map (written_term k) q = (let c : got (map (written_term k) p) [] ≡ got (map (written_term k) q) [] = sym a ∙ ap whole_field e ∙ b in cc) in
      sym (meaning_back k p r) ∙ ap (reduced k) w ∙ meaning_back k q s

  pub one_spelling : (f g : Written) → in_range f ≡ true → in_range g ≡ true
      → (spell k (reduced k f) ≡ spell k (reduced k g)) ↔ ((m : ℕ) → m < 2 ^ variables → value k m (map (as_term k) f) ≡ value k m (map (as_term k) g))
  one_spelling f g ef eg = (
    λ e. (one_meaning f g ef eg).0 (one_reading (reduced k f) (reduced k g) (reduced_field f ef) (reduced_field g eg) e),
    λ h. ap (spell k) ((one_meaning f g ef eg).1 h),
  )
