-- A spelling is longer than its field by a sign for each written term at the most. Assumes nothing.
use mathlib.Core.Path.{◌≡◌, refl, sym, ap, ◌∙◌, subst}
use mathlib.Core.Bool.{Bool, true, false, cond}
use mathlib.Core.Logic.{⊎_elim}
use mathlib.Core.List.{List, [], ◌∷◌, map}
use Prim.Native.Nat.{ℕ, suc, ◌+◌, ◌-◌, ◌*◌, ◌%◌, ◌^◌, ◌≤◌, ◌<◌, max}
use Prim.Native.Char.{code}
use native.Mathlib.Nat.{zero-add, add-zero, add_comm, add-mul, mul_comm, mod-le, mod-lt, mod-eq_of_lt, mod-eq-sub-mod, mul-mod_left, zero-mod, pow-suc}
use native.Mathlib.Omega.{arith}
use lib.Dec.{eqb, leb, ltb}
use lib.ListN.{length, length-append}
use lib.Pow.{pow_pos}
use borrow.Author.Tests.{leb-true, leb-false, ltb-true, ltb-false}
use Rattle.ground.specs.Lists.{total, gather}
use Rattle.ground.proofs.Tests.{split, by_cond}
use Rattle.ground.proofs.Congruence.{Same, same_refl, same_eq, same_add, same_mod, same_cancel, same_lt, ◌⊳◌}
use Rattle.limits.specs.Limits.{variables}
use Rattle.algebra.specs.Polynomial.{members, Term, Poly, put, insert, reduce, Reduced}
use Rattle.algebra.proofs.Reduced.{reduced_reduce}
use Rattle.algebra.proofs.Sums.{bound, below_bound}
use Rattle.paper.specs.Grammar.{Bytes, bytes, got}
use Rattle.paper.specs.Statement.{WrittenTerm, Written, set_of, as_term, reduced}
use Rattle.paper.specs.Spelling.{spell_number, spell_coefficient, spell_term, spell, whole_field}
use Rattle.writer.specs.Writing.{dotted, spaced}
use Rattle.promises.proofs.Lengths.{digit_count, number_le, number_sum, set_length, set_length_law, term_length, field_length}

length_gather : {A B : Type 0} (f : A → List B) (xs : List A) → length (gather f xs) ≡ total (λ x. length (f x)) xs
unfolding gather total
length_gather f [] = refl
length_gather f (x ∷ xs) = length-append (f x) (gather f xs) ∙ ap (λ (n : ℕ). length (f x) + n) (length_gather f xs)

total_most : {A : Type 0} (f g : A → ℕ) → ((x : A) → f x ≤ g x) → (xs : List A) → total f xs ≤ total g xs
unfolding total
total_most f g h [] = omega arith
total_most f g h (x ∷ xs) = omega (arith, h x, total_most f g h xs)

total_more : {A : Type 0} (f : A → ℕ) (xs : List A) → total (λ x. suc (f x)) xs ≡ total f xs + length xs
unfolding total
total_more f [] = refl
total_more f (x ∷ xs) = omega (arith, total_more f xs)

module _ (k : ℕ) (some : 1 ≤ k) where
  -- ---- the magnitude that a coefficient is spelled with: the smaller of it and what it lacks of 2 ^ k
  abbrev size : ℕ → ℕ
  size c = cond (leb c (2 ^ (k - 1))) c (2 ^ k - c)

  halves : 2 ^ k ≡ 2 ^ (k - 1) * 2
  halves = subst (λ (n : ℕ). 2 ^ n ≡ 2 ^ (k - 1) * 2) (let e : suc (k - 1) ≡ k = omega arith in e) (pow-suc 2 (k - 1))

  size_plus : (c : ℕ) → size c ≤ c
  size_plus c = by_cond (λ (n : ℕ). n ≤ c) (leb c (2 ^ (k - 1))) (λ e. omega arith) (λ e. omega (arith, halves, leb-false c (2 ^ (k - 1)) e))

  size_minus : (c : ℕ) → size c ≤ 2 ^ k - c
  size_minus c = by_cond (λ (n : ℕ). n ≤ 2 ^ k - c) (leb c (2 ^ (k - 1))) (λ e. omega (arith, halves, leb-true c (2 ^ (k - 1)) e)) (λ e. omega arith)

  -- a sum's is at most that of its parts
  sum_plus : (n d : ℕ) → d < 2 ^ k → size ((n + d) % 2 ^ k) ≤ n + size d
  sum_plus n d h =
      let r : ℕ = (n + d) % 2 ^ k in
      by_cond (λ (x : ℕ). size r ≤ n + x) (leb d (2 ^ (k - 1)))
      (λ e. omega (arith, size_plus r, mod-le (n + d) (2 ^ k)))
      (λ e. ⊎_elim
      (λ l. omega (arith, size_minus r, mod-eq_of_lt (ltb-true (n + d) (2 ^ k) l)))
      (λ l. omega (arith, size_plus r, mod-eq-sub-mod (ltb-false (n + d) (2 ^ k) l), mod-le (n + d - 2 ^ k) (2 ^ k)))
      (split (ltb (n + d) (2 ^ k))))

  sum_minus : (c n d : ℕ) → Same (2 ^ k) (c + n) 0 → d < 2 ^ k → size ((c + d) % 2 ^ k) ≤ n + size d
  sum_minus c n d z h = ⊎_elim (λ l. low (leb-true n d l)) (λ l. high (leb-false n d l)) (split (leb n d))
    where
      r : ℕ
      r = (c + d) % 2 ^ k

      back : Same (2 ^ k) (r + n) d
      back = same_add (same_mod (c + d)) same_refl ⊳ same_eq (let e : c + d + n ≡ c + n + d = omega arith in e) ⊳ same_add z same_refl ⊳ same_eq (zero-add d)

      low : n ≤ d → size r ≤ n + size d
      low l =
          let e : r ≡ d - n = same_lt (mod-lt (c + d) (pow_pos k)) (omega arith)
          (same_cancel (pow_pos k) {x = n} {y = n} same_refl (same_eq (add_comm n r) ⊳ back ⊳ same_eq (let e : d ≡ n + (d - n) = omega arith in e))) in
          by_cond (λ (x : ℕ). size r ≤ n + x) (leb d (2 ^ (k - 1))) (λ _. omega (arith, size_plus r)) (λ _. omega (arith, size_minus r))

      high : d < n → size r ≤ n + size d
      high l =
          let s : Same (2 ^ k) (r + (n - d)) 0 = same_cancel (pow_pos k) {x = d} {y = d} same_refl
          (same_eq (let e : d + (r + (n - d)) ≡ r + n = omega arith in e) ⊳ back ⊳ same_eq (let e : d ≡ d + 0 = omega arith in e)) in
          ⊎_elim
          (λ t. absurd (let y : ⊥ = omega (arith, same_lt (ltb-true (r + (n - d)) (2 ^ k) t) (pow_pos k) s) in y))
          (λ t. omega (arith, size_minus r, ltb-false (r + (n - d)) (2 ^ k) t))
          (split (ltb (r + (n - d)) (2 ^ k)))

  term_sum : (t : WrittenTerm) (d : ℕ) → d < 2 ^ k → size (((as_term k t).coef + d) % 2 ^ k) ≤ t.magnitude + size d
  unfolding as_term
  term_sum t d h = go t.negative
    where
      m : ℕ
      m = t.magnitude

      -- minus m and m together are a multiple of 2 ^ k
      none : Same (2 ^ k) ((2 ^ k - 1) * m + m) 0
      none = same_eq (let e : (2 ^ k - 1) * m + m ≡ m * 2 ^ k = omega (arith, add-mul (2 ^ k - 1) 1 m, ap (λ (x : ℕ). x * m) (let e : 2 ^ k - 1 + 1 ≡ 2 ^ k = omega (arith, pow_pos k) in e), mul_comm m (2 ^ k)) in e)
          ⊳ record { same = mul-mod_left m (2 ^ k) ∙ sym (zero-mod (2 ^ k)) }

      go : (b : Bool) → size ((cond b ((2 ^ k - 1) * m) m + d) % 2 ^ k) ≤ m + size d
      go true = sum_minus ((2 ^ k - 1) * m) m d none h
      go false = sum_plus m d h

  term_alone : (t : WrittenTerm) → size ((as_term k t).coef % 2 ^ k) ≤ t.magnitude
  term_alone t =
      omega (arith, term_sum t 0 (pow_pos k), ap (λ (c : ℕ). size (c % 2 ^ k)) (add-zero (as_term k t).coef), size_plus 0)

  -- ---- a term with a space and a sign, whether it has them or not
  weight : Term → ℕ
  weight t = 2 + digit_count (size t.coef) + set_length variables 0 t.set

  spelled_coefficient : (c : ℕ) → length (spell_coefficient k c) ≤ suc (digit_count (size c))
  unfolding spell_coefficient
  spelled_coefficient c = go (leb c (2 ^ (k - 1)))
    where
      go : (b : Bool) → length (cond b (spell_number c) (code "-" ∷ spell_number (2 ^ k - c))) ≤ suc (digit_count (cond b c (2 ^ k - c)))
      go true = omega arith
      go false = omega arith

  spelled_term : (t : Term) → suc (length (spell_term k t)) ≤ weight t
  unfolding spell_term weight
  spelled_term t =
      omega (
        arith,
        length-append (spell_coefficient k t.coef) (gather dotted (members variables 0 t.set)),
        spelled_coefficient t.coef,
        length_gather dotted (members variables 0 t.set),
      )

  spelled_length : (p : Poly) → length (spell k p) ≤ max 1 (total weight p - 1)
  unfolding spell bytes total
  spelled_length [] = omega arith
  spelled_length (t ∷ p) =
      omega (
        arith,
        length-append (spell_term k t) (gather (spaced k) p),
        spelled_term t,
        length_gather (spaced k) p,
        total_most (λ u. suc (length (spell_term k u))) weight spelled_term p,
      )

  -- ---- reducing adds no more than the terms put in
  put_weight : (m c : ℕ) (p : Poly) → total weight (put k m c p) ≤ 2 + digit_count (size (c % 2 ^ k)) + set_length variables 0 m + total weight p
  unfolding put total weight
  put_weight m c p =
      by_cond (λ (q : Poly). total weight q ≤ 2 + digit_count (size (c % 2 ^ k)) + set_length variables 0 m + total weight p) (eqb (c % 2 ^ k) 0) (λ e. omega arith) (λ e. omega arith)

  module _ (t : WrittenTerm) where
    abbrev added : ℕ → ℕ
    added m = 2 + digit_count t.magnitude + set_length variables 0 m

    put_alone : (m : ℕ) (p : Poly) → total weight (put k m (as_term k t).coef p) ≤ added m + total weight p
    put_alone m p = omega (arith, put_weight m (as_term k t).coef p, number_le (size ((as_term k t).coef % 2 ^ k)) t.magnitude (term_alone t))

    insert_weight : (b m : ℕ) (p : Poly) → Reduced k b p → total weight (insert k m (as_term k t).coef p) ≤ added m + total weight p
    unfolding insert total weight
    insert_weight b m [] r = put_alone m []
    insert_weight b m (u ∷ p) r =
        let c : ℕ = (as_term k t).coef in
        by_cond (λ (q : Poly). total weight q ≤ added m + total weight (u ∷ p)) (eqb m u.set)
        (λ e. omega (arith, put_weight m (c + u.coef) p, number_sum (size ((c + u.coef) % 2 ^ k)) t.magnitude (size u.coef) (term_sum t u.coef r.2)))
        (λ e. by_cond (λ (q : Poly). total weight q ≤ added m + total weight (u ∷ p)) (ltb u.set m)
        (λ l. put_alone m (u ∷ p))
        (λ l. omega (arith, insert_weight u.set m p r.3)))

  reduce_weight : (f : Written) → total weight (reduce k (map (as_term k) f)) ≤ total (λ t. suc (suc (term_length t))) f
  unfolding reduce total as_term
  reduce_weight [] = omega arith
  reduce_weight (t ∷ f) =
      let p : Poly = map (as_term k) f in
      let r = reduced_reduce k (bound p) p (below_bound (bound p) p (omega arith)) in
      omega (arith, insert_weight t (bound p) (set_of t.variables) (reduce k p) r, set_length_law t.variables, reduce_weight f)

  pub field_bound : (s : Bytes) (f : Written) → whole_field s ≡ got f [] → length (spell k (reduced k f)) ≤ length s + length f
  unfolding reduced
  field_bound s f e =
      let h = field_length s f e in
      omega (arith, h.0, h.1, spelled_length (reduce k (map (as_term k) f)), reduce_weight f, total_more (λ t. suc (term_length t)) f)
