-- What a spelling means: the polynomial that it came from. Assumes nothing.
use mathlib.Core.Path.{◌≡◌, sym, ap, ◌∙◌, subst}
use mathlib.Core.Bool.{Bool, true, false, not, cond}
use mathlib.Core.List.{List, [], ◌∷◌, map}
use Prim.Native.Nat.{ℕ, zero, suc, ◌+◌, ◌-◌, ◌*◌, ◌/◌, ◌%◌, ◌^◌, ◌≤◌, ◌<◌}
use native.Mathlib.Nat.{pow-suc, mul_assoc, mul_comm, mul-one, zero-mul, add-mul, mul-mod_left, mod_self, le_refl, le_of_lt, lt_of_lt_of_le}
use native.Mathlib.Omega.{arith}
use lib.Bits.{bit_or, or_lt, or_shifted_r}
use lib.Dec.{eqb, leb}
use lib.Pow.{pow_pos, pow-lt}
use borrow.Author.Tests.{eqb-true, eqb-false, ltb-true}
use Rattle.ground.proofs.Congruence.{Same, same_refl, same_eq, same_add, same_cancel, same_sym, ◌⊳◌}
use Rattle.ground.specs.Lists.{every}
use Rattle.ground.proofs.Tests.{by_cond, and_left, and_right}
use Rattle.limits.specs.Limits.{variables}
use Rattle.algebra.specs.Polynomial.{members, Term, Poly, sum_if, coef_of, Below, Reduced}
use Rattle.algebra.proofs.Values.{keep, keep_same}
use Rattle.algebra.proofs.Reduced.{is_reduce}
use Rattle.paper.specs.Statement.{Written, is_variable, is_term, in_range, set_of, as_term, reduced}
use Rattle.paper.proofs.Ranges.{term_in_range}
use Rattle.paper.proofs.ReadBack.{written_term}

-- ---- sets
set_of_members : (n v m : ℕ) → m < 2 ^ n → set_of (members n v m) ≡ m * 2 ^ v
unfolding set_of members
set_of_members zero v m h = let z : m ≡ 0 = omega arith in rw z (sym (zero-mul (2 ^ v)))
set_of_members (suc n) v m h =
    let p : 2 ^ suc n ≡ 2 ^ n * 2 = pow-suc 2 n in
    let q : 2 ^ suc v ≡ 2 ^ v * 2 = pow-suc 2 v in
    let ih : set_of (members n (suc v) (m / 2)) ≡ m / 2 * 2 ^ suc v = set_of_members n (suc v) (m / 2) (omega arith) in
    let w : m / 2 * 2 ^ suc v ≡ m / 2 * 2 * 2 ^ v = ap (λ (x : ℕ). m / 2 * x) (q ∙ mul_comm (2 ^ v) 2) ∙ sym (mul_assoc (m / 2) 2 (2 ^ v)) in
    by_cond (λ (l : List ℕ). set_of l ≡ m * 2 ^ v) (eqb (m % 2) 1)
    (λ e. let o : m ≡ m / 2 * 2 + 1 = omega (arith, eqb-true (m % 2) 1 e) in
    ap (bit_or (2 ^ v)) ih ∙ or_shifted_r (m / 2) (suc v) (2 ^ v) (omega (arith, pow_pos v))
    ∙ omega (arith, w, add-mul (m / 2 * 2) 1 (2 ^ v), ap (λ (x : ℕ). x * 2 ^ v) o))
    (λ e. let o : m ≡ m / 2 * 2 = omega (arith, eqb-false (m % 2) 1 e) in ih ∙ w ∙ ap (λ (x : ℕ). x * 2 ^ v) (sym o))

set_back : (m : ℕ) → m < 2 ^ variables → set_of (members variables 0 m) ≡ m
set_back m h = set_of_members variables 0 m h ∙ mul-one m

-- the sets of a field in range
set_lt : (vs : List ℕ) → every is_variable vs ≡ true → set_of vs < 2 ^ variables
unfolding every is_variable set_of
set_lt [] e = pow_pos variables
set_lt (v ∷ vs) e =
    or_lt variables (2 ^ v) (set_of vs) (pow-lt (ltb-true v variables (and_left (is_variable v) (every is_variable vs) e)))
    (set_lt vs (and_right (is_variable v) (every is_variable vs) e))

pub field_below : (k : ℕ) (p : Written) → in_range p ≡ true → Below (2 ^ variables) (map (as_term k) p)
unfolding in_range every as_term
field_below k [] e = tt
field_below k (t ∷ p) e =
    (set_lt t.variables (term_in_range t (and_left (is_term t) (every is_term p) e)).named, field_below k p (and_right (is_term t) (every is_term p) e))

-- ---- coefficients
module _ (k : ℕ) where
  -- minus what c lacks is c
  minus_back : (c : ℕ) → c < 2 ^ k → Same (2 ^ k) ((2 ^ k - 1) * (2 ^ k - c)) c
  minus_back c h =
      same_cancel (pow_pos k) {x = 2 ^ k - c} {y = 2 ^ k - c} same_refl
      (same_eq (once ∙ mul_comm (2 ^ k) (2 ^ k - c)) ⊳ record { same = mul-mod_left (2 ^ k - c) (2 ^ k) ∙ sym (mod_self (2 ^ k)) } ⊳ same_eq (let e : 2 ^ k ≡ 2 ^ k - c + c = omega arith in e))
    where
      once : 2 ^ k - c + (2 ^ k - 1) * (2 ^ k - c) ≡ 2 ^ k * (2 ^ k - c)
      once = omega (arith, add-mul 1 (2 ^ k - 1) (2 ^ k - c), ap (λ (x : ℕ). x * (2 ^ k - c)) (let e : 1 + (2 ^ k - 1) ≡ 2 ^ k = omega (arith, pow_pos k) in e))

  coefficient_back : (c : ℕ) → c < 2 ^ k → (b : Bool) → Same (2 ^ k) (cond (not b) ((2 ^ k - 1) * cond b c (2 ^ k - c)) (cond b c (2 ^ k - c))) c
  coefficient_back c h true = same_refl
  coefficient_back c h false = minus_back c h

  -- ---- polynomials
  term_below : (t : Term) → t.set < 2 ^ variables → (as_term k (written_term k t)).set ≡ t.set
  unfolding as_term written_term
  term_below t h = set_back t.set h

  keep_back : {m n c d : ℕ} → m ≡ n → Same (2 ^ k) c d → (f : ℕ → Bool) → Same (2 ^ k) (keep (f m) c) (keep (f n) d)
  keep_back {m = m} {c = c} {d = d} e h f = subst (λ (x : ℕ). Same (2 ^ k) (keep (f m) c) (keep (f x) d)) e (keep_same (f m) h)

  written_below : (b : ℕ) (p : Poly) → b ≤ 2 ^ variables → Reduced k b p → Below (2 ^ variables) (map (as_term k) (map (written_term k) p))
  written_below b [] l r = tt
  written_below b (t ∷ p) l r =
      let s : t.set < 2 ^ variables = lt_of_lt_of_le r.0 l in
      (subst (λ (m : ℕ). m < 2 ^ variables) (sym (term_below t s)) s, written_below t.set p (le_of_lt s) r.3)

  sums_back : (b : ℕ) (p : Poly) → b ≤ 2 ^ variables → Reduced k b p → (f : ℕ → Bool) → Same (2 ^ k) (sum_if f (map (as_term k) (map (written_term k) p))) (sum_if f p)
  unfolding as_term written_term
  sums_back b [] l r f = same_refl
  sums_back b (t ∷ p) l r f =
      let s : t.set < 2 ^ variables = lt_of_lt_of_le r.0 l in
      same_add (keep_back (set_back t.set s) (coefficient_back t.coef r.2 (leb t.coef (2 ^ (k - 1)))) f) (sums_back t.set p (le_of_lt s) r.3 f)

  pub meaning_back : (p : Poly) → Reduced k (2 ^ variables) p → reduced k (map (written_term k) p) ≡ p
  unfolding reduced coef_of
  meaning_back p r =
      sym (is_reduce k (2 ^ variables) (map (as_term k) (map (written_term k) p)) p (written_below (2 ^ variables) p (le_refl (2 ^ variables)) r) r
      (λ n l. same_sym (sums_back (2 ^ variables) p (le_refl (2 ^ variables)) r (λ m. eqb m n))))
