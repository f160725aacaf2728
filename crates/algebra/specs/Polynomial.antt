-- Polynomials over bits, with coefficients modulo 2 ^ k, and what follows from them.
use mathlib.Core.{Path.◌≡◌, Bool.Bool, Bool.true, Bool.false, Bool.◌&&◌, Bool.cond, List.List, List.[], List.◌∷◌, List.◌++◌}
use Rattle.std.specs.Prelude.{ℕ, zero, suc, ◌+◌, ◌-◌, ◌*◌, ◌/◌, ◌%◌, ◌^◌, ◌<◌}
use lib.{Bits.bit_and, Bits.bit_or, Dec.eqb, Dec.ltb}

-- ---- a set of variables is a number in which variable v weighs 2 ^ v, and `bit_or` unites; an assignment is the set of the variables that are 1
unfoldable pub bit : ℕ → ℕ → ℕ
bit m v = m / 2 ^ v % 2

unfoldable pub has : ℕ → ℕ → Bool
has m v = eqb (bit m v) 1

-- the variables of m, ascending: of m's first n digits, the first of which is variable v
unfoldable pub members : ℕ → ℕ → ℕ → List ℕ
members zero v m = []
members (suc n) v m = let rest : List ℕ = members n (suc v) (m / 2) in cond (eqb (m % 2) 1) (v ∷ rest) rest

-- every variable of m is 1 at the assignment a
unfoldable pub holds : ℕ → ℕ → Bool
holds m a = eqb (bit_and m a) m

-- a and b differ at variables of m only
pub record DifferOnlyAt (m a b : ℕ) : Type 0 where
  pub at : (v : ℕ) → bit m v ≡ 0 → bit a v ≡ bit b v

-- no variable stands in both
pub record Apart (m n : ℕ) : Type 0 where
  pub at : (v : ℕ) → bit m v ≡ 1 → bit n v ≡ 0

-- ---- a term is a coefficient and a set; x * x is x, so a product of terms unites their sets
pub record Term : Type 0 where
  pub set : ℕ
  pub coef : ℕ

abbrev pub Poly : Type 0
Poly = List Term

-- the coefficients of the terms whose sets pass a test, added; and of those whose set is n
abbrev pub sum_if : (ℕ → Bool) → Poly → ℕ
sum_if f [] = 0
sum_if f (t ∷ p) = cond (f t.set) t.coef 0 + sum_if f p

unfoldable pub coef_of : ℕ → Poly → ℕ
coef_of n p = sum_if (λ m. eqb m n) p

-- each term of the one times each of the other
unfoldable pub times : Term → Poly → Poly
times t [] = []
times t (u ∷ q) = record { set = bit_or t.set u.set; coef = t.coef * u.coef } ∷ times t q

unfoldable pub products : Poly → Poly → Poly
products [] q = []
products (t ∷ p) q = times t q ++ products p q

-- every variable that stands in p, or in one of ps
unfoldable pub vars : Poly → ℕ
vars [] = 0
vars (t ∷ p) = bit_or t.set (vars p)

unfoldable pub all_vars : List Poly → ℕ
all_vars [] = 0
all_vars (p ∷ ps) = bit_or (vars p) (all_vars ps)

-- the same terms in the same order
unfoldable pub equal : Poly → Poly → Bool
equal [] [] = true
equal [] (t ∷ q) = false
equal (s ∷ p) [] = false
equal (s ∷ p) (t ∷ q) = eqb s.set t.set && eqb s.coef t.coef && equal p q

-- every set below b
abbrev pub Below : ℕ → Poly → Type 0
Below b [] = Unit {0}
Below b (t ∷ p) = (t.set < b) × Below b p

module _ (k : ℕ) where
  -- at the assignment a, where a term is its coefficient if all its variables are 1, else 0
  unfoldable pub value : ℕ → Poly → ℕ
  value a p = sum_if (λ m. holds m a) p % 2 ^ k

  -- the term of set m and coefficient c before p, unless it is zero
  unfoldable pub put : ℕ → ℕ → Poly → Poly
  put m c p = cond (eqb (c % 2 ^ k) 0) p (record { set = m; coef = c % 2 ^ k } ∷ p)

  -- the term added at its place in the order: larger sets first
  unfoldable pub insert : ℕ → ℕ → Poly → Poly
  insert m c [] = put m c []
  insert m c (t ∷ p) = cond (eqb m t.set) (put m (c + t.coef) p) (cond (ltb t.set m) (put m c (t ∷ p)) (t ∷ insert m c p))

  -- the reduced form
  unfoldable pub reduce : Poly → Poly
  reduce [] = []
  reduce (t ∷ p) = insert t.set t.coef (reduce p)

  unfoldable pub product : Poly → Poly → Poly
  product p q = reduce (products p q)

  -- -v + p; the coefficient -1 is 2 ^ k - 1
  unfoldable pub extension : ℕ → Poly → Poly
  extension v p = reduce (record { set = 2 ^ v; coef = 2 ^ k - 1 } ∷ p)

  -- in reduced form: coefficients 1 to 2 ^ k - 1, and each set below the one before it, the first below b
  abbrev pub Reduced : ℕ → Poly → Type 0
  Reduced b [] = Unit {0}
  Reduced b (t ∷ p) = (t.set < b) × (0 < t.coef) × (t.coef < 2 ^ k) × Reduced t.set p

  -- ---- what follows from inputs: polynomials forced by earlier ones, and definitions of fresh variables
  abbrev pub AllZero : ℕ → List Poly → Type 0
  AllZero a [] = Unit {0}
  AllZero a (p ∷ ps) = (value a p ≡ 0) × AllZero a ps

  -- zero wherever all of ps are
  pub record Forced (ps : List Poly) (p : Poly) : Type 0 where
    pub at : (a : ℕ) → AllZero a ps → value a p ≡ 0

  -- Derived inputs es ps: from the inputs, with definitions for the variables es, the polynomials ps
  pub data Derived : List Poly → ℕ → List Poly → Type 0 where
    none : Derived [] 0 []
    input : {is : List Poly} {es : ℕ} {ps : List Poly} (p : Poly) → Apart es (vars p) → Derived is es ps → Derived (p ∷ is) es (p ∷ ps)
    forced : {is : List Poly} {es : ℕ} {ps : List Poly} (p : Poly) → Forced ps p → Derived is es ps → Derived is es (p ∷ ps)
    defined : {is : List Poly} {es : ℕ} {ps : List Poly} (v : ℕ) (p : Poly) → product p p ≡ p
        → has (bit_or (vars p) (all_vars ps)) v ≡ false → Derived is es ps → Derived is (bit_or (2 ^ v) es) (extension v p ∷ ps)
