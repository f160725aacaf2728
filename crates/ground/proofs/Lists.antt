-- Tests along a list, its parts, and a list of zeros. Assumes nothing.
use mathlib.Core.Path.{◌≡◌, refl, sym, ap, ◌∙◌}
use mathlib.Core.Bool.{Bool, true, false, ◌&&◌, and-true}
use mathlib.Core.List.{List, [], ◌∷◌, ◌++◌}
use Prim.Native.Nat.{ℕ, zero, suc, ◌+◌, ◌-◌, ◌≤◌}
use native.Mathlib.Omega.{arith}
use native.Mathlib.Nat.{suc-add}
use lib.ListN.{length, take, drop, replicate, length-replicate}
use lib.Seq.{take-nil, take-take, drop-drop}
use Rattle.ground.specs.Lists.{every}

-- ---- a test of every item
pub every_append : {A : Type 0} (f : A → Bool) (xs ys : List A) → every f (xs ++ ys) ≡ (every f xs && every f ys)
unfolding every
every_append f [] ys = refl
every_append f (x ∷ xs) ys = go (f x) (every_append f xs ys)
  where
    go : (b : Bool) → every f (xs ++ ys) ≡ (every f xs && every f ys) → (b && every f (xs ++ ys)) ≡ ((b && every f xs) && every f ys)
    go true ih = ih
    go false ih = refl

-- one more at the end
pub every_more : {A : Type 0} (f : A → Bool) (xs : List A) (x : A) → every f (xs ++ (x ∷ [])) ≡ (every f xs && f x)
unfolding every
every_more f xs x = every_append f xs (x ∷ []) ∙ ap (λ (b : Bool). every f xs && b) (and-true (f x))

-- ---- parts
-- fewer elements of lists that agree agree
pub take_fewer : (i n : ℕ) (s r : List ℕ) → i ≤ n → take n r ≡ take n s → take i r ≡ take i s
take_fewer i n s r h e = sym (take-take i n r h) ∙ ap (take i) e ∙ take-take i n s h

pub drop_more : (i n : ℕ) (s r : List ℕ) → i ≤ n → drop i r ≡ drop i s → drop n r ≡ drop n s
drop_more i n s r h e = let f : i + (n - i) ≡ n = omega arith in rw (← f, ← drop-drop (n - i) i r, ← drop-drop (n - i) i s, e)

pub drop_take : (k m : ℕ) (a : List ℕ) → drop k (take (k + m) a) ≡ take m (drop k a)
drop_take zero m a = let e : 0 + m ≡ m = omega arith in rw e
drop_take (suc k) m [] = rw (suc-add k m, take-nil m)
drop_take (suc k) m (x ∷ a) = rw (suc-add k m) (drop_take k m a)

-- the length of zeros, for arrays that are too long to be unfolded
pub zeros : (n : ℕ) → n ≡ length {A = ℕ} (replicate n 0)
zeros n = sym (length-replicate n 0)
