-- Modulo 2 ^ k a number that is its own square is 0 or 1. Assumes nothing.
use mathlib.Core.Path.{◌≡◌, sym, ap, ap₂, ◌∙◌}
use mathlib.Core.Logic.{◌⊎◌, inl, inr, ⊎_elim}
use Prim.Native.Nat.{ℕ, zero, suc, ◌+◌, ◌-◌, ◌*◌, ◌/◌, ◌%◌, ◌^◌, ◌≤◌}
use native.Mathlib.Nat.{zero-mod, add-zero, div-add-mod', pow-suc, mul-mod_left, mul_assoc, mul_comm, mul_left_comm, mul-add, add-mul}
use native.Mathlib.Numerals.{one-add}
use native.Mathlib.Omega.{arith}
use lib.Pow.{pow_pos, mod-mod-pow}
use native.Mathlib.Decide.{le_ind}
use mathlib.Core.Bool.{true, false}
use lib.Dec.{eqb}
use borrow.Author.Tests.{eqb-true, eqb-false}
use Rattle.ground.proofs.Congruence.{Same, same_add, same_cancel, same_refl, same_eq, same_sym, ◌⊳◌}
use Rattle.ground.proofs.Tests.{split}

-- equal modulo 2 ^ suc k, so modulo 2 ^ k
same_down : (k : ℕ) {x y : ℕ} → Same (2 ^ suc k) x y → Same (2 ^ k) x y
same_down k {x} {y} h =
    record { same = sym (down x) ∙ ap (λ (z : ℕ). z % 2 ^ k) h.same ∙ down y }
  where
    down : (z : ℕ) → z % 2 ^ suc k % 2 ^ k ≡ z % 2 ^ k
    down z = rw (← one-add k) (mod-mod-pow z 1 k)

even_square : (k y : ℕ) → y % 2 ≡ 0 → Same (2 ^ k) y 0 → Same (2 ^ suc k) (y * y) 0
even_square k y e h = record { same = rw (pow-suc 2 k) (ap (λ (z : ℕ). z % (2 ^ k * 2)) sq ∙ mul-mod_left _ _ ∙ sym (zero-mod _)) }
  where
    by_pow : y ≡ y / 2 ^ k * 2 ^ k
    by_pow = omega (arith, div-add-mod' y (2 ^ k), h.same, zero-mod (2 ^ k))

    by_two : y ≡ y / 2 * 2
    by_two = omega arith

    sq : y * y ≡ (y / 2 ^ k * (y / 2)) * (2 ^ k * 2)
    sq = ap₂ (λ (u v : ℕ). u * v) by_pow by_two ∙ simp (mul_assoc, mul_comm, mul_left_comm)

-- an even y that is 0 wherever its square is 0
even_zero : (k y : ℕ) → y % 2 ≡ 0 → ((j : ℕ) → j ≤ k → Same (2 ^ j) (y * y) 0 → Same (2 ^ j) y 0) → Same (2 ^ k) y 0
even_zero zero y e h = h 0 (omega arith) (record { same = omega arith })
even_zero (suc k) y e h = h (suc k) (omega arith) (even_square k y e (even_zero k y e (λ j l. h j (omega arith))))

same_low : (k j : ℕ) → j ≤ k → {x y : ℕ} → Same (2 ^ k) x y → Same (2 ^ j) x y
same_low k j l {x} {y} = le_ind (λ (m : ℕ). Same (2 ^ m) x y → Same (2 ^ j) x y) (λ h. h) (λ m l f h. f (same_down m h)) k l

odd_case : (k y : ℕ) → y % 2 ≡ 0 → Same (2 ^ k) ((y + 1) * (y + 1)) (y + 1) → Same (2 ^ k) y 0
odd_case k y e h = even_zero k y e (λ j l z. same_cancel (pow_pos j) z (same_low k j l down))
  where
    down : Same (2 ^ k) (y * y + y) (0 + 0)
    down = same_cancel (pow_pos k) (same_refl {x = y + 1})
        (same_eq (omega (arith, mul-add (y + 1) y 1, add-mul y 1 y)) ⊳ h ⊳ same_eq (sym (add-zero (y + 1))))

pub bit_square : (k x : ℕ) → Same (2 ^ k) (x * x) x → Same (2 ^ k) x 0 ⊎ Same (2 ^ k) x 1
bit_square k x h = ⊎_elim even odd (split (eqb (x % 2) 0))
  where
    even : eqb (x % 2) 0 ≡ true → Same (2 ^ k) x 0 ⊎ Same (2 ^ k) x 1
    even e = inl (even_zero k x (eqb-true _ _ e) (λ j l z. same_sym (same_low k j l h) ⊳ z))

    odd : eqb (x % 2) 0 ≡ false → Same (2 ^ k) x 0 ⊎ Same (2 ^ k) x 1
    odd e =
        let o : x % 2 ≡ 0 → ⊥ = eqb-false (x % 2) 0 e in
        let ex : x ≡ x - 1 + 1 = omega arith in
        inr (same_eq ex ⊳ same_add (odd_case k (x - 1) (omega arith) (rw ex at h)) same_refl)
