-- Equality modulo M goes with sums and products, and can be cancelled. Assumes nothing.
use mathlib.Core.Path.{◌≡◌, refl, sym, ap, ap₂, ◌∙◌}
use Prim.Native.Nat.{ℕ, ◌+◌, ◌-◌, ◌*◌, ◌/◌, ◌%◌, ◌<◌}
use native.Mathlib.Nat.{add-mod, mod-mod, mod-lt, mod-eq_of_lt, mul_assoc, mul_comm, div-add-mod', mul-add-mod_self_right, add-mul}
use native.Mathlib.Omega.{arith}

pub record Same (M x y : ℕ) : Type 0 where
  pub same : x % M ≡ y % M

module _ (M : ℕ) where
  mul_mod_l : (a b : ℕ) → (a * b) % M ≡ (a % M * b) % M
  mul_mod_l a b = ap (λ (x : ℕ). x % M) e ∙ mul-add-mod_self_right (a / M * b) M (a % M * b)
    where
      e : a * b ≡ a / M * b * M + a % M * b
      e = ap (λ (x : ℕ). x * b) (sym (div-add-mod' a M)) ∙ add-mul (a / M * M) (a % M) b
          ∙ ap (λ (x : ℕ). x + a % M * b) (mul_assoc (a / M) M b ∙ ap (λ (x : ℕ). a / M * x) (mul_comm M b) ∙ sym (mul_assoc (a / M) b M))

  mul_mod : (a b : ℕ) → (a * b) % M ≡ ((a % M) * (b % M)) % M
  mul_mod a b = mul_mod_l a b ∙ ap (λ (x : ℕ). x % M) (mul_comm (a % M) b) ∙ mul_mod_l b (a % M) ∙ ap (λ (x : ℕ). x % M) (mul_comm (b % M) (a % M))

module _ {M : ℕ} where
  pub same_refl : {x : ℕ} → Same M x x
  same_refl = record { same = refl }

  pub same_eq : {x y : ℕ} → x ≡ y → Same M x y
  same_eq e = record { same = ap (λ (z : ℕ). z % M) e }

  pub same_sym : {x y : ℕ} → Same M x y → Same M y x
  same_sym h = record { same = sym h.same }

  infixr 30 ◌⊳◌
  pub ◌⊳◌ : {x y z : ℕ} → Same M x y → Same M y z → Same M x z
  h ⊳ k = record { same = h.same ∙ k.same }

  pub same_mod : (x : ℕ) → Same M (x % M) x
  same_mod x = record { same = mod-mod x M }

  pub same_add : {a b c d : ℕ} → Same M a b → Same M c d → Same M (a + c) (b + d)
  same_add {a} {b} {c} {d} h k = record { same = add-mod a c M ∙ ap₂ (λ (x y : ℕ). (x + y) % M) h.same k.same ∙ sym (add-mod b d M) }

  pub same_mul : {a b c d : ℕ} → Same M a b → Same M c d → Same M (a * c) (b * d)
  same_mul {a} {b} {c} {d} h k = record { same = mul_mod M a c ∙ ap₂ (λ (x y : ℕ). (x * y) % M) h.same k.same ∙ sym (mul_mod M b d) }

  -- what makes x up to a multiple of M
  rest : 0 < M → (x c : ℕ) → Same M ((M - x % M) + (x + c)) c
  rest pos x c = record { same = ap (λ (y : ℕ). y % M) e ∙ mul-add-mod_self_right (1 + x / M) M c }
    where
      e : (M - x % M) + (x + c) ≡ (1 + x / M) * M + c
      e = omega (arith, mod-lt x pos, div-add-mod' x M, add-mul 1 (x / M) M)

  pub same_cancel : 0 < M → {x y c d : ℕ} → Same M x y → Same M (x + c) (y + d) → Same M c d
  same_cancel pos {x} {y} {c} {d} h k =
      same_sym (rest pos x c) ⊳ same_add (same_eq (ap (λ (z : ℕ). M - z) h.same)) k ⊳ rest pos y d

  pub same_lt : {x y : ℕ} → x < M → y < M → Same M x y → x ≡ y
  same_lt a b h = sym (mod-eq_of_lt a) ∙ h.same ∙ mod-eq_of_lt b
