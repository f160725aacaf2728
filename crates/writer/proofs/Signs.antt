-- A coefficient with its sign: half of 2 ^ k as a shift gives it, and what is left to 2 ^ k as a word holds it. Assumes nothing.
use mathlib.Core.Path.{◌≡◌, refl, sym, ap, ◌∙◌}
use mathlib.Core.Bool.{Bool, true, false, cond}
use mathlib.Core.List.{◌∷◌}
use Prim.Native.Nat.{ℕ, ◌+◌, ◌-◌, ◌*◌, ◌%◌, ◌^◌, ◌≤◌, ◌<◌}
use Prim.Native.Char.{code}
use native.Mathlib.Nat.{one-mul, mul-mod_left, mod_self, mod-lt}
use native.Mathlib.Omega.{arith}
use lib.Dec.{leb}
use lib.Pow.{pow_pos, pow-add, shl_exact}
use borrow.Author.Tests.{le-leb, lt-leb}
use Rattle.ground.proofs.Congruence.{Same, same_refl, same_eq, same_mod, same_cancel, same_lt, ◌⊳◌}
use Rattle.ground.proofs.Tests.{cond_yes, cond_no}
use Rattle.words.proofs.Wrap.{same_cut}
use Rattle.paper.specs.Spelling.{spell_number, spell_coefficient}
use Rattle.writer.specs.Writing.{signed_of, spell_signed}
use Rattle.writer.specs.declared.sign.Signed.{Signed}

module _ (k c : ℕ) (some : 1 ≤ k) (fits : k ≤ 64) where
  half : (1 * 2 ^ (k - 1)) % 2 ^ 64 ≡ 2 ^ (k - 1)
  half = shl_exact {a = 1} 1 (k - 1) 64 (omega arith) (omega arith) ∙ one-mul (2 ^ (k - 1))

  pub sign_plus : c ≤ (1 * 2 ^ (k - 1)) % 2 ^ 64 → record { minus = false; magnitude = c } ≡ signed_of k c
  unfolding signed_of
  sign_plus h = rw (le-leb c (2 ^ (k - 1)) (rw half at h))

  -- the multiples of 2 ^ k are 0 modulo 2 ^ k
  all : Same (2 ^ k) (2 ^ 64) (2 ^ k)
  all =
      let e : 64 - k + k ≡ 64 = omega arith in
      let p : 2 ^ 64 ≡ 2 ^ (64 - k) * 2 ^ k = ap (λ (n : ℕ). 2 ^ n) (sym e) ∙ pow-add 2 (64 - k) k in
      record { same = ap (λ (x : ℕ). x % 2 ^ k) p ∙ mul-mod_left (2 ^ (64 - k)) (2 ^ k) ∙ sym (mod_self (2 ^ k)) }

  module _ (m n : ℕ) (inside : c < 2 ^ k) (em : m ≡ (2 ^ 64 - c) % 2 ^ 64) (en : n ≡ m % 2 ^ k) where
    left : 0 < c → c < 2 ^ 64 → n ≡ 2 ^ k - c
    left h w =
        same_lt (rw en (mod-lt m (pow_pos k))) (omega arith)
        (same_eq en ⊳ same_mod m ⊳ same_eq em ⊳ same_cut k fits (same_mod (2 ^ 64 - c))
        ⊳ same_cancel (pow_pos k) {x = c} {y = c} same_refl (same_eq (let e : c + (2 ^ 64 - c) ≡ 2 ^ 64 = omega arith in e) ⊳ all ⊳ same_eq (let e : 2 ^ k ≡ c + (2 ^ k - c) = omega arith in e)))

    pub sign_minus : (1 * 2 ^ (k - 1)) % 2 ^ 64 < c → c < 2 ^ 64 → record { minus = true; magnitude = n } ≡ signed_of k c
    unfolding signed_of
    sign_minus h w =
        let g : 2 ^ (k - 1) < c = rw half at h in
        rw (lt-leb c (2 ^ (k - 1)) g, left (omega arith) w)

-- its spelling is the coefficient's
spelled : (k c : ℕ) → spell_signed (signed_of k c) ≡ spell_coefficient k c
unfolding signed_of spell_coefficient
spelled k c = go (leb c (2 ^ (k - 1)))
  where
    go : (b : Bool) → spell_signed (cond b (record { minus = false; magnitude = c }) (record { minus = true; magnitude = 2 ^ k - c })) ≡ cond b (spell_number c) (code "-" ∷ spell_number (2 ^ k - c))
    go true = refl
    go false = refl

-- by the sign of s
module _ (k c : ℕ) (s : Signed) (e : s ≡ signed_of k c) where
  pub signed_minus : s.minus ≡ true → code "-" ∷ spell_number s.magnitude ≡ spell_coefficient k c
  signed_minus b = sym (cond_yes s.minus (code "-" ∷ spell_number s.magnitude) (spell_number s.magnitude) b) ∙ ap spell_signed e ∙ spelled k c

  pub signed_plus : s.minus ≡ false → spell_number s.magnitude ≡ spell_coefficient k c
  signed_plus b = sym (cond_no s.minus (code "-" ∷ spell_number s.magnitude) (spell_number s.magnitude) b) ∙ ap spell_signed e ∙ spelled k c
