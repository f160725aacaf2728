-- Derived polynomials: where the inputs are zero, new values for the defined variables make all of them zero. Assumes nothing.
use mathlib.Core.Path.{◌≡◌, refl, sym, ap, ◌∙◌}
use mathlib.Core.List.{List, [], ◌∷◌, ◌++◌}
use Prim.Native.Nat.{ℕ, ◌^◌, ◌<◌}
use native.Mathlib.Omega.{arith}
use lib.Bits.{bit_or}
use Rattle.ground.proofs.Congruence.{Same, same_eq, ◌⊳◌}
use Rattle.algebra.specs.Polynomial.{bit, DifferOnlyAt, Apart, Poly, value, vars, product, extension, all_vars, AllZero, Forced, Derived, none, input, forced, defined}
use Rattle.algebra.proofs.Sets.{AgreeOn, bit_or_law, bit_pow, Changed, change, changed_agree, apart_agree, agree_left, agree_right, has_false}
use Rattle.algebra.proofs.Bit.{value_agree, bit_valued, extension_zero}

module _ (k : ℕ) where
  zero_agree : (a b : ℕ) (ps : List Poly) → AgreeOn (all_vars ps) a b → AllZero k a ps → AllZero k b ps
  unfolding all_vars
  zero_agree a b [] h z = tt
  zero_agree a b (p ∷ ps) h z =
      (sym (value_agree k a b p (agree_left (vars p) (all_vars ps) h)) ∙ z.0, zero_agree a b ps (agree_right (vars p) (all_vars ps) h) z.1)

  pub zero_left : (a : ℕ) (ps qs : List Poly) → AllZero k a (ps ++ qs) → AllZero k a ps
  zero_left a [] qs h = tt
  zero_left a (p ∷ ps) qs h = (h.0, zero_left a ps qs h.1)

  pub zero_right : (a : ℕ) (ps qs : List Poly) → AllZero k a (ps ++ qs) → AllZero k a qs
  zero_right a [] qs h = h
  zero_right a (p ∷ ps) qs h = zero_right a ps qs h.1

  pub zero_both : (a : ℕ) (ps qs : List Poly) → AllZero k a ps → AllZero k a qs → AllZero k a (ps ++ qs)
  zero_both a [] qs h g = g
  zero_both a (p ∷ ps) qs h g = (h.0, zero_both a ps qs h.1 g)

  -- b is a but at es, and makes ps zero
  pub record Zeroed (a es : ℕ) (ps : List Poly) : Type 0 where
    pub now : ℕ
    pub only : DifferOnlyAt es a now
    pub null : AllZero k now ps

  -- the new definition -v + p: v takes the value of p
  zeroed_defined : (a es v : ℕ) (ps : List Poly) (p : Poly) → product k p p ≡ p → bit (bit_or (vars p) (all_vars ps)) v ≡ 0
      → Zeroed a es ps → Zeroed a (bit_or (2 ^ v) es) (extension k v p ∷ ps)
  zeroed_defined a es v ps p sq fresh z = record {
    now = n;
    only = record {
      at = λ w e. z.only.at w (omega (arith, bit_or_law (2 ^ v) es w))
          ∙ sym (c.there w (λ q. omega (arith, bit_or_law (2 ^ v) es w, bit_pow v, ap (λ (x : ℕ). bit (2 ^ v) x) q)));
    };
    null = (
      extension_zero k n v p (same_eq (sym (value_agree k z.now n p (agree_left (vars p) (all_vars ps) ag))) ⊳ d.2 ⊳ same_eq (sym c.here)),
      zero_agree z.now n ps (agree_right (vars p) (all_vars ps) ag) z.null,
    );
  }
    where
      d : (d : ℕ) × (d < 2) × Same (2 ^ k) (value k z.now p) d
      d = bit_valued k z.now p sq

      n : ℕ
      n = (change z.now v d.0 d.1).0

      c : Changed z.now v d.0 n
      c = (change z.now v d.0 d.1).1

      ag : AgreeOn (bit_or (vars p) (all_vars ps)) z.now n
      ag = changed_agree c fresh

  pub derived_zero : {is ps : List Poly} {es : ℕ} → Derived k is es ps → (a : ℕ) → AllZero k a is → Zeroed a es ps
  derived_zero none a h = record { now = a; only = record { at = λ w e. refl }; null = tt }
  derived_zero (input p ap-es d) a h =
      let z = derived_zero d a h.1 in
      record { now = z.now; only = z.only; null = (sym (value_agree k a z.now p (apart_agree ap-es z.only)) ∙ h.0, z.null) }
  derived_zero (forced p f d) a h =
      let z = derived_zero d a h in
      record { now = z.now; only = z.only; null = (f.at z.now z.null, z.null) }
  derived_zero (defined {es} {ps} v p sq fresh d) a h =
      zeroed_defined a es v ps p sq (has_false (bit_or (vars p) (all_vars ps)) v fresh) (derived_zero d a h)

  -- a forced polynomial without defined variables is zero wherever the inputs are
  pub derived_goal : {is ps : List Poly} {es : ℕ} {g : Poly} → Derived k is es ps → Apart es (vars g) → Forced k ps g
      → (a : ℕ) → AllZero k a is → value k a g ≡ 0
  derived_goal {g} d ap-es f a h =
      let z = derived_zero d a h in
      value_agree k a z.now g (apart_agree ap-es z.only) ∙ f.at z.now z.null
