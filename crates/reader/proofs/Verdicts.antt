-- Verdicts on two parts by those on each. Assumes nothing.
use mathlib.Core.Path.{◌≡◌, refl, sym, ap₂, ◌∙◌}
use mathlib.Core.Bool.{Bool, true, false, ◌&&◌, not, cond}
use Prim.Native.Nat.{ℕ}
use native.Mathlib.Omega.{arith}
use lib.Dec.{eqb}
use borrow.Author.Tests.{eqb-true, eqb-false, eq-eqb, ne_eqb}
use Rattle.ground.proofs.Tests.{cond_yes, cond_no}
use Rattle.limits.specs.Verdicts.{ACCEPTED, NUMBER}
use Rattle.paper.specs.Rules.{first}
use Rattle.reader.specs.Verdicts.{verdict_of, lesser_of}

pub not_not : (b : Bool) → b ≡ not (not b)
not_not true = refl
not_not false = refl

pub crossed : (a b x y : Bool) → ((a && b) && (x && y)) ≡ ((a && x) && (b && y))
crossed true true x y = refl
crossed true false true y = refl
crossed true false false y = refl
crossed false b x y = refl

-- of two parts
pub verdict_both : (a b x y : Bool) → verdict_of (a && b) (x && y) ≡ lesser_of (verdict_of a x) (verdict_of b y)
unfolding first lesser_of
verdict_both true b true y = refl
verdict_both true true false true = refl
verdict_both true true false false = refl
verdict_both true false false y = refl
verdict_both false true x true = refl
verdict_both false true x false = refl
verdict_both false false x y = refl

pub verdict_two : {why v w : ℕ} (a b x y : Bool) → why ≡ lesser_of v w → v ≡ verdict_of a x → w ≡ verdict_of b y → why ≡ verdict_of (a && b) (x && y)
verdict_two a b x y e f g = e ∙ ap₂ lesser_of f g ∙ sym (verdict_both a b x y)

pub verdict_accepted : (a b : Bool) → verdict_of a b ≡ ACCEPTED → a ≡ true
unfolding first
verdict_accepted true b e = refl
verdict_accepted false b e = absurd (let z : ⊥ = omega arith in z)

pub verdict_few : (a b : Bool) → verdict_of a b ≡ ACCEPTED → b ≡ true
unfolding first
verdict_few true true e = refl
verdict_few true false e = absurd (let z : ⊥ = omega arith in z)
verdict_few false b e = absurd (let z : ⊥ = omega arith in z)

-- a number by itself
pub verdict_number : (a : Bool) → cond a ACCEPTED NUMBER ≡ verdict_of a true
unfolding first
verdict_number true = refl
verdict_number false = refl

pub lesser_accepted : (v w : ℕ) → lesser_of v w ≡ ACCEPTED → (v ≡ ACCEPTED) × (w ≡ ACCEPTED)
unfolding lesser_of
lesser_accepted v w e = go (eqb v ACCEPTED) (eqb w NUMBER) refl refl e
  where
    go : (a b : Bool) → eqb v ACCEPTED ≡ a → eqb w NUMBER ≡ b → cond a w (cond b w v) ≡ ACCEPTED → (v ≡ ACCEPTED) × (w ≡ ACCEPTED)
    go true b p q e = (eqb-true v ACCEPTED p, e)
    go false true p q e = absurd (let z : ⊥ = omega (arith, eqb-true w NUMBER q) in z)
    go false false p q e = absurd (eqb-false v ACCEPTED p e)

-- the lesser, by cases
module _ (a b : ℕ) where
  pub lesser_none : a ≡ ACCEPTED → b ≡ lesser_of a b
  unfolding lesser_of
  lesser_none e = sym (cond_yes (eqb a ACCEPTED) b (cond (eqb b NUMBER) b a) (eq-eqb a ACCEPTED e))

  module _ (f : a ≡ ACCEPTED → ⊥) where
    pub lesser_number : b ≡ NUMBER → b ≡ lesser_of a b
    unfolding lesser_of
    lesser_number e = sym (cond_no (eqb a ACCEPTED) b (cond (eqb b NUMBER) b a) (ne_eqb a ACCEPTED f) ∙ cond_yes (eqb b NUMBER) b a (eq-eqb b NUMBER e))

    pub lesser_first : (b ≡ NUMBER → ⊥) → a ≡ lesser_of a b
    unfolding lesser_of
    lesser_first g = sym (cond_no (eqb a ACCEPTED) b (cond (eqb b NUMBER) b a) (ne_eqb a ACCEPTED f) ∙ cond_no (eqb b NUMBER) b a (ne_eqb b NUMBER g))
