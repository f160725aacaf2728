-- A text whose statements all stand and reach the goal: its inputs force its goal, and definitions can be met. Assumes nothing.
use mathlib.Core.Path.{◌≡◌, refl, sym, ap, ◌∙◌}
use mathlib.Core.Bool.{true, cond}
use mathlib.Core.List.{List, [], ◌∷◌}
use Prim.Native.Nat.{ℕ}
use native.Mathlib.Omega.{arith}
use lib.Bits.{or_zero_l}
use lib.Dec.{eqb}
use Rattle.ground.specs.Lists.{gather}
use Rattle.algebra.specs.Polynomial.{value, vars, all_vars, AllZero, none}
use Rattle.algebra.proofs.Sets.{bit_of_zero}
use Rattle.algebra.proofs.Bit.{value_none}
use Rattle.algebra.proofs.Derivation.{Zeroed, derived_zero, derived_goal}
use Rattle.paper.specs.Statement.{modulo, Statement, ring, forgets, fields}
use Rattle.paper.specs.Rules.{steps, State, start, without, entries, shows_all, makes_seen, after}
use Rattle.paper.specs.Answer.{ring_in, defined_in, inputs_in, goal_in, introduced_in}
use Rattle.paper.proofs.Course.{Steps, Opened, nothing, opening}
use Rattle.paper.proofs.Sound.{Good, Final, final}

-- the inputs of sts force its goal, and its definitions can be met, at the ring k
pub record SoundAt (k : ℕ) (sts : List Statement) : Type 0 where
  pub goal_zero : (a : ℕ) → AllZero k a (inputs_in k sts) → value k a (goal_in k sts) ≡ 0
  pub all_zero : (a : ℕ) → AllZero k a (inputs_in k sts) → Zeroed k a (defined_in sts) (introduced_in k sts)

good_ring : (k : ℕ) → Good k (after start (ring (modulo k))) [] 0 []
unfolding after start without forgets entries makes_seen shows_all fields all_vars vars
good_ring k = record {
  ringed = refl;
  begun = omega arith;
  derived = none;
  kept = λ b z. tt;
  witnessed = λ v. omega (arith, bit_of_zero v);
  early = λ e. refl;
  aimed = λ v. omega (arith, bit_of_zero v);
  apart = record { at = λ v e. bit_of_zero v };
  hit = λ e. record { at = λ b z. value_none k b };
}

sound_final : (k : ℕ) (sts : List Statement) (e : State) → Final k (after start (ring (modulo k))) sts [] 0 [] e → e.phase ≡ steps → e.reached ≡ true → SoundAt k sts
unfolding after entries
sound_final k sts e f ph re = record {
  goal_zero = λ a z. ap (value k a) (sym aim) ∙ derived_goal k f.good.derived f.good.apart (f.good.hit re) a (f.given a tt z);
  all_zero = λ a z.
      let d = derived_zero k f.good.derived a (f.given a tt z) in
      record { now = d.now; only = record { at = λ w n. d.only.at w (f.only w (bit_of_zero w) n) }; null = f.new d.now d.null };
}
  where
    aim : e.goal ≡ goal_in k sts
    aim = sym (ap (λ (x : ℕ). cond (eqb x steps) e.goal (goal_in k [])) ph) ∙ f.aim

-- what goes on behind a ring line
pub sound_behind : (capacity k : ℕ) {e : State} {sts : List Statement} → Steps capacity (after start (ring (modulo k))) sts e → e.phase ≡ steps → e.reached ≡ true → SoundAt k sts
sound_behind capacity k {e} {sts} r ph re = sound_final k sts e (final k capacity r [] 0 [] (good_ring k)) ph re

-- the line itself says nothing of inputs, goal and definitions
with_ring_law : (k : ℕ) (sts : List Statement) → SoundAt k sts → SoundAt k (ring (modulo k) ∷ sts)
unfolding inputs_in goal_in introduced_in defined_in gather entries
with_ring_law k sts s = record {
  goal_zero = s.goal_zero;
  all_zero = λ a z. rw (or_zero_l (defined_in sts)) (s.all_zero a z);
}

pub sound_steps : (capacity : ℕ) {e : State} {sts : List Statement} → Opened capacity sts e → e.phase ≡ steps → e.reached ≡ true → SoundAt (ring_in sts) sts
unfolding start ring_in
sound_steps capacity nothing ph re = absurd (omega arith)
sound_steps capacity (opening {sts} {e} k r) ph re = with_ring_law k sts (sound_behind capacity k r ph re)
