-- Laws of refusals' numbers, and of what a result says of the verdict.
use Rattle.std.proofs.Common.{◌≡◌, ℕ, ◌≤◌, eqb, cond, Option, Some, None, Result, Ok, Err, refl, sym, ◌∙◌, ap, lit≤}
use Rattle.limits.specs.Verdicts.{ACCEPTED}
use Rattle.limits.specs.Refusals.{number_of, outcome}
use Rattle.limits.specs.declared.refusal.Refusal.{Refusal}
use Rattle.limits.specs.declared.refusal.Refusal.TheVariants.{Short, LongText, LongLine, Form, Number, Terms, Order, Taken, Missing, Seen, Products, Mismatch, NotBit, Full, NoGoal, NotReached, Names}

-- no refusal accepts
pub refuses : (r : Refusal) → number_of r ≡ ACCEPTED → ⊥
refuses Short h = cc
refuses LongText h = cc
refuses LongLine h = cc
refuses Form h = cc
refuses Number h = cc
refuses Terms h = cc
refuses Order h = cc
refuses Taken h = cc
refuses Missing h = cc
refuses Seen h = cc
refuses Products h = cc
refuses Mismatch h = cc
refuses NotBit h = cc
refuses Full h = cc
refuses NoGoal h = cc
refuses NotReached h = cc
refuses Names h = cc

-- none has a greater number than the last
pub number_below : (r : Refusal) → number_of r ≤ 17
number_below Short = lit≤ tt
number_below LongText = lit≤ tt
number_below LongLine = lit≤ tt
number_below Form = lit≤ tt
number_below Number = lit≤ tt
number_below Terms = lit≤ tt
number_below Order = lit≤ tt
number_below Taken = lit≤ tt
number_below Missing = lit≤ tt
number_below Seen = lit≤ tt
number_below Products = lit≤ tt
number_below Mismatch = lit≤ tt
number_below NotBit = lit≤ tt
number_below Full = lit≤ tt
number_below NoGoal = lit≤ tt
number_below NotReached = lit≤ tt
number_below Names = lit≤ tt

-- ---- a number has one refusal
refusal_of : ℕ → Option Refusal
refusal_of n =
    cond (eqb n 1) (Some Short) (
    cond (eqb n 2) (Some LongText) (
    cond (eqb n 3) (Some LongLine) (
    cond (eqb n 4) (Some Form) (
    cond (eqb n 5) (Some Number) (
    cond (eqb n 6) (Some Terms) (
    cond (eqb n 7) (Some Order) (
    cond (eqb n 8) (Some Taken) (
    cond (eqb n 9) (Some Missing) (
    cond (eqb n 10) (Some Seen) (
    cond (eqb n 11) (Some Products) (
    cond (eqb n 12) (Some Mismatch) (
    cond (eqb n 13) (Some NotBit) (
    cond (eqb n 14) (Some Full) (
    cond (eqb n 15) (Some NoGoal) (
    cond (eqb n 16) (Some NotReached) (
    cond (eqb n 17) (Some Names) (None)))))))))))))))))

named : (r : Refusal) → refusal_of (number_of r) ≡ Some r
unfolding refusal_of
named Short = refl
named LongText = refl
named LongLine = refl
named Form = refl
named Number = refl
named Terms = refl
named Order = refl
named Taken = refl
named Missing = refl
named Seen = refl
named Products = refl
named Mismatch = refl
named NotBit = refl
named Full = refl
named NoGoal = refl
named NotReached = refl
named Names = refl

some_one : {A : Type 0} (x y : A) → Some x ≡ Some y → x ≡ y
some_one x y e = cc

pub one_refusal : (r q : Refusal) → number_of r ≡ number_of q → r ≡ q
one_refusal r q e = some_one r q (sym (named r) ∙ ap refusal_of e ∙ named q)

-- ---- a result is Ok where its verdict accepts, and Err where it does not
pub accepted : {A : Type 0} (r : Result A Refusal) → outcome r ≡ ACCEPTED → (x : A) × (r ≡ Ok x)
accepted (Ok x) h = (x, refl)
accepted (Err r) h = absurd (refuses r h)

pub refused : {A : Type 0} (r : Result A Refusal) → (outcome r ≡ ACCEPTED → ⊥) → (why : Refusal) × (r ≡ Err why)
refused (Ok x) h = absurd (h refl)
refused (Err r) h = (r, refl)
