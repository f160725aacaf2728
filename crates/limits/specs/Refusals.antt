-- Refusals and their numbers, and what a result says of the verdict.
use Rattle.std.specs.Prelude.{ℕ, Result, Ok, Err}
use Rattle.limits.specs.Verdicts.{ACCEPTED, SHORT, LONGTEXT, LONGLINE, FORM, NUMBER, TERMS, ORDER, TAKEN, MISSING, SEEN, PRODUCTS, MISMATCH, NOTBIT, FULL, NOGOAL, NOTREACHED, NAMES}
use Rattle.limits.specs.declared.refusal.Refusal.{Refusal}
use Rattle.limits.specs.declared.refusal.Refusal.TheVariants.{Short, LongText, LongLine, Form, Number, Terms, Order, Taken, Missing, Seen, Products, Mismatch, NotBit, Full, NoGoal, NotReached, Names}

abbrev pub number_of : Refusal → ℕ
number_of Short = SHORT
number_of LongText = LONGTEXT
number_of LongLine = LONGLINE
number_of Form = FORM
number_of Number = NUMBER
number_of Terms = TERMS
number_of Order = ORDER
number_of Taken = TAKEN
number_of Missing = MISSING
number_of Seen = SEEN
number_of Products = PRODUCTS
number_of Mismatch = MISMATCH
number_of NotBit = NOTBIT
number_of Full = FULL
number_of NoGoal = NOGOAL
number_of NotReached = NOTREACHED
number_of Names = NAMES

-- the verdict: ACCEPTED, or the number of the refusal
abbrev pub outcome : {A : Type 0} → Result A Refusal → ℕ
outcome (Ok x) = ACCEPTED
outcome (Err r) = number_of r
