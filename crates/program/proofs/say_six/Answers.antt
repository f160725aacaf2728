-- Where all was written, each number was, behind those before it.
use Rattle.std.proofs.Common.{◌≡◌, true, Bool, arith}
use mathlib.Core.Bool.{◌&&◌}
use Rattle.std.proofs.KnownBytes.{Appends-trans}
use Rattle.program.proofs.say_six.Goals as goal

both : (p q : Bool) → p && q ≡ true → (p ≡ true) × (q ≡ true)
both p q h = (grind arith, grind arith)

pub returns : goal.returns
returns g c h =
    let five = both _ _ h in
    let four = both _ _ five.0 in
    let three = both _ _ four.0 in
    let two = both _ _ three.0 in
    let one = both _ _ two.0 in
    Appends-trans _ _ _ _ _ (c.say_number.ensures one.0) (Appends-trans _ _ _ _ _ (c.say_number-2.ensures one.1) (Appends-trans _ _ _ _ _ (c.say_number-3.ensures two.1)
    (Appends-trans _ _ _ _ _ (c.say_number-4.ensures three.1) (Appends-trans _ _ _ _ _ (c.say_number-5.ensures four.1) (c.say_number-6.ensures five.1)))))
