-- `triple::in_ring` meets its contract: k is too small, too great, or a ring's. No loop. Assumes nothing.
use mathlib.Core.Path.{sym, ◌∙◌}
use mathlib.Core.Logic.{⊎_elim}
use Rattle.paper.specs.Statement.{modulo, is_ring}
use Rattle.ground.proofs.Tests.{cond_yes, cond_no}
use Rattle.reader.proofs.Numbers.{ring_low, ring_high, ring_inside}
use Rattle.triple.proofs.in_ring.Goals as goal

pub returns-then-k-lt1 : goal.returns-then-k-lt1
returns-then-k-lt1 c = c.unread.ensures ∙ sym (cond_no (is_ring (modulo c.args.k)) _ _ (⊎_elim (ring_low c.args.k) (λ h. ring_high c.args.k h.1) c.then-k-lt1.either))

pub judged-requires : goal.judged-requires
judged-requires c =
    (ring_inside c.args.k c.if-k-lt1.false c.if-k-gt-GREATEST_RING.false, c.requires)

pub returns : goal.returns
returns c =
    c.judged.ensures ∙ sym (cond_yes (is_ring (modulo c.args.k)) _ _ (ring_inside c.args.k c.if-k-lt1.false c.if-k-gt-GREATEST_RING.false))
