-- `triple::check` meets its contract: too little room, texts that are too long, or their answer and rooms made zero. No loop. Assumes nothing.
use mathlib.Core.Path.{sym, ◌∙◌}
use Rattle.checker.proofs.Checking.{rooms_fit}
use Rattle.triple.proofs.Checking.{texts_short, texts_long, texts_judged}
use Rattle.triple.proofs.check.Goals as goal

pub returns-then-pool-lt-LEAST_POOL : goal.returns-then-pool-lt-LEAST_POOL
returns-then-pool-lt-LEAST_POOL c = texts_short c.then-pool-lt-LEAST_POOL.either c.unread.ensures

pub returns-then-too_long : goal.returns-then-too_long
returns-then-too_long c = texts_long c.if-pool-lt-LEAST_POOL.false c.if-scratch-lt-LEAST_SCRATCH.false (sym c.too_long.ensures ∙ c.if-too_long.true) c.unread-then-too_long.ensures

pub in_ring-a-requires : goal.in_ring-a-requires
in_ring-a-requires c = rooms_fit c.capacity-room.ensures c.if-scratch-lt-LEAST_SCRATCH.false

pub returns : goal.returns
returns c =
    texts_judged c.if-pool-lt-LEAST_POOL.false c.if-scratch-lt-LEAST_SCRATCH.false (sym c.too_long.ensures ∙ c.if-too_long.false) c.capacity-room.ensures c.in_ring-a.ensures
    c.in_ring-a.auto.pool c.in_ring-a.auto.scratch c.zero.ensures c.zero-2.ensures
