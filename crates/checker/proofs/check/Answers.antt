-- `checker::check` meets its contract: too little room, too long a text, or a run and rooms made zero. No loop. Assumes nothing.
use Rattle.checker.proofs.Checking.{rooms_fit, checked_short, checked_text, checked_run}
use Rattle.checker.proofs.check.Goals as goal

pub returns-then-pool-lt-LEAST_POOL : goal.returns-then-pool-lt-LEAST_POOL
returns-then-pool-lt-LEAST_POOL c = checked_short c.then-pool-lt-LEAST_POOL.either c.unread.ensures

pub returns-then-text-gt-TEXT_BYTES : goal.returns-then-text-gt-TEXT_BYTES
returns-then-text-gt-TEXT_BYTES c = checked_text c.if-pool-lt-LEAST_POOL.false c.if-scratch-lt-LEAST_SCRATCH.false c.if-text-gt-TEXT_BYTES.true c.unread-then-text-gt-TEXT_BYTES.ensures

pub run-a-requires : goal.run-a-requires
run-a-requires c = (c.if-text-gt-TEXT_BYTES.false, rooms_fit c.capacity-room.ensures c.if-scratch-lt-LEAST_SCRATCH.false)

pub returns : goal.returns
returns c =
    checked_run c.if-pool-lt-LEAST_POOL.false c.if-scratch-lt-LEAST_SCRATCH.false c.if-text-gt-TEXT_BYTES.false c.capacity-room.ensures c.run-a.ensures
    c.run-a.auto.pool c.run-a.auto.scratch c.zero.ensures c.zero-2.ensures
