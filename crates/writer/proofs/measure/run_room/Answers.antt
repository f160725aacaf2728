use mathlib.Core.Path.{ap, ◌∙◌}
use Prim.Native.Nat.{ℕ}
use native.Mathlib.Omega.{arith}
use lib.ListN.{length}
use Rattle.limits.specs.Limits.{variables}
use Rattle.algebra.specs.Polynomial.{members}
use Rattle.words.specs.Words.{number_of}
use Rattle.writer.proofs.Runs.{room_start, room_more, room_end, room_most}
use Rattle.writer.proofs.Pieces.{members_few}
use Rattle.writer.proofs.measure.run_room.Goals as goal

pub loop-i-init : goal.loop-i-init
loop-i-init c = room_start c.args.n c.args.s.now

pub overflow_mul-sum : goal.overflow_mul-sum
overflow_mul-sum c = record { fits = omega (arith, c.count.ensures, members_few variables 0 (number_of c.set_of.result)) }

pub overflow_add-sum : goal.overflow_add-sum
overflow_add-sum c = record { fits = omega (arith, c.count.ensures, members_few variables 0 (number_of c.set_of.result)) }

pub overflow_add-sum-in-loop-i : goal.overflow_add-sum-in-loop-i
overflow_add-sum-in-loop-i c =
    let a = c.args in
    let l = c.loop-i in
    record {
      fits = omega (
        arith,
        room_more a.n l.i a.s.now c.read_term-t.result c.count.result (omega arith) c.read_term-t.ensures
            (c.count.ensures ∙ ap (λ (m : ℕ). length (members variables 0 m)) c.set_of.ensures),
        room_most a.n a.s.now,
      );
    }

pub loop-i-preserved : goal.loop-i-preserved
loop-i-preserved c =
    let a = c.args in
    let l = c.loop-i in
    omega (
      arith,
      room_more a.n l.i a.s.now c.read_term-t.result c.count.result (omega arith) c.read_term-t.ensures
          (c.count.ensures ∙ ap (λ (m : ℕ). length (members variables 0 m)) c.set_of.ensures),
    )

pub returns : goal.returns
returns c =
    let a = c.args in
    omega (arith, room_end a.n c.loop-i.i a.s.now (omega arith))
