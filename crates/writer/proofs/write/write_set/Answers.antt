use Prim.Native.Nat.{◌+◌, ◌*◌}
use native.Mathlib.Omega.{arith}
use borrow.Author.Rules.{rules}
use lib.ListN.{get_or}
use Rattle.limits.specs.Limits.{variables}
use Rattle.ground.specs.Lists.{gather}
use Rattle.algebra.specs.Polynomial.{members}
use Rattle.words.specs.Words.{number_of}
use Rattle.writer.specs.Writing.{dotted}
use Rattle.writer.proofs.Written.{left_start, left_as, left_more, left_room, left_end}
use Rattle.writer.proofs.Pieces.{set_rest, set_start, set_more, set_end}
use Rattle.writer.proofs.write.write_set.Goals as goal

pub loop-i-init : goal.loop-i-init
loop-i-init c =
    let a = c.args in
    left_as (set_start a.a (search rules)) (left_start a.out.now a.at (gather dotted (members variables 0 (number_of a.a))))

pub write_word-end-requires : goal.write_word-end-requires
write_word-end-requires c =
    let a = c.args in
    let l = c.loop-i in
    (omega arith, left_room (gather dotted (members 64 (64 * l.i) (get_or a.a l.i 0))) (set_rest a.a (l.i + 1)) (omega arith) (set_more a.a l.i (λ i. search rules) (search rules)) l.invariant)

pub loop-i-preserved : goal.loop-i-preserved
loop-i-preserved c =
    let a = c.args in
    let l = c.loop-i in
    left_more (omega arith) (set_more a.a l.i (λ i. search rules) (search rules)) l.invariant c.write_word-end.ensures

pub returns : goal.returns
returns c =
    let l = c.loop-i in
    left_end (set_end c.args.a l.i (search rules)) l.invariant

pub shape_of-out : goal.shape_of-out
shape_of-out c = c.loop-i.invariant.same
