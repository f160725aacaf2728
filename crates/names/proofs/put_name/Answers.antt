use Prim.Native.Nat.{◌+◌, ◌*◌}
use native.Mathlib.Omega.{arith}
use mathlib.Core.Path.{◌≡◌, refl, sym, ap, subst, ◌∙◌}
use borrow.Author.Rules.{rules}
use lib.ListN.{length, set, length-set}
use lib.Seq.{paste, paste-zero}
use Rattle.words.proofs.Parts.{paste_more}
use Rattle.names.specs.Names.{slot_bytes, HeldBehind}
use Rattle.names.proofs.Rooms.{put_all}
use Rattle.names.proofs.put_name.Goals as goal

pub loop-i-init : goal.loop-i-init
loop-i-init c =
    let a = c.args in
    (refl, paste-zero (set a.room.now (a.n * slot_bytes) (length a.s.now)) (a.n * slot_bytes + 1) a.s.now)

pub loop-i-preserved : goal.loop-i-preserved
loop-i-preserved c =
    let a = c.args in
    let m = set a.room.now (a.n * slot_bytes) (length a.s.now) in
    let s = length-set a.room.now (a.n * slot_bytes) (length a.s.now) in
    (search rules, rw c.loop-i.invariant.1 (paste_more m (a.n * slot_bytes + 1) a.s.now c.loop-i.i (omega arith) (omega arith)))

pub returns : goal.returns
returns c =
    let a = c.args in
    let e : c.loop-i.i ≡ length a.s.now = omega arith in
    let m = set a.room.now (a.n * slot_bytes) (length a.s.now) in
    subst (HeldBehind a.n a.s.now a.room.now) (sym (c.loop-i.invariant.1 ∙ ap (paste m (a.n * slot_bytes + 1) a.s.now) e))
    (put_all a.n a.room.now a.s.now (omega arith) (omega arith) (omega arith))
