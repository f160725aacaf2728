-- `words::search::among` meets its contract: one place more with each of the eight tests. No loop.
-- Assumes nothing.
use mathlib.Core.Bool.{false}
use Prim.Native.Nat.{◌+◌}
use native.Mathlib.Omega.{arith}
use Rattle.words.proofs.Found.{none_yet, one_more}
use Rattle.words.proofs.search.among.Goals as goal

pub returns : goal.returns
returns g c =
    let a = c.args in
    let i = a.i in
    let next = one_more g.T.PartialEq.eq a.s.now a.x i in
    next (i + 7) (i + 8) _ _ _ (omega arith) (omega arith) (omega arith) c.index-s-i-8.is c.eq-8.ensures
    (next (i + 6) (i + 7) _ _ _ (omega arith) (omega arith) (omega arith) c.index-s-i-7.is c.eq-7.ensures
    (next (i + 5) (i + 6) _ _ _ (omega arith) (omega arith) (omega arith) c.index-s-i-6.is c.eq-6.ensures
    (next (i + 4) (i + 5) _ _ _ (omega arith) (omega arith) (omega arith) c.index-s-i-5.is c.eq-5.ensures
    (next (i + 3) (i + 4) _ _ _ (omega arith) (omega arith) (omega arith) c.index-s-i-4.is c.eq-4.ensures
    (next (i + 2) (i + 3) _ _ _ (omega arith) (omega arith) (omega arith) c.index-s-i-3.is c.eq-3.ensures
    (next (i + 1) (i + 2) _ _ _ (omega arith) (omega arith) (omega arith) c.index-s-i-2.is c.eq-2.ensures
    (next i (i + 1) false _ _ (omega arith) (omega arith) (omega arith) c.index-s-i.is c.eq.ensures (none_yet g.T.PartialEq.eq a.s.now a.x i))))))))
