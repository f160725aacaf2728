-- What was checked is what was answered. Assumes nothing.
use mathlib.Core.Path.{◌≡◌, ap, ◌∙◌}
use mathlib.Core.List.{List}
use Prim.Native.Nat.{ℕ}
use lib.ListN.{length}
use Rattle.checker.specs.declared.answer.Answer.{Answer}
use Rattle.checker.specs.Checked.{numbers_of, Checked}
use Rattle.paper.specs.Grammar.{Bytes}
use Rattle.paper.specs.Answer as paper
use Rattle.lpac_rooms.specs.Rooms.{in_turn, Answered}

pub answered : (text : Bytes) (pool scratch pool' scratch' : List ℕ) (r : Answer) → Checked text pool scratch r pool' scratch'
    → Answered text pool scratch pool' scratch' (numbers_of r)
answered text pool scratch pool' scratch' r k =
    let v : r.verdict ≡ (paper.answer text (length pool) (length scratch)).verdict = ap (λ (a : paper.Answer). a.verdict) k.answer in
    record {
      answers = ap in_turn k.answer;
      pool_after = k.pool_after ∙ ap (λ (v : ℕ). paper.room_after v pool) v;
      scratch_after = k.scratch_after ∙ ap (λ (v : ℕ). paper.room_after v scratch) v;
    }
