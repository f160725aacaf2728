-- `checker::answer::unread` meets its contract. No loop. Assumes nothing.
use mathlib.Core.Path.{refl}
use Rattle.paper.specs.Answer.{unread}
use Rattle.checker.proofs.answer.unread.Goals as goal

pub returns : goal.returns
unfolding unread
returns c = refl
