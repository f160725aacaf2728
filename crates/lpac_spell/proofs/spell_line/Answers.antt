-- The spelling stands within the output.
use Rattle.lpac_spell.proofs.Asking.{written_inside}
use Rattle.lpac_spell.proofs.spell_line.Goals as goal

pub returns : goal.returns
returns c = written_inside _ c.spell.result c.spell.ensures.gives
