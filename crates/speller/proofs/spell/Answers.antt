-- `speller::spell` meets its contract: too short a scratch, too long a field, or the spelling, and then the scratch is cleared. No loop.
-- Assumes nothing.
use mathlib.Core.Path.{ap, ◌∙◌}
use Prim.Native.Nat.{ℕ}
use lib.ListN.{replicate}
use Rattle.speller.proofs.Giving.{spells_short, spells_long, spells_read}
use Rattle.speller.proofs.spell.Goals as goal

pub returns-then-scratch-lt-LEAST_SPELLING_SCRATCH : goal.returns-then-scratch-lt-LEAST_SPELLING_SCRATCH
returns-then-scratch-lt-LEAST_SPELLING_SCRATCH c = spells_short c.if-scratch-lt-LEAST_SPELLING_SCRATCH.true

pub returns-then-field-gt-LINE_BYTES : goal.returns-then-field-gt-LINE_BYTES
returns-then-field-gt-LINE_BYTES c = spells_long c.if-scratch-lt-LEAST_SPELLING_SCRATCH.false c.zero.ensures c.if-field-gt-LINE_BYTES.true

pub returns : goal.returns
returns c =
    spells_read c.if-scratch-lt-LEAST_SPELLING_SCRATCH.false (c.zero-2.ensures ∙ ap (λ (n : ℕ). replicate n 0) c.spell_within-spelled.auto.scratch)
    c.if-field-gt-LINE_BYTES.false c.spell_within-spelled.ensures
