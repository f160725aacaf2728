-- `reader::field::with_count` meets its contract, by the count. No loop. Assumes nothing.
use mathlib.Core.Path.{sym, ap, ◌∙◌}
use borrow.Author.Tests.{le-ltb}
use Rattle.ground.proofs.Tests.{cond_no}
use Rattle.limits.specs.Limits.{field_terms}
use Rattle.limits.specs.Verdicts.{ACCEPTED, TERMS}
use Rattle.reader.specs.Fields.{first_of}
use Rattle.reader.proofs.Marks.{first_alone}
use Rattle.reader.proofs.field.with_count.Goals as goal

pub returns-else-terms-gt-FIELD_TERMS : goal.returns-else-terms-gt-FIELD_TERMS
returns-else-terms-gt-FIELD_TERMS c =
    let a = c.args in
    sym (ap (first_of a.why) (cond_no _ TERMS ACCEPTED (le-ltb field_terms a.terms c.if-terms-gt-FIELD_TERMS.false)) ∙ first_alone a.why)
