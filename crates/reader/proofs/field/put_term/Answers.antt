-- `reader::field::put_term` meets its contract: the term is written behind the others, or nothing is. No loop. Assumes nothing.
use borrow.Author.Rules.{rules}
use Rattle.reader.proofs.Gathering.{put_written}
use Rattle.reader.proofs.field.put_term.Goals as goal

pub returns-then-n-lt-FIELD_TERMS : goal.returns-then-n-lt-FIELD_TERMS
returns-then-n-lt-FIELD_TERMS c =
    let a = c.args in
    put_written a.n a.why a.t a.out.now c.write_term.new.s c.if-why-eq-ACCEPTED.true c.requires c.if-n-lt-FIELD_TERMS.true (search rules) c.write_term.ensures
