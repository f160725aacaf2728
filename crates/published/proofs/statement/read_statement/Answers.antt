-- `published::statement::read_statement` meets its contract: too long, not ended, or read to its end. No loop. Assumes nothing.
use Rattle.published.specs.Statements.{reader_of}
use Rattle.published.proofs.StepRules.{piece_long, piece_unended, piece_ended, piece_stops}
use Rattle.published.proofs.statement.read_statement.Goals as goal

pub returns-then-s-gt-LINE_BYTES-clause-read : goal.returns-then-s-gt-LINE_BYTES-clause-read
returns-then-s-gt-LINE_BYTES-clause-read c =
    let a = c.args in
    rw c.no_statement.ensures (piece_long (reader_of a.kind) a.s.now a.ended a.names.now c.if-s-gt-LINE_BYTES.true)

pub returns-then-not-ended-clause-read : goal.returns-then-not-ended-clause-read
returns-then-not-ended-clause-read c =
    let a = c.args in
    rw c.no_statement-then-not-ended.ensures (piece_unended (reader_of a.kind) a.s.now a.ended c.if-s-gt-LINE_BYTES.false a.names.now c.if-not-ended.true)

pub returns-in-Ok-clause-read : goal.returns-in-Ok-clause-read
returns-in-Ok-clause-read c =
    let a = c.args in
    piece_ended (reader_of a.kind) a.s.now a.ended c.if-s-gt-LINE_BYTES.false c.if-not-ended.false (record { tells = c.in-Ok.ensures.read.said; kept = c.in-Ok.ensures.read.kept })

pub returns-in-Err-clause-read : goal.returns-in-Err-clause-read
returns-in-Err-clause-read c =
    let a = c.args in
    rw c.no_statement-in-Err.ensures (piece_stops (reader_of a.kind) a.s.now a.ended c.if-s-gt-LINE_BYTES.false c.if-not-ended.false c.in-Err.ensures.read.said c.in-Err.ensures.read.kept)
