use mathlib.Core.Path.{◌≡◌, sym, ap, ap₂, ◌∙◌}
use mathlib.Core.List.{List, ◌∷◌, ◌++◌}
use Prim.Native.Nat.{ℕ, ◌+◌}
use native.Mathlib.Omega.{arith}
use lib.ListN.{drop}
use Rattle.paper.specs.Grammar.{Line}
use Rattle.paper.specs.Published.{pieces, NamedItem, read_by}
use Rattle.steps.proofs.Calling.{ready_reads}
use Rattle.published.specs.Statements.{reader_of, kind_behind, items_of}
use Rattle.triple.specs.Courses.{all_plain}
use Rattle.triple.proofs.Plainly.{bad_plain, unread_plain, open_plain}
use Rattle.triple.proofs.Underway.{at_piece, piece_at, items_first, items_end}
use Rattle.triple.proofs.plain.plain_text.Goals as goal
use Rattle.triple.proofs.plain.plain_text.Goals.{After-read_statement-read, After-begin_at-at-in-loop-at}

pub invariant_of-stored : goal.invariant_of-stored
invariant_of-stored c = let q = ready_reads (c.new-state.ensures.ready 0 c.args.pool.now c.args.scratch.now (omega arith) (omega arith) c.requires.2) in record { holds = q.0; ringed = q.1 }

-- the items before, with that which was read
head : (d : After-read_statement-read) (rest : List NamedItem)
    → all_plain (items_of d.args.kind (pieces d.args.text.now) ++ rest)
    ≡ all_plain (read_by (reader_of d.loop-at.next) (piece_at d.args.text.now d.loop-at.at d.find_byte-e.result) ∷ (items_of (kind_behind d.loop-at.next) (pieces (drop (d.find_byte-e.result + 1) d.args.text.now)) ++ rest))
head d rest =
    d.loop-at.invariant.0 rest
    ∙ ap (λ (is : List NamedItem). all_plain (is ++ rest)) (items_first d.loop-at.next d.loop-at-test.true d.loop-at.invariant.1 d.find_byte-e.ensures)

pub returns-then-read-clause-known : goal.returns-then-read-clause-known
returns-then-read-clause-known c =
    λ rest. head (goal.at.returns-then-read-clause-known c).After-read_statement-read rest ∙ sym (bad_plain c.loop-at.invariant.2 c.read_statement-read.ensures.read.tells _ c.if-read.true)

pub returns-then-is_unreadable-clause-known : goal.returns-then-is_unreadable-clause-known
returns-then-is_unreadable-clause-known c =
    λ rest. head (goal.at.returns-then-is_unreadable-clause-known c).After-read_statement-read rest
    ∙ sym (unread_plain c.loop-at.invariant.2 c.read_statement-read.ensures.read.tells _ (sym c.is_unreadable.ensures ∙ c.if-is_unreadable.true))

pub loop-at-smaller : goal.loop-at-smaller
loop-at-smaller c =
    let o = c.begin_at-at-in-loop-at.ensures.onward c.loop-at.at (omega arith) c.loop-at-test.true in
    omega arith

pub loop-at-preserved : goal.loop-at-preserved
loop-at-preserved c =
    let r = c.read_statement-read.ensures in
    let b = c.begin_at-at-in-loop-at.ensures in (
      λ rest. head (goal.at.loop-at-preserved c).After-read_statement-read rest ∙ open_plain c.loop-at.invariant.2 r.read.tells _ c.if-read.false (sym c.is_unreadable.ensures ∙ c.if-is_unreadable.false)
          ∙ ap₂ (λ (k : ℕ) (ls : List Line). all_plain (items_of k ls ++ rest)) (sym c.kind_behind-next.ensures) b.same,
      at_piece b,
      r.plain ∙ c.loop-at.invariant.2,
    )

pub returns-clause-known : goal.returns-clause-known
returns-clause-known c =
    λ rest. c.loop-at.invariant.0 rest ∙ ap (λ (is : List NamedItem). all_plain (is ++ rest)) (items_end c.args.text.now c.loop-at.next c.loop-at.at c.loop-at-test.false)
