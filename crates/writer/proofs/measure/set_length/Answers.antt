use mathlib.Core.Path.{ap}
use native.Mathlib.Omega.{arith}
use borrow.Author.Rules.{rules}
use lib.ListN.{length}
use Rattle.words.specs.Words.{number_of}
use Rattle.writer.proofs.Pieces.{set_start, set_length_more, set_end, set_most}
use Rattle.writer.proofs.measure.set_length.Goals as goal

pub loop-i-init : goal.loop-i-init
loop-i-init c = omega (arith, ap length (set_start c.args.a (search rules)))

pub overflow_add-sum : goal.overflow_add-sum
overflow_add-sum c =
    let l = c.loop-i in
    record { fits = omega (arith, c.word_length-sum.ensures, set_length_more c.args.a l.i (λ i. search rules) (search rules), set_most (number_of c.args.a)) }

pub loop-i-preserved : goal.loop-i-preserved
loop-i-preserved c =
    let l = c.loop-i in
    omega (arith, c.word_length-sum.ensures, set_length_more c.args.a l.i (λ i. search rules) (search rules))

pub returns : goal.returns
returns c =
    let l = c.loop-i in
    omega (arith, ap length (set_end c.args.a l.i (search rules)))
