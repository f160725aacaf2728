use Rattle.std.proofs.Common.{rules}
use Rattle.words.specs.Words.{number_of}
use Rattle.words.proofs.Laws.{Words}
use Rattle.words.proofs.WordByWord.{union_start, union_words, union_more}
use Rattle.words.proofs.union.Goals as goal

pub loop-i-init : goal.loop-i-init
loop-i-init c = (union_start (number_of c.args.a) c.args.b, search rules, λ i. search rules)

pub loop-i-preserved : goal.loop-i-preserved
loop-i-preserved c =
    let loop = c.loop-i in
    let args = c.args in
    let f : Words args.b = λ i. search rules in (
      union_more loop.r (number_of args.a) args.b loop.i loop.invariant.2 f (search rules) (search rules) loop.invariant.0,
      search rules,
      union_words loop.r args.b loop.i loop.invariant.2 f,
    )
