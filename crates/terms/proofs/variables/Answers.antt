use Rattle.words.specs.Words.{number_of}
use Rattle.terms.proofs.Runs.{variables_start, variables_more}
use Rattle.terms.proofs.variables.Goals as goal

pub loop-i-init : goal.loop-i-init
unfolding number_of
loop-i-init c = variables_start c.args.s.now

pub loop-i-preserved : goal.loop-i-preserved
loop-i-preserved c =
    variables_more c.loop-i.i c.args.s.now _ _ _ _ c.loop-i.invariant c.read_term-t.ensures c.set_of.ensures c.union-b.ensures
