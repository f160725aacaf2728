-- `triple::pass::pass` meets its contract: the answer behind the last statement, or that of the refused one. No loop. Assumes nothing.
use Rattle.triple.specs.Triple.{texts_of}
use Rattle.triple.proofs.Passing.{begun, passed, turned}
use Rattle.triple.proofs.pass.pass.Goals as goal

pub judge_texts-requires : goal.judge_texts-requires
judge_texts-requires c =
    let b = begun c.args.k c.new-state.result c.new-state.ensures in
    let r = c.requires.2 in
    (b.ready c.requires.0 _ _ _ r.words r.most r.least, b.lines)

pub returns-in-Ok-clause-passed : goal.returns-in-Ok-clause-passed
returns-in-Ok-clause-passed c = passed (texts_of c.args.texts.now) (begun c.args.k c.new-state.result c.new-state.ensures) c.requires.1 (c.judge_texts.ensures.on _ c.in-Ok.is) c.ending.ensures

pub returns-in-Err-clause-passed : goal.returns-in-Err-clause-passed
returns-in-Err-clause-passed c =
    turned (texts_of c.args.texts.now) (begun c.args.k c.new-state.result c.new-state.ensures) c.requires.1 (c.judge_texts.ensures.off _ c.in-Err.is) c.number-v.ensures c.counted_index-i.ensures c.report.ensures
