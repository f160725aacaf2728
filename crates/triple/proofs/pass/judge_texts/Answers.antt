-- `triple::pass::judge_texts` meets its contract: three texts in turn, or two where the target is none. No loop. Assumes nothing.
use mathlib.Core.Path.{refl}
use native.Mathlib.Omega.{arith}
use Rattle.reader.proofs.Following.{same_err}
use Rattle.triple.specs.Triple.{texts_of}
use Rattle.triple.proofs.Underway.{judging_on, judging_off, turned_more, onward_on, turned_on, onward_start}
use Rattle.triple.proofs.Passing.{items_by, items_without, items_with, turned_by, onward_by}
use Rattle.triple.proofs.pass.judge_texts.Goals as goal

pub returns-in_err-judge_text : goal.returns-in_err-judge_text
returns-in_err-judge_text c =
    let t = texts_of c.args.texts.now in
    let a = c.judge_text.ensures.off _ c.in_err-judge_text.was in
    judging_off (same_err c.from_residual.result c.from_residual.ensures.1) (turned_by t (items_by t _ refl) (turned_more _ a) (omega arith))

pub returns-in_err-judge_text-2 : goal.returns-in_err-judge_text-2
returns-in_err-judge_text-2 c =
    let t = texts_of c.args.texts.now in
    let a = c.judge_text.ensures.on _ c.in_ok-judge_text.was in
    let b = c.judge_text-2.ensures.off _ c.in_err-judge_text-2.was in
    judging_off (same_err c.from_residual-in_err-judge_text-2.result c.from_residual-in_err-judge_text-2.ensures.1) (turned_by t (items_by t _ refl) (turned_on a (turned_more _ b)) (omega arith))

pub returns-then-begin_at-texts : goal.returns-then-begin_at-texts
returns-then-begin_at-texts c =
    let t = texts_of c.args.texts.now in
    let a = c.judge_text.ensures.on _ c.in_ok-judge_text.was in
    let b = c.judge_text-2.ensures.on _ c.in_ok-judge_text-2.was in
    judging_on (onward_by t (items_without t c.begin_at.ensures c.if-begin_at-texts.true) (onward_on a (onward_on b (onward_start b.ready b.few refl))) (omega arith))

pub returns : goal.returns
returns c =
    let t = texts_of c.args.texts.now in
    let a = c.judge_text.ensures.on _ c.in_ok-judge_text.was in
    let b = c.judge_text-2.ensures.on _ c.in_ok-judge_text-2.was in
    let e = items_with t c.begin_at.ensures c.if-begin_at-texts.false in
    record {
      on = λ x q. onward_by t e (onward_on a (onward_on b (c.judge_text-3.ensures.on x q))) (omega arith);
      off = λ w q. turned_by t e (turned_on a (turned_on b (c.judge_text-3.ensures.off w q))) (omega arith);
    }
