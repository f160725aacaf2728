-- `triple::plain::every_plain` meets its contract: three texts in turn, or two where the target is none. No loop. Assumes nothing.
use mathlib.Core.Path.{◌≡◌, refl, sym, ap, ◌∙◌}
use mathlib.Core.Bool.{true}
use mathlib.Core.List.{[]}
use Rattle.paper.specs.Named.{named_items}
use Rattle.triple.specs.Courses.{all_plain, known_or}
use Rattle.triple.specs.Triple.{texts_of}
use Rattle.triple.proofs.Passing.{items_by, items_without, items_with, of_proof}
use Rattle.triple.proofs.Plainly.{first_known, second_known, second_open, plain_end, third_plain}
use Rattle.triple.proofs.plain.every_plain.Goals as goal
use Rattle.triple.proofs.plain.every_plain.Goals.{After-plain_text-3}

pub returns-in-Some : goal.returns-in-Some
returns-in-Some c =
    let t = texts_of c.args.texts.now in
    first_known t _ (items_by t _ refl) c.plain_text.ensures.known c.in-Some.is

pub returns-in-Some-plain_text : goal.returns-in-Some-plain_text
returns-in-Some-plain_text c =
    let t = texts_of c.args.texts.now in
    second_known t _ (items_by t _ refl) c.plain_text.ensures.known c.in_default.is _ c.plain_text-2.ensures.known c.in-Some-plain_text.is

pub returns-then-begin_at-texts : goal.returns-then-begin_at-texts
returns-then-begin_at-texts c =
    let t = texts_of c.args.texts.now in
    plain_end ∙ sym (second_open t [] (items_without t c.begin_at.ensures c.if-begin_at-texts.true) c.plain_text.ensures.known c.in_default.is _ c.plain_text-2.ensures.known c.in_default-plain_text.is)

-- the proof's names decide
proof_decides : (d : After-plain_text-3) → all_plain (named_items (texts_of d.args.texts.now)) ≡ known_or true d.plain_text-3.result
proof_decides d =
    let t = texts_of d.args.texts.now in
    second_open t (of_proof t) (items_with t d.begin_at.ensures d.if-begin_at-texts.false) d.plain_text.ensures.known d.in_default.is _ d.plain_text-2.ensures.known d.in_default-plain_text.is
    ∙ sym (third_plain (of_proof t) d.plain_text-3.result d.plain_text-3.ensures.known)

pub returns-in-Some-plain_text-2 : goal.returns-in-Some-plain_text-2
returns-in-Some-plain_text-2 c = sym (proof_decides (goal.at.returns-in-Some-plain_text-2 c).After-plain_text-3 ∙ ap (known_or true) c.in-Some-plain_text-2.is)

pub returns-in-None : goal.returns-in-None
returns-in-None c = sym (proof_decides (goal.at.returns-in-None c).After-plain_text-3 ∙ ap (known_or true) c.in-None.is)
