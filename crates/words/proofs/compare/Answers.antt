-- `words::compare` meets its contract: where a word is looked at, those above it are equal. Assumes nothing.
use Rattle.std.proofs.Common.{◌≡◌, drop, drop_of_length-le, sym, ◌∙◌, rules}
use Rattle.limits.specs.Limits.{set_words}
use Rattle.words.proofs.WordByWord.{Sets, order_next, order_decides}
use Rattle.words.proofs.compare.Goals as goal
use Rattle.words.proofs.compare.Goals.{Else-a-b, Else-a-b-2, Else-a-b-3, Else-a-b-4, Start}

sets : (c : Start) → Sets c.args.a c.args.b
sets c = record { same = search rules; left = λ i. search rules; right = λ i. search rules }

-- the words above the one that a decision looks at
above₄ : (c : Start) → drop 5 c.args.a ≡ drop 5 c.args.b
above₄ c = drop_of_length-le c.args.a {i = set_words} (search rules) ∙ sym (drop_of_length-le c.args.b {i = set_words} (search rules))

above₃ : (c : Else-a-b) → drop 4 c.args.a ≡ drop 4 c.args.b
above₃ c = let b = c.before in order_next _ _ (sets b).same 4 (search rules) (above₄ b) c.if-a-b.false

above₂ : (c : Else-a-b-2) → drop 3 c.args.a ≡ drop 3 c.args.b
above₂ c = let b = c.before in order_next _ _ (sets b.before).same 3 (search rules) (above₃ b) c.if-a-b-2.false

above₁ : (c : Else-a-b-3) → drop 2 c.args.a ≡ drop 2 c.args.b
above₁ c = let b = c.before in order_next _ _ (sets b.before.before).same 2 (search rules) (above₂ b) c.if-a-b-3.false

above₀ : (c : Else-a-b-4) → drop 1 c.args.a ≡ drop 1 c.args.b
above₀ c = let b = c.before in order_next _ _ (sets b.before.before.before).same 1 (search rules) (above₁ b) c.if-a-b-4.false

pub returns-then-a-b : goal.returns-then-a-b
returns-then-a-b c =
    let s = goal.at.returns-then-a-b c in
    order_decides (sets s.Start) 4 (search rules) (above₄ s.Start) c.if-a-b.true _ c.cmp.ensures

pub returns-then-a-b-2 : goal.returns-then-a-b-2
returns-then-a-b-2 c =
    let s = goal.at.returns-then-a-b-2 c in
    order_decides (sets s.Start) 3 (search rules) (above₃ s.Else-a-b) c.if-a-b-2.true _ c.cmp-then-a-b-2.ensures

pub returns-then-a-b-3 : goal.returns-then-a-b-3
returns-then-a-b-3 c =
    let s = goal.at.returns-then-a-b-3 c in
    order_decides (sets s.Start) 2 (search rules) (above₂ s.Else-a-b-2) c.if-a-b-3.true _ c.cmp-then-a-b-3.ensures

pub returns-then-a-b-4 : goal.returns-then-a-b-4
returns-then-a-b-4 c =
    let s = goal.at.returns-then-a-b-4 c in
    order_decides (sets s.Start) 1 (search rules) (above₁ s.Else-a-b-3) c.if-a-b-4.true _ c.cmp-then-a-b-4.ensures

pub returns-then-a-b-5 : goal.returns-then-a-b-5
returns-then-a-b-5 c =
    let s = goal.at.returns-then-a-b-5 c in
    order_decides (sets s.Start) 0 (search rules) (above₀ s.Else-a-b-4) c.if-a-b-5.true _ c.cmp-then-a-b-5.ensures
