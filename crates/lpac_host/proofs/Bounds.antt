-- No verdict reaches 32, and no answer names a line or a statement behind the last. Assumes nothing.
use mathlib.Core.Path.{◌≡◌}
use mathlib.Core.Bool.{true, ◌&&◌, ◌||◌, not, cond}
use mathlib.Core.List.{List, [], ◌∷◌, ◌++◌, map}
use Prim.Native.Nat.{ℕ, suc, ◌+◌, ◌≤◌, ◌<◌}
use native.Mathlib.Omega.{arith}
use lib.Dec.{eqb, leb, ltb}
use lib.ListN.{length, length-append, length-map}
use borrow.Author.Tests.{leb-true}
use Rattle.ground.specs.Lists.{gather}
use Rattle.ground.proofs.Tests.{and_right, by_cond}
use Rattle.limits.specs.Verdicts.{SHORT, LONGTEXT, NUMBER, NAMES}
use Rattle.limits.specs.Limits.{text_bytes, least_pool, least_scratch}
use Rattle.paper.specs.Statement.{modulo, ring, is_ring}
use Rattle.paper.specs.Rules.{steps, State, start, after}
use Rattle.paper.specs.Grammar.{Bytes, Line, on_first, ended_by, lines, stuck}
use Rattle.paper.specs.Answer.{Answer, Outcome, stands, refused, Item, judge_item, item_of, items, report, ending, run, capacity_of, unread, answer}
use Rattle.paper.specs.Published.{NamedItem, after_spaces, if_some, pieces, read_by, target_items, constraint, proof_step}
use Rattle.paper.specs.Named.{names_in, readable, numbering, numbered, Texts, named_items, published_items, published_answer}
use Rattle.paper.proofs.Verdicts.{early, late, text_late, texts_late}
use Rattle.lpac_host.specs.Hosted.{line_weight, Bounded, bytes_of}

-- ---- what a byte ends takes a byte of the text at least
first_few : (b : ℕ) (ls : List Line) → length (on_first b ls) ≤ suc (length ls)
unfolding on_first
first_few b [] = omega arith
first_few b (l ∷ ls) = omega arith

ended_few : (c : ℕ) (text : Bytes) → length (ended_by c text) ≤ length text
unfolding ended_by
ended_few c [] = omega arith
ended_few c (b ∷ s) =
    let h = ended_few c s in
    by_cond (λ (ls : List Line). length ls ≤ suc (length s)) (eqb b c) (λ _. omega arith) (λ _. let g = first_few b (ended_by c s) in omega arith)

items_few : (text : Bytes) → length (items text) ≤ length text
unfolding items lines
items_few text = omega (arith, length-map (lines text) item_of, ended_few 10 text)

-- ---- so does a statement of a published text
gather_few : {A B : Type 0} (f : A → List B) → ((x : A) → length (f x) ≤ 1) → (xs : List A) → length (gather f xs) ≤ length xs
unfolding gather
gather_few f one [] = omega arith
gather_few f one (x ∷ xs) = omega (arith, one x, gather_few f one xs, length-append (f x) (gather f xs))

some_one : (l : Line) → length (if_some l) ≤ 1
unfolding if_some
some_one l = by_cond (λ (ls : List Line). length ls ≤ 1) (not l.ended && eqb (length l.content) 0) (λ _. omega arith) (λ _. omega arith)

pieces_few : (text : Bytes) → length (pieces text) ≤ length text
unfolding pieces
pieces_few text = omega (arith, gather_few (λ l. if_some (record { content = after_spaces l.content; ended = l.ended })) (λ l. some_one _) (ended_by 59 text), ended_few 59 text)

targets_few : (ls : List Line) → length (target_items ls) ≤ length ls
unfolding target_items
targets_few [] = omega arith
targets_few (l ∷ ls) = omega (arith, length-map ls (read_by (λ s. stuck s)))

named_few : (t : Texts) → length (named_items t) ≤ bytes_of t
unfolding named_items
named_few t =
    let goals : List NamedItem = target_items (pieces t.target) in
    let steps : List NamedItem = map (read_by proof_step) (pieces t.proof) in
    let inputs : List NamedItem = map (read_by constraint) (pieces t.constraints) in
    let proved : List NamedItem = cond (eqb (length goals) 0) [] steps in
    let few : length proved ≤ length steps = by_cond (λ (is : List NamedItem). length is ≤ length steps) (eqb (length goals) 0) (λ _. omega arith) (λ _. omega arith) in
    omega (
      arith,
      few,
      length-append inputs (goals ++ proved),
      length-append goals proved,
      length-map (pieces t.constraints) (read_by constraint),
      length-map (pieces t.proof) (read_by proof_step),
      targets_few (pieces t.target),
      pieces_few t.constraints,
      pieces_few t.target,
      pieces_few t.proof,
    )

published_few : (t : Texts) → length (published_items t) ≤ bytes_of t
unfolding published_items
published_few t = omega (arith, named_few t, length-map (named_items t) (numbered (numbering (gather names_in (readable (named_items t))))))

-- ---- answers
ending_line : (s : State) (n : ℕ) → (ending s n).line ≤ n
unfolding ending report
ending_line s n = by_cond AtMost (eqb s.phase steps) (λ _. by_cond AtMost s.reached (λ _. omega arith) (λ _. omega arith)) (λ _. omega arith)
  where
    AtMost : Answer → Type 0
    AtMost a = a.line ≤ n

run_line : (capacity : ℕ) (s : State) (n : ℕ) (is : List Item) → (run capacity s n is).line ≤ n + length is
unfolding run report
run_line capacity s n [] = omega (arith, ending_line s n)
run_line capacity s n (i ∷ is) = go (judge_item capacity s i) (λ s'. run_line capacity s' (suc n) is)
  where
    go : (o : Outcome) → ((s' : State) → (run capacity s' (suc n) is).line ≤ suc n + length is)
        → (elim o as (λ _. Answer) [ stands s' ↦ run capacity s' (suc n) is | refused v i ↦ report s v (suc n) i ]).line ≤ n + suc (length is)
    go (stands s') rest = omega (arith, rest s')
    go (refused v i) rest = omega arith

-- what is said without reading, and what a run over few items says
pub unread_bounded : (n v : ℕ) → v < line_weight → Bounded n (unread v)
unfolding unread
unread_bounded n v l = record { verdict = l; line = omega arith }

run_bounded : (n capacity : ℕ) (s : State) (is : List Item) → late (run capacity s 0 is).verdict ≡ true → length is ≤ n → Bounded n (run capacity s 0 is)
run_bounded n capacity s is h few =
    let v : ℕ = (run capacity s 0 is).verdict in
    record {
      verdict = omega (arith, leb-true v NAMES (and_right (not (early v)) (leb v NAMES) h));
      line = omega (arith, run_line capacity s 0 is, few);
    }

pub answer_bounded : (text : Bytes) (pool scratch : ℕ) → Bounded (length text) (answer text pool scratch)
unfolding answer
answer_bounded text pool scratch =
    let n : ℕ = length text in
    let c : ℕ = capacity_of pool in
    by_cond (Bounded n) (ltb pool least_pool || ltb scratch least_scratch) (λ _. unread_bounded n SHORT (omega arith))
    (λ _. by_cond (Bounded n) (ltb text_bytes n) (λ _. unread_bounded n LONGTEXT (omega arith))
    (λ _. run_bounded n c start (items text) (text_late c start 0 text) (items_few text)))

pub published_bounded : (k : ℕ) (t : Texts) (pool scratch : ℕ) → Bounded (bytes_of t) (published_answer k t pool scratch)
unfolding published_answer
published_bounded k t pool scratch =
    let n : ℕ = bytes_of t in
    let c : ℕ = capacity_of pool in
    let s : State = after start (ring (modulo k)) in
    by_cond (Bounded n) (ltb pool least_pool || ltb scratch least_scratch) (λ _. unread_bounded n SHORT (omega arith))
    (λ _. by_cond (Bounded n) (ltb text_bytes n) (λ _. unread_bounded n LONGTEXT (omega arith))
    (λ _. by_cond (Bounded n) (is_ring (modulo k)) (λ _. run_bounded n c s (published_items t) (texts_late c s 0 t) (published_few t))
    (λ _. unread_bounded n NUMBER (omega arith))))
