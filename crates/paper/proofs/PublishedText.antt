-- The answer for published texts is the answer for the line text that they stand for, whose lines count from the ring's. Assumes nothing.
use mathlib.Core.Path.{◌≡◌, refl, sym, ap, ap₂, ◌∙◌}
use mathlib.Core.Bool.{Bool, true, false, ◌&&◌, ◌||◌, not, cond}
use mathlib.Core.List.{List, [], ◌∷◌, ◌++◌, map}
use Prim.Native.Nat.{ℕ, suc, ◌-◌}
use native.Mathlib.Omega.{arith}
use lib.Dec.{ltb, eqb}
use lib.ListN.{length}
use borrow.Author.Tests.{leb-true, le-ltb}
use Rattle.ground.specs.Lists.{any, every, total, gather}
use Rattle.ground.proofs.Tests.{and_left, and_right, and_both}
use Rattle.limits.specs.Limits.{line_bytes, text_bytes, least_pool, least_scratch}
use Rattle.limits.specs.Verdicts.{ACCEPTED, SHORT, LONGTEXT, NUMBER, NOGOAL, NOTREACHED}
use Rattle.paper.specs.Statement.{Statement, modulo, ring, renamed, new_index, named_indices, forgets, fields, is_ring, numbers_in_range}
use Rattle.paper.specs.Grammar.{Bytes, Read, got, stuck}
use Rattle.paper.specs.Rules.{first, steps, State, start, without, stored_terms, place, entries, product_count, overfull, written_rules, rules, after}
use Rattle.paper.specs.Answer.{Answer, Outcome, stands, refused, judge, Item, judge_item, item_of, items, report, ending, run, capacity_of, unread, answer, if_read, statements_of, statements}
use Rattle.paper.specs.Published.{Name, Named, NamedItem}
use Rattle.paper.specs.Named.{names_in, readable, numbering, bad_name, named_rules, numbered, Texts, named_items, all_names, published_items, published_answer, published_statements}
use Rattle.paper.specs.LineText.{write_line, line_text, is_read, short_line, HasLineText, one_less}
use Rattle.paper.proofs.Running.{judge_stands, item_read, run_stands, run_refused}
use Rattle.paper.proofs.LinesBack.{has_line, written_line, line_back, lines_back}
use Rattle.paper.proofs.PublishedReads.{says_line, items_say}
use Rattle.paper.proofs.Renamed.{line_renamed, none_append, written_same}

-- ---- one item
line_judged : (capacity : ℕ) (s : State) (st : Statement) → has_line st ≡ true → short_line st ≡ true
    → judge_item capacity s (item_of (written_line st)) ≡ judge capacity s (first (written_rules st)) st
unfolding item_of short_line
line_judged capacity s st h l =
    item_read capacity s (item_of (written_line st)) (le-ltb line_bytes (length (write_line st)) (leb-true (length (write_line st)) line_bytes l)) st [] (line_back st h)
    ∙ ap (λ (r : Read Statement). judge capacity s (elim r [ got st r ↦ first (written_rules st) | stuck r ↦ ACCEPTED ]) st) (line_back st h)

module _ (f : Name → ℕ) where
  -- items that can be read, with good names and short lines
  record Fit (is : List NamedItem) : Type 0 where
    read : every is_read is ≡ true
    says : every says_line is ≡ true
    named : any (bad_name f) (gather names_in (readable is)) ≡ false
    short : every short_line (statements_of (map (numbered f) is)) ≡ true

  -- the first of them
  record First (i : NamedItem) (is : List NamedItem) : Type 0 where
    st : Named
    rest : Bytes
    here : i.long ≡ false
    reads : i.reads ≡ got st rest
    says : has_line st ≡ true
    named : any (bad_name f) (names_in st) ≡ false
    short : short_line (renamed f st) ≡ true
    others : Fit is

  fit_first : (b : Bool) (r : Read Named) (is : List NamedItem) → Fit (record { long = b; reads = r } ∷ is) → First (record { long = b; reads = r }) is
  unfolding every is_read says_line readable gather statements_of numbered
  fit_first true r is w = let e = w.read in absurd (let z : ◌≡◌ {A = ℕ} 0 1 = cc in omega arith)
  fit_first false (stuck r) is w = let e = w.read in absurd (let z : ◌≡◌ {A = ℕ} 0 1 = cc in omega arith)
  fit_first false (got st r) is w =
      let n = none_append (bad_name f) (names_in st) (gather names_in (readable is)) w.named in
      let m = statements_of (map (numbered f) is) in
      record {
        st = st;
        rest = r;
        here = refl;
        reads = refl;
        says = and_left (has_line st) (every says_line is) w.says;
        named = n.0;
        short = and_left (short_line (renamed f st)) (every short_line m) w.short;
        others = record {
          read = w.read;
          says = and_right (has_line st) (every says_line is) w.says;
          named = n.1;
          short = and_right (short_line (renamed f st)) (every short_line m) w.short;
        };
      }

  named_judged : (capacity : ℕ) (s : State) (i : NamedItem) (is : List NamedItem) (w : First i is)
      → judge_item capacity s (numbered f i) ≡ judge_item capacity s (item_of (written_line (renamed f w.st)))
  unfolding numbered
  named_judged capacity s i is w =
      item_read capacity s (numbered f i) w.here (renamed f w.st) w.rest
      (ap (λ (r : Read Named). elim r [ got st r ↦ got (renamed f st) r | stuck r ↦ stuck r ]) w.reads)
      ∙ ap (λ (v : ℕ). judge capacity s v (renamed f w.st))
      (ap (λ (r : Read Named). elim r [ got st r ↦ first (named_rules f st) | stuck r ↦ ACCEPTED ]) w.reads ∙ written_same f w.st w.named)
      ∙ sym (line_judged capacity s (renamed f w.st) (line_renamed f w.st ∙ w.says) w.short)

-- ---- all items, one line further
before : (n : ℕ) → n ≡ suc n - 1
before n = omega arith

report_less : (s : State) (v n i : ℕ) → report s v n i ≡ one_less (report s v (suc n) i)
unfolding report one_less
report_less s v n i = ap (λ (m : ℕ). report s v m i) (before n)

won_less : (s : State) → report s ACCEPTED 0 0 ≡ one_less (report s ACCEPTED 0 0)
unfolding report one_less
won_less s = refl

ending_less : (s : State) (n : ℕ) → ending s n ≡ one_less (ending s (suc n))
unfolding ending one_less
ending_less s n = go (eqb s.phase steps) s.reached
  where
    last : (b c : Bool) (m : ℕ) → Answer
    last b c m = cond b (cond c (report s ACCEPTED 0 0) (report s NOTREACHED m 0)) (report s NOGOAL m 0)

    go : (b c : Bool) → last b c n ≡ one_less (last b c (suc n))
    go true true = won_less s
    go true false = report_less s NOTREACHED n 0
    go false c = report_less s NOGOAL n 0

module _ (f : Name → ℕ) where
  lines_of : List NamedItem → List Item
  lines_of is = map item_of (map written_line (statements_of (map (numbered f) is)))

  lines_first : (i : NamedItem) (is : List NamedItem) (w : First f i is) → lines_of (i ∷ is) ≡ item_of (written_line (renamed f w.st)) ∷ lines_of is
  unfolding lines_of statements_of gather numbered
  lines_first i is w =
      ap (λ (r : Read Named). map item_of (map written_line (if_read (elim r [ got st r ↦ got (renamed f st) r | stuck r ↦ stuck r ]) ++ statements_of (map (numbered f) is)))) w.reads

  module _ (capacity : ℕ) where
    -- how a run goes on after an outcome
    abbrev goes_on : State → Outcome → ℕ → List Item → Answer
    goes_on s o n is = elim o [ stands s' ↦ run capacity s' n is | refused v j ↦ report s v n j ]

    goes_less : (s : State) (n : ℕ) (is js : List Item) → ((s' : State) → run capacity s' n is ≡ one_less (run capacity s' (suc n) js)) → (o : Outcome)
        → goes_on s o n is ≡ one_less (goes_on s o (suc n) js)
    goes_less s n is js rest (stands s') = rest s'
    goes_less s n is js rest (refused v j) = report_less s v n j

    run_less : (is : List NamedItem) → Fit f is → (s : State) (n : ℕ) → run capacity s n (map (numbered f) is) ≡ one_less (run capacity s (suc n) (lines_of is))
    unfolding run lines_of statements_of gather
    run_less [] w s n = ending_less s n
    run_less (i ∷ is) w s n =
        let x : First f i is = fit_first f i.long i.reads is w in
        let line : Item = item_of (written_line (renamed f x.st)) in
        ap (λ (o : Outcome). goes_on s o (suc n) (map (numbered f) is)) (named_judged f capacity s i is x)
        ∙ goes_less s (suc n) (map (numbered f) is) (lines_of is) (λ s'. run_less is x.others s' (suc n)) (judge_item capacity s line)
        ∙ ap (λ (js : List Item). one_less (run capacity s (suc n) js)) (sym (lines_first i is x))

-- ---- the ring's line, and the text
ring_stands : (capacity k : ℕ) → first (rules capacity start (ring (modulo k))) ≡ 0
unfolding first rules start place new_index named_indices every any product_count overfull without forgets entries
ring_stands capacity k = refl

ring_written : (k : ℕ) → first (written_rules (ring (modulo k))) ≡ cond (is_ring (modulo k)) ACCEPTED NUMBER
unfolding first written_rules numbers_in_range new_index named_indices fields every any
ring_written k = go (is_ring (modulo k))
  where
    go : (b : Bool) → cond (not (((b && true) && true) && true)) NUMBER ACCEPTED ≡ cond b ACCEPTED NUMBER
    go true = refl
    go false = refl

number_refused : (capacity : ℕ) (st : Statement) → judge capacity start NUMBER st ≡ refused NUMBER 0
unfolding judge
number_refused capacity st = refl

number_less : unread NUMBER ≡ one_less (report start NUMBER 1 0)
unfolding unread one_less report start stored_terms total
number_less = refl

short_less : unread SHORT ≡ one_less (unread SHORT)
unfolding unread one_less
short_less = refl

pub items_of_lines : (k : ℕ) (t : Texts) → items (line_text k t) ≡ map item_of (map written_line (ring (modulo k) ∷ published_statements t))
unfolding items line_text
items_of_lines k t = ap (map item_of) (lines_back (ring (modulo k) ∷ published_statements t))

module _ (k : ℕ) (t : Texts) (h : HasLineText k t) where
  fit : Fit (numbering (all_names t)) (named_items t)
  unfolding published_items published_statements every
  fit = record {
    read = h.statements;
    says = items_say t;
    named = h.names;
    short = and_right (short_line (ring (modulo k))) (every short_line (published_statements t)) h.lines;
  }

  ring_judged : (capacity : ℕ) → judge_item capacity start (item_of (written_line (ring (modulo k)))) ≡ judge capacity start (cond (is_ring (modulo k)) ACCEPTED NUMBER) (ring (modulo k))
  unfolding every has_line
  ring_judged capacity =
      line_judged capacity start (ring (modulo k)) refl (and_left (short_line (ring (modulo k))) (every short_line (published_statements t)) h.lines)
      ∙ ap (λ (w : ℕ). judge capacity start w (ring (modulo k))) (ring_written k)

  -- behind a ring in range the statements are run, and one out of range refuses
  runs_alike : (capacity : ℕ)
      → cond (is_ring (modulo k)) (run capacity (after start (ring (modulo k))) 0 (published_items t)) (unread NUMBER) ≡ one_less (run capacity start 0 (items (line_text k t)))
  unfolding published_items published_statements lines_of
  runs_alike capacity =
      go (is_ring (modulo k)) (ring_judged capacity) ∙ ap (λ (is : List Item). one_less (run capacity start 0 is)) (sym (items_of_lines k t))
    where
      first_line : Item
      first_line = item_of (written_line (ring (modulo k)))

      others : List Item
      others = lines_of (numbering (all_names t)) (named_items t)

      go : (b : Bool) → judge_item capacity start first_line ≡ judge capacity start (cond b ACCEPTED NUMBER) (ring (modulo k))
          → cond b (run capacity (after start (ring (modulo k))) 0 (published_items t)) (unread NUMBER) ≡ one_less (run capacity start 0 (first_line ∷ others))
      go true e =
          run_less (numbering (all_names t)) capacity (named_items t) fit (after start (ring (modulo k))) 0
          ∙ ap one_less (sym (run_stands capacity start 0 first_line others (after start (ring (modulo k)))
          (e ∙ judge_stands capacity start (ring (modulo k)) (ring_stands capacity k))))
      go false e = number_less ∙ ap one_less (sym (run_refused capacity start 0 first_line others NUMBER 0 (e ∙ number_refused capacity (ring (modulo k)))))

  pub published_as_lines : (pool scratch : ℕ) → published_answer k t pool scratch ≡ one_less (answer (line_text k t) pool scratch)
  unfolding published_answer answer
  published_as_lines pool scratch =
      ap (λ (b : Bool). cond short (unread SHORT) (cond b (unread LONGTEXT) whole)) (le-ltb text_bytes _ h.texts)
      ∙ go short
      ∙ ap (λ (b : Bool). one_less (cond short (unread SHORT) (cond b (unread LONGTEXT) lines))) (sym (le-ltb text_bytes (length (line_text k t)) h.text))
    where
      short : Bool
      short = ltb pool least_pool || ltb scratch least_scratch

      whole : Answer
      whole = cond (is_ring (modulo k)) (run (capacity_of pool) (after start (ring (modulo k))) 0 (published_items t)) (unread NUMBER)

      lines : Answer
      lines = run (capacity_of pool) start 0 (items (line_text k t))

      go : (b : Bool) → cond b (unread SHORT) whole ≡ one_less (cond b (unread SHORT) lines)
      go true = short_less
      go false = runs_alike (capacity_of pool)

-- ---- the line text says the ring's statement and those of the texts
reads_back : (sts : List Statement) → every has_line sts ≡ true → statements_of (map item_of (map written_line sts)) ≡ sts
unfolding statements_of gather every item_of
reads_back [] h = refl
reads_back (st ∷ sts) h =
    ap₂ (λ (r : Read Statement) (l : List Statement). if_read r ++ l) (line_back st (and_left (has_line st) (every has_line sts) h)) (reads_back sts (and_right (has_line st) (every has_line sts) h))

said_lines : (f : Name → ℕ) (is : List NamedItem) → every says_line is ≡ true → every has_line (statements_of (map (numbered f) is)) ≡ true
unfolding statements_of gather every numbered says_line
said_lines f [] h = refl
said_lines f (i ∷ is) h = go i.reads (and_left (says_line i) (every says_line is) h) (said_lines f is (and_right (says_line i) (every says_line is) h))
  where
    go : (r : Read Named) → elim r [ got st t ↦ has_line st | stuck t ↦ true ] ≡ true → every has_line (statements_of (map (numbered f) is)) ≡ true
        → every has_line (if_read (elim r [ got st t ↦ got (renamed f st) t | stuck t ↦ stuck t ]) ++ statements_of (map (numbered f) is)) ≡ true
    go (got st t) e m = and_both (has_line (renamed f st)) _ (line_renamed f st ∙ e) m
    go (stuck t) e m = m

pub line_text_says : (k : ℕ) (t : Texts) → statements (line_text k t) ≡ ring (modulo k) ∷ published_statements t
unfolding statements published_statements published_items every has_line
line_text_says k t = ap statements_of (items_of_lines k t) ∙ reads_back (ring (modulo k) ∷ published_statements t) (said_lines (numbering (all_names t)) (named_items t) (items_say t))
