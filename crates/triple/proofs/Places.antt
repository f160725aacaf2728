-- Where the next statement of a text begins. Assumes nothing.
use mathlib.Core.Path.{◌≡◌, refl, sym, ap, ◌∙◌}
use mathlib.Core.Bool.{Bool, true, false, cond}
use mathlib.Core.List.{List, [], ◌∷◌, ◌++◌}
use Prim.Native.Nat.{ℕ, suc, ◌<◌}
use Prim.Native.Char.{code}
use native.Mathlib.Omega.{arith}
use lib.Dec.{eqb}
use lib.ListN.{length, drop, get_or}
use lib.Seq.{drop-cons}
use Rattle.ground.specs.Lists.{gather}
use Rattle.paper.specs.Grammar.{Bytes, Line, on_first, ended_by}
use Rattle.paper.specs.Published.{is_space, spaces, after_spaces, if_some, pieces}
use Rattle.reader.specs.Places.{Got}
use Rattle.triple.specs.Courses.{BeginsAt}
use Rattle.triple.proofs.Starting.{tidied, tidied_same, no_pieces, pieces_passed, behind_spaces_law}

pub begins_behind : (text : Bytes) (from : ℕ) → length text < from → BeginsAt text from (length text)
begins_behind text from h =
    record {
      same = no_pieces text from (omega arith) ∙ sym (no_pieces text (length text) (omega arith));
      onward = λ at l m. m;
      inside = omega arith;
      clear = λ l. absurd (let z : ⊥ = omega arith in z);
    }

pub begins_inside : {text : Bytes} {from r : ℕ} → Got spaces text from tt r → BeginsAt text from r
begins_inside {text} {from} g =
    let o = g.onward in
    record { same = pieces_passed text from g; onward = λ at l m. omega arith; inside = g.inside; clear = λ _. behind_spaces_law text from g }

-- ---- where a byte is no white space there is a statement
first_ended : (rest : List Line) → gather tidied (record { content = []; ended = true } ∷ rest) ≡ record { content = []; ended = true } ∷ gather tidied rest
unfolding gather if_some after_spaces
first_ended rest = refl

first_some : (b : ℕ) (s : Bytes) → is_space b ≡ false → (l : Line) × (ls : List Line) × (pieces (b ∷ s) ≡ l ∷ ls)
unfolding pieces gather ended_by on_first
first_some b s h = go (eqb b (code ";")) (ended_by (code ";") s)
  where
    go : (t : Bool) (rest : List Line) → (l : Line) × (ls : List Line) × (gather tidied (cond t (record { content = []; ended = true } ∷ rest) (on_first b rest)) ≡ l ∷ ls)
    go true rest = (record { content = []; ended = true }, gather tidied rest, first_ended rest)
    go false [] = (record { content = b ∷ []; ended = false }, [], ap (λ (ls : List Line). ls ++ []) (tidied_same (b ∷ []) false h (λ _. omega arith)))
    go false (l ∷ ls) = (record { content = b ∷ l.content; ended = l.ended }, gather tidied ls, ap (λ (ks : List Line). ks ++ gather tidied ls) (tidied_same (b ∷ l.content) l.ended h (λ _. omega arith)))

pub pieces_some : (text : Bytes) (at : ℕ) → at < length text → is_space (get_or text at 0) ≡ false → (l : Line) × (ls : List Line) × (pieces (drop at text) ≡ l ∷ ls)
pieces_some text at h c =
    let p = first_some (get_or text at 0) (drop (suc at) text) c in
    (p.0, p.1, ap pieces (drop-cons text at 0 h) ∙ p.2)
