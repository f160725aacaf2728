-- Where the statements of a published text start: behind white space, and behind the ; of the one before. Assumes nothing.
use mathlib.Core.Path.{◌≡◌, refl, sym, ap, ◌∙◌}
use mathlib.Core.Bool.{Bool, true, false, ◌&&◌, not, cond}
use mathlib.Core.List.{List, [], ◌∷◌, ◌++◌}
use mathlib.Core.Logic.{⊎_elim}
use Prim.Native.Nat.{ℕ, ◌+◌, ◌-◌, ◌≤◌, ◌<◌}
use native.Mathlib.Omega.{arith}
use lib.Dec.{eqb, ltb}
use lib.ListN.{length, drop, get_or, drop_of_length-le}
use lib.Seq.{get_or-take, get_or-drop}
use borrow.Author.Tests.{eqb-true, ne_eqb, ltb-true, ltb-false}
use Rattle.ground.specs.Lists.{gather}
use Rattle.ground.proofs.Tests.{split}
use Rattle.words.specs.Parts.{part}
use Rattle.words.proofs.Parts.{length_part}
use Rattle.paper.specs.Grammar.{Bytes, Line, on_first, ended_by, got}
use Rattle.paper.specs.Published.{is_space, spaces, after_spaces, if_some, pieces}
use Rattle.paper.proofs.Names.{never}
use Rattle.reader.specs.Places.{Got}
use Rattle.reader.specs.Search.{FirstOrEnd}
use Rattle.reader.proofs.Search.{ended_at, unended_at, next_ended}

-- ---- a piece without the white space before it
abbrev pub tidied : Line → List Line
tidied l = if_some (record { content = after_spaces l.content; ended = l.ended })

none_before : (s : Bytes) → is_space (get_or s 0 0) ≡ false → after_spaces s ≡ s
unfolding after_spaces
none_before [] e = refl
none_before (b ∷ s) e = rw e refl

-- where there is none, it is the piece itself
pub tidied_same : (c : Bytes) (ended : Bool) → is_space (get_or c 0 0) ≡ false → (ended ≡ false → 0 < length c) → tidied (record { content = c; ended = ended }) ≡ record { content = c; ended = ended } ∷ []
unfolding if_some
tidied_same c ended e h = rw (none_before c e) (go ended h)
  where
    go : (b : Bool) → (b ≡ false → 0 < length c) → cond {A = List Line} (not b && eqb (length c) 0) [] (record { content = c; ended = b } ∷ []) ≡ record { content = c; ended = b } ∷ []
    go true h = refl
    go false h = let l = h refl in rw (ne_eqb (length c) 0 (λ z. omega arith)) refl

-- ---- white space before a statement is none of it
space_ends_none : (b : ℕ) → is_space b ≡ true → eqb b 59 ≡ false
unfolding is_space
space_ends_none b e = ⊎_elim (λ t. never (sym e ∙ ap is_space (eqb-true b 59 t))) (λ t. t) (split (eqb b 59))

pieces_behind : (b : ℕ) (s : Bytes) → is_space b ≡ true → pieces (b ∷ s) ≡ pieces s
unfolding pieces ended_by on_first gather if_some after_spaces
pieces_behind b s e = rw (space_ends_none b e) (go (ended_by 59 s))
  where
    go : (ls : List Line) → gather tidied (on_first b ls) ≡ gather tidied ls
    go [] = rw e refl
    go (l ∷ ls) = rw e refl

spaces_passed : (s r : Bytes) → spaces s ≡ got tt r → (pieces s ≡ pieces r) × (is_space (get_or r 0 0) ≡ false)
unfolding spaces is_space
spaces_passed [] r e = let q : [] ≡ r = cc in rw (← q) (refl, refl)
spaces_passed (b ∷ s) r e = go (is_space b) refl e (spaces_passed s r)
  where
    go : (t : Bool) → is_space b ≡ t → cond t (spaces s) (got tt (b ∷ s)) ≡ got tt r → (spaces s ≡ got tt r → (pieces s ≡ pieces r) × (is_space (get_or r 0 0) ≡ false))
        → (pieces (b ∷ s) ≡ pieces r) × (is_space (get_or r 0 0) ≡ false)
    go true q e ih = let h = ih e in (pieces_behind b s q ∙ h.0, h.1)
    go false q e ih = let z : (b ∷ s) ≡ r = cc in rw (← z) (refl, q)

-- ---- by places
module _ (text : Bytes) (at : ℕ) where
  pub no_pieces : length text ≤ at → pieces (drop at text) ≡ []
  unfolding pieces ended_by gather
  no_pieces h = rw (drop_of_length-le text h) refl

  module _ {e : ℕ} (g : Got spaces text at tt e) where
    pub pieces_passed : pieces (drop at text) ≡ pieces (drop e text)
    pieces_passed = (spaces_passed (drop at text) (drop e text) g.reads).0

    -- at e there is no white space, nor past the end
    pub behind_spaces_law : is_space (get_or text e 0) ≡ false
    behind_spaces_law =
        let z : e + 0 ≡ e = omega arith in
        ap is_space (sym (get_or-drop e text 0 0 ∙ ap (λ (k : ℕ). get_or text k 0) z)) ∙ (spaces_passed (drop at text) (drop e text) g.reads).1

  module _ (e : ℕ) (l : at < length text) (s : is_space (get_or text at 0) ≡ false) (f : FirstOrEnd 59 text at e) where
    piece_begins : (b : Bool) → ltb at e ≡ b → is_space (get_or (part at (e - at) text) 0 0) ≡ false
    unfolding is_space
    piece_begins true q =
        let z : at + 0 ≡ at = omega arith in
        let k = ltb-true at e q in
        ap is_space (get_or-take (e - at) (drop at text) 0 0 (omega arith) ∙ get_or-drop at text 0 0 ∙ ap (λ (k : ℕ). get_or text k 0) z) ∙ s
    piece_begins false q = let z : e - at ≡ 0 = omega (arith, ltb-false at e q) in rw z refl

    piece_some : ltb e (length text) ≡ false → 0 < length (part at (e - at) text)
    piece_some q =
        let m = ltb-false e (length text) q in
        let i = f.without.inside in
        omega (arith, length_part at (e - at) text (omega arith))

    pub next_piece : pieces (drop at text) ≡ record { content = part at (e - at) text; ended = ltb e (length text) } ∷ pieces (drop (e + 1) text)
    unfolding pieces gather
    next_piece =
        ap (gather tidied) (next_ended 59 text at e (ended_at 59 text at e f) (unended_at 59 text at e f l))
        ∙ ap (λ (ls : List Line). ls ++ pieces (drop (e + 1) text)) (tidied_same (part at (e - at) text) (ltb e (length text)) (piece_begins (ltb at e) refl) piece_some)
