-- A step of a proof from its id, its sign and what stands behind it, and any statement from its kind. Assumes nothing.
use mathlib.Core.Path.{◌≡◌, refl, sym, ap, subst, ◌∙◌}
use mathlib.Core.Bool.{Bool, true, false}
use mathlib.Core.List.{List, ◌∷◌}
use mathlib.Core.Logic.{⊎_elim}
use Prim.Native.Nat.{ℕ, ◌+◌, ◌≤◌, ◌<◌}
use native.Mathlib.Numerals.{add-one}
use native.Mathlib.Omega.{arith}
use lib.Dec.{eqb}
use lib.ListN.{length, drop, get_or, drop_of_length-le}
use lib.Seq.{drop-cons}
use borrow.Author.Tests.{eqb-true, eqb-false, ne_eqb, lt-ltb, le-ltb}
use Rattle.std.proofs.Common.{Result, Err}
use Rattle.ground.proofs.Tests.{split}
use Rattle.limits.specs.Limits.{line_bytes}
use Rattle.limits.specs.declared.refusal.Refusal.{Refusal}
use Rattle.limits.specs.declared.refusal.Refusal.TheVariants.{LongLine, Form}
use Rattle.words.specs.Parts.{Within}
use Rattle.words.proofs.Parts.{within_refl}
use Rattle.paper.specs.Grammar.{Bytes, Line, Read, got, stuck, Reader, next, give, end}
use Rattle.paper.specs.Statement.{PairOf}
use Rattle.paper.specs.Rules.{Store}
use Rattle.paper.specs.Published.{Name, Named, summands, addends, multiplied, spaces, constant, linear, delete, extend, step_rules, rule_of, proof_step, constraint, target, read_by}
use Rattle.reader.specs.Places.{Got, Fails}
use Rattle.reader.specs.declared.stop.Stop.{Stop}
use Rattle.reader.proofs.Following.{fails_first}
use Rattle.names.specs.declared.numbering.Numbering.{Numbering}
use Rattle.scratch.specs.Scratch.{goal_at}
use Rattle.published.specs.Pairs.{SumIs, pairs_behind}
use Rattle.published.specs.Statements.{reader_of, NamedTells, long, stops, NamedItemIs, whole, item_at, WholeIs}
use Rattle.published.specs.declared.combination.SumRead.{SumRead}
use Rattle.published.specs.declared.statement.StatementRead.{StatementRead}
use Rattle.published.proofs.Commas.{stops_as}

-- ---- signs
abbrev Behind : ℕ → ℕ → (ℕ → Reader Named) → Type 0
Behind j b rule = (w : Bytes) → rule_of step_rules j (b ∷ w) ≡ next (spaces w) (λ _. rule j)

pub sign_delete : (j : ℕ) {b : ℕ} → b ≡ 100 → Behind j b delete
unfolding rule_of step_rules
sign_delete j e = subst (λ (c : ℕ). Behind j c delete) (sym e) (λ w. refl)

pub sign_extend : (j : ℕ) {b : ℕ} → b ≡ 61 → Behind j b extend
unfolding rule_of step_rules
sign_extend j e = subst (λ (c : ℕ). Behind j c extend) (sym e) (λ w. refl)

-- the three of pairs
abbrev pub Linear : ℕ → Type 0
Linear b = (j : ℕ) → Behind j b (linear (pairs_behind b))

pub sign_linear : (b : ℕ) → ((b ≡ 37 → ⊥) → (b ≡ 43 → ⊥) → (b ≡ 42 → ⊥) → ⊥) → Linear b
unfolding rule_of step_rules
sign_linear b e =
    ⊎_elim (λ x. subst Linear (sym (eqb-true b 37 x)) (λ j w. refl)) (λ x.
    ⊎_elim (λ y. subst Linear (sym (eqb-true b 43 y)) (λ j w. refl)) (λ y.
    ⊎_elim (λ z. subst Linear (sym (eqb-true b 42 z)) (λ j w. refl)) (λ z.
    absurd (e (eqb-false b 37 x) (eqb-false b 43 y) (eqb-false b 42 z)))
    (split (eqb b 42))) (split (eqb b 43))) (split (eqb b 37))

-- the pairs behind them
pub sum_as : {k : ℕ} {store : Store} {old new : Numbering} {s : Bytes} {at : ℕ} {words words' : List ℕ} {pairs others : Reader (List (PairOf Name))} (r : Result SumRead Stop) → others ≡ pairs
    → SumIs k store pairs old new s at words words' r → SumIs k store others old new s at words words' r
sum_as {k} {store} {old} {new} {s} {at} {words} {words'} r e h = subst (λ (pairs : Reader (List (PairOf Name))). SumIs k store pairs old new s at words words' r) (sym e) h

module _ {b : ℕ} where
  pub pairs_summed : b ≡ 37 → pairs_behind b ≡ summands
  pairs_summed e = subst (λ (c : ℕ). pairs_behind c ≡ summands) (sym e) refl

  pub pairs_added : b ≡ 43 → pairs_behind b ≡ addends
  pairs_added e = subst (λ (c : ℕ). pairs_behind c ≡ addends) (sym e) refl

  pub pairs_multiplied : (b ≡ 37 → ⊥) → (b ≡ 43 → ⊥) → pairs_behind b ≡ multiplied
  pairs_multiplied x y = rw (ne_eqb b 37 x, ne_eqb b 43 y)

-- ---- a step
pub step_unread : (s : Bytes) {e : ℕ} → Fails constant s 0 e → Fails proof_step s 0 e
unfolding proof_step
step_unread s f = fails_first constant _ f

module _ (s : Bytes) {j e : ℕ} (g : Got constant s 0 j e) where
  behind_id : proof_step s ≡ rule_of step_rules j (drop e s)
  unfolding proof_step
  behind_id = ap (λ (x : Read ℕ). next x (rule_of step_rules)) g.reads

  pub step_ends : e ≡ length s → Fails proof_step s 0 e
  unfolding rule_of step_rules
  step_ends h = record { reads = behind_id ∙ rw (drop_of_length-le s {i = e} (omega arith)); onward = omega arith; inside = g.inside }

  module _ (h : e < length s) where
    pub step_unknown : (get_or s e 0 ≡ 37 → ⊥) → (get_or s e 0 ≡ 43 → ⊥) → (get_or s e 0 ≡ 42 → ⊥) → (get_or s e 0 ≡ 61 → ⊥) → (get_or s e 0 ≡ 100 → ⊥) → Fails proof_step s 0 e
    unfolding rule_of step_rules
    step_unknown f p t x d =
        let b : ℕ = get_or s e 0 in
        let none : rule_of step_rules j (b ∷ drop (e + 1) s) ≡ stuck (b ∷ drop (e + 1) s) = rw (ne_eqb b 37 f, ne_eqb b 100 d, ne_eqb b 61 x, ne_eqb b 43 p, ne_eqb b 42 t) in
        record { reads = behind_id ∙ subst (λ (w : Bytes). rule_of step_rules j w ≡ stuck w) (sym cons) none; onward = omega arith; inside = g.inside }
      where
        cons : drop e s ≡ get_or s e 0 ∷ drop (e + 1) s
        cons = rw (add-one e) (drop-cons s e 0 h)

    module _ {at : ℕ} (p : Got spaces s (e + 1) tt at) (rule : ℕ → Reader Named) (q : Behind j (get_or s e 0) rule) where
      step_reads : proof_step s ≡ rule j (drop at s)
      step_reads =
          behind_id ∙ ap (rule_of step_rules j) (rw (add-one e) (drop-cons s e 0 h)) ∙ q (drop (e + 1) s) ∙ ap (λ (x : Read (Unit {0})). next x (λ _. rule j)) p.reads

      step_whole : whole proof_step s ≡ whole (rule j) (drop at s)
      step_whole = ap (λ (y : Read Named). next y (λ st t. next (end t) (λ _. give st))) step_reads

      pub step_item : {k : ℕ} {store : Store} {old new : Numbering} {words words' : List ℕ} (r : Result StatementRead Stop)
          → WholeIs k store (rule j) old new s at words words' r → WholeIs k store proof_step old new s 0 words words' r
      step_item {k} {store} {old} {new} {words' = words'} r h = record {
        said = stops_as r h.said (λ e f. record { reads = step_whole ∙ f.reads; onward = omega arith; inside = f.inside })
            (λ x. subst (λ (y : Read Named). NamedTells k store old new (record { long = false; reads = y }) words' x) (sym step_whole));
        kept = h.kept;
      }

-- ---- the kinds
module _ {kind : ℕ} where
  pub kind_constraint : kind ≡ 0 → reader_of kind ≡ constraint
  kind_constraint e = subst (λ (c : ℕ). reader_of c ≡ constraint) (sym e) refl

  pub kind_target : kind ≡ 1 → reader_of kind ≡ target
  kind_target e = subst (λ (c : ℕ). reader_of c ≡ target) (sym e) refl

pub kind_as : {k : ℕ} {store : Store} {read other : Reader Named} {old new : Numbering} {s : Bytes} {at : ℕ} {words words' : List ℕ} {r : Result StatementRead Stop} → other ≡ read
    → WholeIs k store read old new s at words words' r → WholeIs k store other old new s at words words' r
kind_as {k} {store} {old = old} {new} {s} {at} {words} {words'} {r} e h = subst (λ (read : Reader Named). WholeIs k store read old new s at words words' r) (sym e) h

-- ---- too long or not, ended or not
abbrev piece_of : Bytes → Bool → Line
piece_of s ended = record { content = s; ended = ended }

-- a statement of which nothing is taken
abbrev nothing : Refusal → StatementRead
nothing why = record { said = Err why; index = 0; bad = false }

module _ {k : ℕ} {store : Store} (read : Reader Named) (s : Bytes) (ended : Bool) where
  pub piece_long : (names : Numbering) {words : List ℕ} → line_bytes < length s → NamedItemIs k store names names (read_by read (piece_of s ended)) words words (nothing LongLine)
  unfolding read_by
  piece_long names h = record { tells = long (lt-ltb line_bytes (length s) h) refl refl; kept = within_refl }

  module _ (h : length s ≤ line_bytes) where
    pub piece_unended : (names : Numbering) {words : List ℕ} → ended ≡ false → NamedItemIs k store names names (read_by read (piece_of s ended)) words words (nothing Form)
    unfolding read_by
    piece_unended names e =
        let x = short_of (next (read s) (λ st u. next (end u) (λ _. give st))) in
        record { tells = stops (le-ltb line_bytes (length s) h) x.0 (rw e x.1) refl refl; kept = within_refl }
      where
        short_of : (x : Read Named) → (t : Bytes) × (next {B = Named} x (λ st r. stuck r) ≡ stuck t)
        short_of (got y t) = (t, refl)
        short_of (stuck t) = (t, refl)

    module _ {old new : Numbering} {words words' : List ℕ} (e : ended ≡ true) where
      pub piece_ended : {r : StatementRead} → NamedItemIs k store old new (item_at read s 0) words words' r → NamedItemIs k store old new (read_by read (piece_of s ended)) words words' r
      unfolding read_by
      piece_ended x = rw (e, le-ltb line_bytes (length s) h) x

      pub piece_stops : {p : ℕ} → Fails (whole read) s 0 p → Within 0 goal_at words words' → NamedItemIs k store old new (read_by read (piece_of s ended)) words words' (nothing Form)
      piece_stops {p} f w = piece_ended (record { tells = stops refl (drop p s) f.reads refl refl; kept = w })
