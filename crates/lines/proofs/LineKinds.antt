-- From what was read behind a keyword to a line of its kind, from the kinds to any line, and from there to an item. Assumes nothing.
use mathlib.Core.Path.{◌≡◌, refl, sym, ap, ◌∙◌, subst}
use mathlib.Core.Bool.{Bool, true, false, not}
use mathlib.Core.List.{List, [], ◌∷◌}
use Prim.Native.Nat.{ℕ, ◌≤◌, ◌<◌}
use native.Mathlib.Omega.{arith}
use lib.ListN.{length, drop}
use borrow.Author.Tests.{lt-ltb, le-ltb, ne_eqb}
use Rattle.std.specs.Prelude.{Some, None, Result, Ok, Err, IsErrAnd, slice_get}
use Rattle.limits.specs.Limits.{line_bytes}
use Rattle.limits.specs.Verdicts.{ACCEPTED, NUMBER, TERMS}
use Rattle.limits.specs.Refusals.{number_of}
use Rattle.limits.specs.declared.refusal.Refusal.{Refusal}
use Rattle.limits.specs.declared.refusal.Refusal.TheVariants.{LongLine, Form}
use Rattle.words.specs.Parts.{Within}
use Rattle.words.proofs.Parts.{within_refl}
use Rattle.paper.specs.Grammar.{Bytes, bytes, Line, Read, got, stuck, Reader, next, give, literal, end, LineKind, whole_line, kinds, begins_alike, one_of, statement}
use Rattle.paper.specs.Statement.{Statement, numbers_in_range}
use Rattle.paper.specs.Rules.{first, Store}
use Rattle.paper.specs.Answer.{written_in, item_of}
use Rattle.paper.proofs.Reading.{next_assoc}
use Rattle.reader.specs.Places.{Fails}
use Rattle.reader.specs.declared.stop.Stop.{Stop}
use Rattle.reader.proofs.Following.{end_not, end_here}
use Rattle.reader.proofs.Verdicts.{verdict_accepted}
use Rattle.scratch.specs.Scratch.{goal_at}
use Rattle.steps.specs.declared.said.Said.{Said}
use Rattle.steps.specs.Items.{Means, long, stops, turns, passes, ItemIs}
use Rattle.lines.specs.Parts.{Taken, keyed}
use Rattle.lines.specs.Lines.{LineTaken, LineIs, KindIs, short_item}
use Rattle.lines.specs.declared.read.LineRead.{LineRead}
use Rattle.lines.proofs.Statements.{few_in_fields, verdict_written}

-- ---- a line of one kind: its keyword with its fields, and then the end
abbrev pub headed_by : LineKind → Reader Statement
headed_by kind = keyed kind.0 kind.1

closing : (kind : LineKind) (s : Bytes) → whole_line kind s ≡ next (headed_by kind s) (λ st t. next (end t) (λ _. give st))
closing kind s = sym (next_assoc (literal kind.0 s) (λ _. kind.1) (λ st t. next (end t) (λ _. give st)))

module _ {k : ℕ} {store : Store} (kind : LineKind) {s : Bytes} {words words' : List ℕ} (kept : Within 0 goal_at words words') where
  pub kind_taken : (r : LineRead) → Taken (headed_by kind) numbers_in_range few_in_fields (λ st. Means k store words' st r.said) s 0 r.end r.why → KindIs k store kind s words words' (Ok r)
  kind_taken r t = record {
    said = record {
      value = t.value;
      taken = closing kind s ∙ ap (λ (x : Read Statement). next x (λ st t. next (end t) (λ _. give st))) t.taken.reads;
      inside = t.taken.inside;
      verdict = t.verdict ∙ sym (verdict_written t.value);
      holds = t.holds;
    };
    kept = kept;
  }

  pub kind_stops : {e : Stop} → Fails (headed_by kind) s 0 e.at → (r : Result LineRead Stop) → IsErrAnd r (λ d. d ≡ e) → KindIs k store kind s words words' r
  kind_stops f (Ok r) h = absurd h
  kind_stops f (Err d) h = record {
    said = closing kind s ∙ ap (λ (x : Read Statement). next x (λ st t. next (end t) (λ _. give st))) f.reads ∙ ap (λ (d : Stop). stuck (drop d.at s)) (sym h);
    kept = kept;
  }

-- ---- any line: the first byte settles the kind
abbrev line_of : Bytes → Bool → Line
line_of s ended = record { content = s; ended = ended }

pub kind_of : (s : Bytes) (b : ℕ) (kind : LineKind) → ((w : Bytes) → one_of kinds (b ∷ w) ≡ whole_line kind (b ∷ w)) → slice_get s 0 ≡ Some b → one_of kinds s ≡ whole_line kind s
kind_of [] b kind f e = cc
kind_of (a ∷ s) b kind f e = let q : b ≡ a = cc in subst (λ (c : ℕ). one_of kinds (c ∷ s) ≡ whole_line kind (c ∷ s)) q (f s)

pub no_kind : (s : Bytes) (b : ℕ) → slice_get s 0 ≡ Some b → (b ≡ 114 → ⊥) → (b ≡ 105 → ⊥) → (b ≡ 103 → ⊥) → (b ≡ 108 → ⊥) → (b ≡ 100 → ⊥) → (b ≡ 101 → ⊥) → one_of kinds s ≡ stuck s
unfolding kinds one_of begins_alike bytes
no_kind [] b q r i g l d e = cc
no_kind (a ∷ s) b q r i g l d e =
    let none : one_of kinds (b ∷ s) ≡ stuck (b ∷ s) = rw (ne_eqb b 114 r, ne_eqb b 105 i, ne_eqb b 103 g, ne_eqb b 108 l, ne_eqb b 100 d, ne_eqb b 101 e) in
    let same : b ≡ a = cc in
    subst (λ (c : ℕ). one_of kinds (c ∷ s) ≡ stuck (c ∷ s)) same none

pub empty_kind : (s : Bytes) → slice_get s 0 ≡ None → one_of kinds s ≡ stuck s
unfolding kinds one_of begins_alike bytes
empty_kind [] e = refl
empty_kind (a ∷ s) e = cc

module _ {k : ℕ} {store : Store} (s : Bytes) {words : List ℕ} where
  pub kind_line : {words' : List ℕ} {r : Result LineRead Stop} (b : ℕ) (kind : LineKind) → ((w : Bytes) → one_of kinds (b ∷ w) ≡ whole_line kind (b ∷ w)) → slice_get s 0 ≡ Some b
      → KindIs k store kind s words words' r → LineIs k store (statement (line_of s true)) s words words' r
  unfolding statement
  kind_line {words'} {r} b kind f e x = subst (λ (y : Read Statement). LineIs k store y s words words' r) (sym (kind_of s b kind f e)) x

  pub no_line : one_of kinds s ≡ stuck s → LineIs k store (statement (line_of s true)) s words words (Err (record { at = 0 }))
  unfolding statement
  no_line e = record { said = e; kept = within_refl }

-- ---- as an item: a line that stops
module _ {k : ℕ} {store : Store} {reads : Read Statement} {words words' : List ℕ} (kept : Within 0 goal_at words words') where
  pub line_stops : (t : Bytes) → reads ≡ stuck t → ItemIs k store (short_item reads) words words' (Err Form)
  line_stops t e = record { tells = stops refl t e refl; kept = kept }

  -- one that was taken
  module _ {s : Bytes} (r : LineRead) (t : LineTaken k store reads s words' r) where
    pub line_below : r.why ≤ 17
    unfolding first
    line_below = subst (λ (v : ℕ). v ≤ 17) (sym (t.verdict ∙ verdict_written t.value)) (go (numbers_in_range t.value) (few_in_fields t.value))
      where
        go : (a b : Bool) → first ((NUMBER, not a) ∷ (TERMS, not b) ∷ []) ≤ 17
        go false b = omega arith
        go true false = omega arith
        go true true = omega arith

    pub line_short : r.end < length s → ItemIs k store (short_item reads) words words' (Err Form)
    line_short h = line_stops (drop r.end s) (t.taken ∙ ap (λ (x : Read (Unit {0})). next x (λ _. give t.value)) (end_not s r.end h).reads)

    module _ (h : length s ≤ r.end) where
      all_read : reads ≡ got t.value (drop r.end s)
      all_read = t.taken ∙ ap (λ (x : Read (Unit {0})). next x (λ _. give t.value)) (end_here s r.end h t.inside).reads

      as_written : written_in reads ≡ r.why
      as_written = ap written_in all_read ∙ sym t.verdict

      pub line_turned : (why : Refusal) → number_of why ≡ r.why → (q : Result Said Refusal) → IsErrAnd q (λ d. d ≡ why) → ItemIs k store (short_item reads) words words' q
      line_turned why v (Ok x) e = absurd e
      line_turned why v (Err d) e = record { tells = turns refl t.value (drop r.end s) all_read d refl (ap number_of e ∙ v ∙ sym as_written); kept = kept }

      pub line_stands : ACCEPTED ≡ r.why → ItemIs k store (short_item reads) words words' (Ok r.said)
      line_stands a =
          let v = verdict_accepted (numbers_in_range t.value) (few_in_fields t.value) (sym (t.verdict ∙ verdict_written t.value) ∙ sym a) in
          record { tells = passes refl t.value (drop r.end s) all_read (as_written ∙ sym a) v r.said refl (t.holds (sym a)); kept = kept }

-- ---- too long or not, ended or not
module _ {k : ℕ} {store : Store} (s : Bytes) {words : List ℕ} where
  pub long_line : (ended : Bool) → line_bytes < length s → ItemIs k store (item_of (line_of s ended)) words words (Err LongLine)
  unfolding item_of
  long_line ended h = record { tells = long (lt-ltb line_bytes (length s) h) refl; kept = within_refl }

  module _ (h : length s ≤ line_bytes) where
    short_line : (ended : Bool) {words' : List ℕ} {r : Result Said Refusal} → ItemIs k store (short_item (statement (line_of s ended))) words words' r
        → ItemIs k store (item_of (line_of s ended)) words words' r
    unfolding item_of
    short_line ended x = rw (le-ltb line_bytes (length s) h) x

    pub ended_line : {words' : List ℕ} {r : Result Said Refusal} (ended : Bool) → ended ≡ true → ItemIs k store (short_item (statement (line_of s true))) words words' r
        → ItemIs k store (item_of (line_of s ended)) words words' r
    ended_line ended e x = rw e (short_line true x)

    pub unended_line : (ended : Bool) → ended ≡ false → ItemIs k store (item_of (line_of s ended)) words words (Err Form)
    unfolding statement
    unended_line ended e = let x = short_of (one_of kinds s) in rw e (short_line false (line_stops within_refl x.0 x.1))
      where
        short_of : (x : Read Statement) → (t : Bytes) × (next {B = Statement} x (λ st r. stuck r) ≡ stuck t)
        short_of (got y t) = (t, refl)
        short_of (stuck t) = (t, refl)
