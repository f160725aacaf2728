-- The lines of a text, and how each is read from left to right.
use mathlib.Core.{Bool.Bool, Bool.true, Bool.false, Bool.cond, Bool.◌&&◌, Bool.not, List.List, List.[], List.◌∷◌}
use Prim.Native.{Nat.ℕ, Nat.zero, Nat.suc, Nat.◌+◌, Nat.◌-◌, Nat.◌*◌, String.String, String.[] as nil, String.◌∷◌ as cons, Char.code}
use lib.{Dec.eqb, Dec.leb, ListN.length}
use Rattle.paper.specs.Statement.{TermOf, WrittenOf, WrittenTerm, Written, Pair, modulo, Statement, ring, input, goal, lin, del, ext}

-- ---- a text is a list of bytes; each of its lines ends with byte 10
abbrev pub Bytes : Type 0
Bytes = List ℕ

-- the bytes of a quoted text
unfoldable pub bytes : String → Bytes
bytes nil = []
bytes (cons c s) = code c ∷ bytes s

-- a line without its byte 10; only the last can lack one
pub record Line : Type 0 where
  pub content : Bytes
  pub ended : Bool

unfoldable pub on_first : ℕ → List Line → List Line
on_first b [] = record { content = b ∷ []; ended = false } ∷ []
on_first b (l ∷ ls) = record { content = b ∷ l.content; ended = l.ended } ∷ ls

-- what is ended by the byte c
unfoldable pub ended_by : ℕ → Bytes → List Line
ended_by c [] = []
ended_by c (b ∷ s) = let rest : List Line = ended_by c s in cond (eqb b c) (record { content = []; ended = true } ∷ rest) (on_first b rest)

unfoldable pub lines : Bytes → List Line
lines s = ended_by (code "\n") s

-- ---- readers: what was read and the bytes left, or the bytes from the first that no well-formed line with this beginning has
pub data Read (A : Type 0) : Type 0 where
  got : A → Bytes → Read A
  stuck : Bytes → Read A

abbrev pub Reader : Type 0 → Type 0
Reader A = Bytes → Read A

abbrev pub next : {A B : Type 0} → Read A → (A → Reader B) → Read B
next (got a s) f = f a s
next (stuck s) f = stuck s

-- one reader after the other
abbrev pub ◌>>=◌ : {A B : Type 0} → Reader A → (A → Reader B) → Reader B
◌>>=◌ r f = λ s. next (r s) f

abbrev pub ◌>>◌ : {A B : Type 0} → Reader A → Reader B → Reader B
◌>>◌ r q = λ s. next (r s) (λ _. q)

abbrev pub give : {A : Type 0} → A → Reader A
give a = λ s. got a s

unfoldable pub literal : Bytes → Reader (Unit {0})
literal [] s = got tt s
literal (c ∷ w) [] = stuck []
literal (c ∷ w) (b ∷ s) = cond (eqb b c) (literal w s) (stuck (b ∷ s))

unfoldable pub end : Reader (Unit {0})
end [] = got tt []
end (b ∷ s) = stuck (b ∷ s)

-- as many items as follow, n at the most, each behind the byte c
unfoldable pub up_to : {A : Type 0} → ℕ → ℕ → Reader A → Reader (List A)
up_to zero c item s = got [] s
up_to (suc n) c item [] = got [] []
up_to (suc n) c item (b ∷ s) =
    let more : Read (List _) = next (item s) (λ x r. next (up_to n c item r) (λ xs r'. got (x ∷ xs) r')) in
    cond (eqb b c) more (got [] (b ∷ s))

-- there are no more of them than bytes
abbrev pub each : {A : Type 0} → ℕ → Reader A → Reader (List A)
each c item = λ s. up_to (length s) c item s

-- ---- decimals: no leading zero
unfoldable pub is_digit : ℕ → Bool
is_digit b = leb (code "0") b && leb b (code "9")

unfoldable pub digits : ℕ → Reader ℕ
digits n [] = got n []
digits n (b ∷ s) = cond (is_digit b) (digits (n * 10 + (b - code "0")) s) (got n (b ∷ s))

unfoldable pub decimal : Reader ℕ
decimal [] = stuck []
decimal (b ∷ s) = cond (eqb b (code "0")) (got 0 s) (cond (is_digit b) (digits (b - code "0") s) (stuck (b ∷ s)))

-- ---- polynomials: terms joined by one space; a term is an optional -, a magnitude, then any number of .v
unfoldable pub sign : Reader Bool
sign [] = got false []
sign (b ∷ s) = cond (eqb b (code "-")) (got true s) (got false (b ∷ s))

-- the variables behind a magnitude
abbrev pub more_variables : Reader (List ℕ)
more_variables = each (code ".") decimal

unfoldable pub term : Reader WrittenTerm
term = do n ← sign; m ← decimal; vs ← more_variables; give (record { negative = n; magnitude = m; variables = vs })

-- the terms behind a first
abbrev pub more_terms : Reader (List WrittenTerm)
more_terms = each (code " ") term

-- the field `0` is the zero polynomial
unfoldable pub as_written : {A : Type 0} → TermOf A → List (TermOf A) → WrittenOf A
as_written t [] = cond (not t.negative && eqb t.magnitude 0 && elim t.variables [ [] ↦ true | v ∷ vs ↦ false ]) [] (t ∷ [])
as_written t (u ∷ ts) = t ∷ u ∷ ts

unfoldable pub polynomial : Reader Written
polynomial = do t ← term; ts ← more_terms; give (as_written t ts)

-- ---- lines: a keyword, then fields, each behind a tab
unfoldable pub tab : Reader (Unit {0})
tab = literal (bytes "\t")

unfoldable pub number : Reader ℕ
number = do tab; decimal

unfoldable pub field : Reader Written
field = do tab; polynomial

unfoldable pub pair : Reader Pair
pair = do i ← decimal; f ← field; give (record { index = i; factor = f })

-- the pairs behind a first, and one pair or more
abbrev pub more_pairs : Reader (List Pair)
more_pairs = each (code "\t") pair

unfoldable pub pairs : Reader (List Pair)
pairs = do tab; q ← pair; qs ← more_pairs; give (q ∷ qs)

-- ---- the kinds of lines: a keyword and the reader of its fields
abbrev pub LineKind : Type 0
LineKind = Bytes × Reader Statement

abbrev pub ring_line : LineKind
ring_line = (bytes "ring", do k ← number; give (ring (modulo k)))

abbrev pub input_line : LineKind
input_line = (bytes "in", do i ← number; p ← field; give (input i p))

abbrev pub goal_line : LineKind
goal_line = (bytes "goal", do p ← field; give (goal p))

abbrev pub lin_line : LineKind
lin_line = (bytes "lin", do i ← number; p ← field; qs ← pairs; give (lin i p qs))

abbrev pub del_line : LineKind
del_line = (bytes "del", do i ← number; give (del i))

abbrev pub ext_line : LineKind
ext_line = (bytes "ext", do i ← number; v ← number; p ← field; give (ext i v p))

-- no two keywords begin with the same byte
unfoldable pub kinds : List LineKind
kinds = ring_line ∷ input_line ∷ goal_line ∷ lin_line ∷ del_line ∷ ext_line ∷ []

unfoldable pub begins_alike : Bytes → Bytes → Bool
begins_alike [] s = false
begins_alike (c ∷ w) [] = false
begins_alike (c ∷ w) (b ∷ s) = eqb b c

-- a keyword, the fields of its kind, and nothing behind them
abbrev pub whole_line : LineKind → Reader Statement
whole_line k = do literal k.0; st ← k.1; end; give st

-- the kind whose keyword begins as the line does
unfoldable pub one_of : List LineKind → Reader Statement
one_of [] s = stuck s
one_of (k ∷ ks) s = let read : Read Statement = whole_line k s in cond (begins_alike k.0 s) read (one_of ks s)

-- what lacks its end stops short
abbrev pub if_ended : {A : Type 0} → Bool → Read A → Read A
if_ended ended read = cond ended read (next read (λ x r. stuck r))

unfoldable pub statement : Line → Read Statement
statement l = if_ended l.ended (one_of kinds l.content)
