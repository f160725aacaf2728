-- LPAC as it is published: constraints, target and proof, three texts with k beside them; what they say, and the answer.
use mathlib.Core.{Bool.Bool, Bool.true, Bool.false, Bool.◌&&◌, Bool.◌||◌, Bool.not, Bool.cond, List.List, List.[], List.◌∷◌, List.map}
use Prim.Native.{Nat.ℕ, Nat.zero, Nat.suc, Nat.◌-◌, Char.code}
use lib.{Dec.eqb, Dec.leb, Dec.ltb, ListN.length}
use Rattle.limits.specs.Limits.{line_bytes}
use Rattle.ground.specs.Lists.{gather}
use Rattle.paper.specs.Statement.{TermOf, WrittenOf, PairOf, StatementOf, input, goal, lin, del, ext}
use Rattle.paper.specs.Grammar.{Bytes, Line, ended_by, Read, got, stuck, Reader, next, ◌>>=◌, ◌>>◌, give, literal, end, each, is_digit, digits, as_written, if_ended}

-- ---- tokens, each with the white space behind it
unfoldable pub is_space : ℕ → Bool
is_space b = eqb b (code "\t") || eqb b (code "\n") || eqb b (code "\r") || eqb b (code " ")

unfoldable pub is_letter : ℕ → Bool
is_letter b = (leb (code "a") b && leb b (code "z")) || (leb (code "A") b && leb b (code "Z"))

unfoldable pub spaces : Reader (Unit {0})
spaces [] = got tt []
spaces (b ∷ s) = cond (is_space b) (spaces s) (got tt (b ∷ s))

abbrev pub token : {A : Type 0} → Reader A → Reader A
token read = do x ← read; spaces; give x

-- a sign
abbrev pub symbol : ℕ → Reader (Unit {0})
symbol c = token (literal (c ∷ []))

-- digits, taken by value: leading zeros are in the grammar
unfoldable pub constant : Reader ℕ
constant [] = stuck []
constant (b ∷ s) = cond (is_digit b) (token (digits (b - code "0")) s) (stuck (b ∷ s))

-- a letter, then letters and digits
abbrev pub Name : Type 0
Name = Bytes

unfoldable pub name_rest : Reader Name
name_rest [] = got [] []
name_rest (b ∷ s) = cond (is_letter b || is_digit b) (next (name_rest s) (λ n r. got (b ∷ n) r)) (got [] (b ∷ s))

unfoldable pub name : Reader Name
name [] = stuck []
name (b ∷ s) = cond (is_letter b) (next (name_rest s) (λ n. token (give (b ∷ n)))) (stuck (b ∷ s))

-- ---- polynomials: a monomial is a constant, names, or both, joined by *
abbrev pub more_names : Reader (List Name)
more_names = each (code "*") (do spaces; name)

unfoldable pub monomial : Bool → Reader (TermOf Name)
monomial minus [] = stuck []
monomial minus (b ∷ s) =
    let behind_constant : Read (TermOf Name) = (do m ← constant; ns ← more_names; give (record { negative = minus; magnitude = m; variables = ns })) (b ∷ s) in
    let of_names : Read (TermOf Name) = (do n ← name; ns ← more_names; give (record { negative = minus; magnitude = 1; variables = n ∷ ns })) (b ∷ s) in
    cond (is_digit b) behind_constant of_names

-- whether a - stands first
unfoldable pub minus : Reader Bool
minus [] = got false []
minus (b ∷ s) = cond (eqb b (code "-")) ((do spaces; give true) s) (got false (b ∷ s))

-- as many as follow, n at the most, each behind a + or a -
unfoldable pub up_to_monomials : ℕ → Reader (List (TermOf Name))
up_to_monomials zero s = got [] s
up_to_monomials (suc n) [] = got [] []
up_to_monomials (suc n) (b ∷ s) =
    let more : Read (List (TermOf Name)) = (do spaces; m ← monomial (eqb b (code "-")); ms ← up_to_monomials n; give (m ∷ ms)) s in
    cond (eqb b (code "+") || eqb b (code "-")) more (got [] (b ∷ s))

abbrev pub more_monomials : Reader (List (TermOf Name))
more_monomials = λ s. up_to_monomials (length s) s

-- one constant of value 0 without a sign is the zero polynomial
unfoldable pub poly : Reader (WrittenOf Name)
poly = do n ← minus; m ← monomial n; ms ← more_monomials; give (as_written m ms)

-- ---- statements
abbrev pub Named : Type 0
Named = StatementOf Name

unfoldable pub constraint : Reader Named
constraint = do i ← constant; p ← poly; give (input i p)

unfoldable pub target : Reader Named
target = do p ← poly; give (goal p)

-- an omitted factor is 1
abbrev pub one : WrittenOf Name
one = record { negative = false; magnitude = 1; variables = [] } ∷ []

unfoldable pub factor : Reader (WrittenOf Name)
factor [] = got one []
factor (b ∷ s) = cond (eqb b (code "*")) ((do spaces; symbol (code "("); q ← poly; symbol (code ")"); give q) s) (got one (b ∷ s))

unfoldable pub summand : Reader (PairOf Name)
summand = do i ← constant; q ← factor; give (record { index = i; factor = q })

abbrev pub more_summands : Reader (List (PairOf Name))
more_summands = each (code "+") (do spaces; summand)

abbrev pub pair_of : ℕ → WrittenOf Name → PairOf Name
pair_of j q = record { index = j; factor = q }

-- the pairs of a linear combination, of PAC's sum and of its product
unfoldable pub summands : Reader (List (PairOf Name))
summands = do q ← summand; qs ← more_summands; give (q ∷ qs)

unfoldable pub addends : Reader (List (PairOf Name))
addends = do j ← constant; symbol (code ","); l ← constant; give (pair_of j one ∷ pair_of l one ∷ [])

unfoldable pub multiplied : Reader (List (PairOf Name))
multiplied = do j ← constant; symbol (code ","); q ← poly; give (pair_of j q ∷ [])

-- behind an id and a sign: pairs and the polynomial stated, nothing, or a variable and its polynomial
abbrev pub linear : Reader (List (PairOf Name)) → ℕ → Reader Named
linear pairs i = do qs ← pairs; symbol (code ","); p ← poly; give (lin i p qs)

abbrev pub delete : ℕ → Reader Named
delete i = give (del i)

abbrev pub extend : ℕ → Reader Named
extend i = do v ← name; symbol (code ","); p ← poly; give (ext i v p)

-- the sign and what it stands for; no two signs are the same
abbrev pub Rule : Type 0
Rule = ℕ × (ℕ → Reader Named)

unfoldable pub step_rules : List Rule
step_rules = (code "%", linear summands) ∷ (code "d", delete) ∷ (code "=", extend) ∷ (code "+", linear addends) ∷ (code "*", linear multiplied) ∷ []

unfoldable pub rule_of : List Rule → ℕ → Reader Named
rule_of [] i s = stuck s
rule_of (r ∷ rs) i [] = stuck []
rule_of (r ∷ rs) i (b ∷ s) = let read : Read Named = (do spaces; r.1 i) s in cond (eqb b r.0) read (rule_of rs i (b ∷ s))

unfoldable pub proof_step : Reader Named
proof_step = do i ← constant; rule_of step_rules i

-- ---- the statements of a text: from the first byte that is not white space up to its ; behind the last ; white space alone is none
unfoldable pub after_spaces : Bytes → Bytes
after_spaces [] = []
after_spaces (b ∷ s) = cond (is_space b) (after_spaces s) (b ∷ s)

unfoldable pub if_some : Line → List Line
if_some l = cond (not l.ended && eqb (length l.content) 0) [] (l ∷ [])

unfoldable pub pieces : Bytes → List Line
pieces text = gather (λ l. if_some (record { content = after_spaces l.content; ended = l.ended })) (ended_by (code ";") text)

pub record NamedItem : Type 0 where
  pub long : Bool
  pub reads : Read Named

unfoldable pub read_by : Reader Named → Line → NamedItem
read_by read l = record { long = ltb line_bytes (length l.content); reads = if_ended l.ended ((do st ← read; end; give st) l.content) }

-- a second statement in the target has bad form
unfoldable pub target_items : List Line → List NamedItem
target_items [] = []
target_items (l ∷ ls) = read_by target l ∷ map (read_by (λ s. stuck s)) ls
