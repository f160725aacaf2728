-- The line text that three published texts stand for.
use mathlib.Core.{Path.◌≡◌, Bool.Bool, Bool.true, Bool.false, Bool.◌&&◌, Bool.not, Bool.cond, List.List, List.[], List.◌∷◌, List.◌++◌}
use Prim.Native.{Nat.ℕ, Nat.◌+◌, Nat.◌-◌, Nat.◌≤◌, Char.code}
use lib.{Dec.leb, ListN.length}
use Rattle.limits.specs.Limits.{line_bytes, text_bytes}
use Rattle.ground.specs.Lists.{any, every, gather}
use Rattle.paper.specs.Statement.{WrittenTerm, Written, Pair, bits, modulo, Statement, ring, input, goal, lin, del, ext}
use Rattle.paper.specs.Grammar.{Bytes, bytes, got, stuck}
use Rattle.paper.specs.Answer.{Answer}
use Rattle.paper.specs.Spelling.{spell_number}
use Rattle.paper.specs.Published.{NamedItem}
use Rattle.paper.specs.Named.{numbering, bad_name, Texts, named_items, all_names, published_statements}

-- ---- a polynomial as it is written
unfoldable pub write_term : WrittenTerm → Bytes
write_term t = cond t.negative (code "-" ∷ []) [] ++ (spell_number t.magnitude ++ gather (λ v. code "." ∷ spell_number v) t.variables)

unfoldable pub write_field : Written → Bytes
write_field [] = bytes "0"
write_field (t ∷ ts) = write_term t ++ gather (λ u. code " " ∷ write_term u) ts

-- ---- a statement as a line: its keyword, and its fields, each behind a tab
abbrev pub tab_number : ℕ → Bytes
tab_number n = code "\t" ∷ spell_number n

abbrev pub tab_field : Written → Bytes
tab_field p = code "\t" ∷ write_field p

unfoldable pub tab_pairs : List Pair → Bytes
tab_pairs qs = gather (λ q. tab_number q.index ++ tab_field q.factor) qs

unfoldable pub write_line : Statement → Bytes
write_line st = elim st [ ring r ↦ bytes "ring" ++ tab_number (bits r) | input i p ↦ bytes "in" ++ (tab_number i ++ tab_field p) | goal p ↦ bytes "goal" ++ tab_field p | lin i p qs ↦ bytes "lin" ++ (tab_number i ++ (tab_field p ++ tab_pairs qs)) | del i ↦ bytes "del" ++ tab_number i | ext i v p ↦ bytes "ext" ++ (tab_number i ++ (tab_number v ++ tab_field p)) ]

unfoldable pub end_line : Statement → Bytes
end_line st = write_line st ++ (code "\n" ∷ [])

-- ---- the ring's line, and those of the statements
unfoldable pub line_text : ℕ → Texts → Bytes
line_text k t = gather end_line (ring (modulo k) ∷ published_statements t)

-- ---- texts that a line text stands for: every statement can be read, no name is bad, and nothing is too long
unfoldable pub is_read : NamedItem → Bool
is_read i = not i.long && elim i.reads [ got st r ↦ true | stuck r ↦ false ]

unfoldable pub short_line : Statement → Bool
short_line st = leb (length (write_line st)) line_bytes

pub record HasLineText (k : ℕ) (t : Texts) : Type 0 where
  pub statements : every is_read (named_items t) ≡ true
  pub names : any (bad_name (numbering (all_names t))) (all_names t) ≡ false
  pub lines : every short_line (ring (modulo k) ∷ published_statements t) ≡ true
  pub texts : length t.constraints + length t.target + length t.proof ≤ text_bytes
  pub text : length (line_text k t) ≤ text_bytes

-- an answer whose line counts from the ring's, without it
unfoldable pub one_less : Answer → Answer
one_less a = record { verdict = a.verdict; line = a.line - 1; index = a.index; products = a.products; polynomials = a.polynomials; terms = a.terms }
