-- The paper's numbers, each once. `src/lib.rt` has those that the code needs.
use Rattle.std.specs.Prelude.{ℕ, ◌+◌, ◌*◌}

-- ---- the width: a set of variables in 64-bit words, and a term, which is its set and then its coefficient
abbrev pub set_words : ℕ
set_words = 5

abbrev pub term_words : ℕ
term_words = set_words + 1

abbrev pub variables : ℕ
variables = 64 * set_words

-- ---- what a number may be
abbrev pub greatest_ring : ℕ
greatest_ring = 64

abbrev pub greatest_index : ℕ
greatest_index = 4294967295

abbrev pub greatest_magnitude : ℕ
greatest_magnitude = 18446744073709551615

-- ---- how much a text may hold
abbrev pub text_bytes : ℕ
text_bytes = 1048576

abbrev pub line_bytes : ℕ
line_bytes = 8192

abbrev pub name_bytes : ℕ
name_bytes = 31

abbrev pub field_terms : ℕ
field_terms = 96

abbrev pub stored_polynomials : ℕ
stored_polynomials = 512

abbrev pub line_products : ℕ
line_products = 1024

-- ---- the lent room, in 64-bit words
abbrev pub least_pool : ℕ
least_pool = field_terms * term_words

abbrev pub most_pool_terms : ℕ
most_pool_terms = 65536

-- the products of a line, and three fields
abbrev pub least_scratch : ℕ
least_scratch = (line_products + 3 * field_terms) * term_words

abbrev pub least_spelling_scratch : ℕ
least_spelling_scratch = field_terms * term_words

-- ---- what the host call and the check program lend, and the longest text they take
abbrev pub host_pool : ℕ
host_pool = 8000

abbrev pub host_scratch : ℕ
host_scratch = least_scratch

abbrev pub host_text_bytes : ℕ
host_text_bytes = 65536
