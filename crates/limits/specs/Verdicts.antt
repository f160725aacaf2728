-- The verdicts' numbers.
use Rattle.std.specs.Prelude.{ℕ}

abbrev pub ACCEPTED : ℕ
ACCEPTED = 0

abbrev pub SHORT : ℕ
SHORT = 1

abbrev pub LONGTEXT : ℕ
LONGTEXT = 2

abbrev pub LONGLINE : ℕ
LONGLINE = 3

abbrev pub FORM : ℕ
FORM = 4

abbrev pub NUMBER : ℕ
NUMBER = 5

abbrev pub TERMS : ℕ
TERMS = 6

abbrev pub ORDER : ℕ
ORDER = 7

abbrev pub TAKEN : ℕ
TAKEN = 8

abbrev pub MISSING : ℕ
MISSING = 9

abbrev pub SEEN : ℕ
SEEN = 10

abbrev pub PRODUCTS : ℕ
PRODUCTS = 11

abbrev pub MISMATCH : ℕ
MISMATCH = 12

abbrev pub NOTBIT : ℕ
NOTBIT = 13

abbrev pub FULL : ℕ
FULL = 14

abbrev pub NOGOAL : ℕ
NOGOAL = 15

abbrev pub NOTREACHED : ℕ
NOTREACHED = 16

-- of published texts, directly after TERMS
abbrev pub NAMES : ℕ
NAMES = 17
