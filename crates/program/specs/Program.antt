-- How much of a room was filled, what is written for an answer, and the status that a program ends with.
use Rattle.std.specs.Prelude.{◌≡◌, Bool, cond, ℕ, ◌≤◌, List, [], ◌∷◌, ◌++◌, length, take, get_or, Result, Ok, Err}
use Rattle.std.specs.Fmt.{decimal}
use Rattle.program.specs.declared.Cut.{Cut}

-- `&xs[..n]` is in bounds and has n bytes
abbrev pub IsPrefixLen : ℕ → List ℕ → Type 0
IsPrefixLen n xs = (n ≤ length xs) × (n ≡ length (take n xs))

-- how many bytes came, also where a read failed
abbrev pub bytes_of : Result ℕ Cut → ℕ
bytes_of (Ok n) = n
bytes_of (Err e) = e.bytes

-- a number in decimal and the byte behind it
abbrev pub column : ℕ → ℕ → List ℕ
column n behind = decimal n ++ behind ∷ []

-- six numbers on a line, parted by tabs: a tab is byte 9, and byte 10 ends the line
abbrev pub six_columns : ℕ → ℕ → ℕ → ℕ → ℕ → ℕ → List ℕ
six_columns a b c d e f = column a 9 ++ (column b 9 ++ (column c 9 ++ (column d 9 ++ (column e 9 ++ column f 10))))

-- 0 where all was answered, 2 where it was not
abbrev pub status_of : Bool → ℕ
status_of written = cond written 0 2

abbrev pub Status : ℕ → Type 0
Status r = (answered : Bool) × (r ≡ status_of answered)

abbrev pub six_numbers : List ℕ → List ℕ
six_numbers ns = six_columns (get_or ns 0 0) (get_or ns 1 0) (get_or ns 2 0) (get_or ns 3 0) (get_or ns 4 0) (get_or ns 5 0)
