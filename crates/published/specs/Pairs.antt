-- What is read of the pairs of a linear combination in published texts, with the numbers of names.
use Rattle.std.specs.Prelude.{◌≡◌, Bool, false, ◌&&◌, ◌||◌, not, cond, List, [], ◌∷◌, ◌++◌, map, ℕ, ◌+◌, ◌*◌, eqb, Result}
use Prim.Native.Char.{code}
use Rattle.limits.specs.Limits.{field_terms, term_words}
use Rattle.limits.specs.Verdicts.{ACCEPTED, NUMBER}
use Rattle.ground.specs.Lists.{every, gather}
use Rattle.words.specs.Parts.{Within}
use Rattle.paper.specs.Grammar.{Bytes, Reader, ◌>>=◌, ◌>>◌, give}
use Rattle.paper.specs.Statement.{WrittenOf, PairOf, Pair, renamed_field, renamed_pair, is_index, in_range, too_many_terms}
use Rattle.paper.specs.Rules.{Store}
use Rattle.paper.specs.Published.{Name, spaces, symbol, constant, poly, one, pair_of, summands, addends, multiplied}
use Rattle.paper.specs.Named.{names_of}
use Rattle.written.specs.Worded.{Holds}
use Rattle.reader.specs.Places.{Got, StopsOr}
use Rattle.reader.specs.Verdicts.{verdict_of, lesser_of}
use Rattle.reader.specs.declared.stop.Stop.{Stop}
use Rattle.names.specs.declared.numbering.Numbering.{Numbering}
use Rattle.named.specs.Reads.{NamesAre, number_in}
use Rattle.named.specs.declared.poly.PolyRead.{PolyRead}
use Rattle.scratch.specs.Scratch.{factor_at, goal_at, Kept}
use Rattle.sums.specs.Sums.{Summed}
use Rattle.published.specs.declared.pairs.IdRead.{IdRead}
use Rattle.published.specs.declared.pairs.SummandRead.{SummandRead}
use Rattle.published.specs.declared.combination.SumRead.{SumRead}

-- ---- an id
pub record IdAt (s : Bytes) (at : ℕ) (r : IdRead) : Type 0 where
  pub value : ℕ
  pub taken : Got constant s at value r.end
  pub verdict : r.why ≡ cond (is_index value) ACCEPTED NUMBER
  pub word : r.why ≡ ACCEPTED → r.value ≡ value

abbrev pub IdIs : Bytes → ℕ → Result IdRead Stop → Type 0
IdIs s at r = StopsOr constant s at (IdAt s at) r

-- ---- the two tests of what is written: a number is an id or a coefficient here, whatever numbers names have
unfoldable pub field_ranged : WrittenOf Name → Bool
field_ranged q = in_range (renamed_field (λ n. 0) q)

unfoldable pub field_few : WrittenOf Name → Bool
field_few q = not (too_many_terms (renamed_field (λ n. 0) q))

unfoldable pub summand_ranged : PairOf Name → Bool
summand_ranged q = is_index q.index && field_ranged q.factor

unfoldable pub summand_few : PairOf Name → Bool
summand_few q = field_few q.factor

-- ---- x is read from at up to e, with its verdict and its names, and P holds of it by their numbers where nothing refuses it and none of them is bad
pub record NamedAt {A : Type 0} (read : Reader A) (ranged few : A → Bool) (names : A → List Name) (P : (Name → ℕ) → A → Type 0)
    (old new : Numbering) (s : Bytes) (at e why : ℕ) (bad : Bool) : Type 0 where
  pub value : A
  pub taken : Got read s at value e
  pub verdict : why ≡ verdict_of (ranged value) (few value)
  pub holds : why ≡ ACCEPTED → bad ≡ false → P (number_in new) value
  pub named : NamesAre old new (names value) bad

-- ---- a polynomial in the region from word base on
abbrev pub PlacedAt : ℕ → Reader (WrittenOf Name) → Numbering → Numbering → Bytes → ℕ → List ℕ → PolyRead → Type 0
PlacedAt base read old new s at words' r =
    NamedAt read field_ranged field_few names_of (λ f q. Holds (renamed_field f q) r.terms base words') old new s at r.end r.why r.bad

pub record PlacedIs (base : ℕ) (read : Reader (WrittenOf Name)) (old new : Numbering) (s : Bytes) (at : ℕ) (words words' : List ℕ) (r : Result PolyRead Stop) : Type 0 where
  pub said : StopsOr read s at (PlacedAt base read old new s at words') r
  pub kept : Within base (base + field_terms * term_words) words words'

-- in the factor's
abbrev pub FactorAt : Reader (WrittenOf Name) → Numbering → Numbering → Bytes → ℕ → List ℕ → PolyRead → Type 0
FactorAt = PlacedAt factor_at

abbrev pub FactorIs : Reader (WrittenOf Name) → Numbering → Numbering → Bytes → ℕ → List ℕ → List ℕ → Result PolyRead Stop → Type 0
FactorIs = PlacedIs factor_at

-- behind a *
abbrev pub in_parentheses : Reader (WrittenOf Name)
in_parentheses = do spaces; symbol (code "("); q ← poly; symbol (code ")"); give q

-- ---- a pair, its factor in the factor's region
abbrev pub SummandAt : Reader (PairOf Name) → Numbering → Numbering → Bytes → ℕ → List ℕ → SummandRead → Type 0
SummandAt read old new s at words' r =
    NamedAt read summand_ranged summand_few (λ q. names_of q.factor) (λ f q. (r.index ≡ q.index) × Holds (renamed_field f q.factor) r.terms factor_at words')
    old new s at r.end r.why r.bad

pub record SummandIs (read : Reader (PairOf Name)) (old new : Numbering) (s : Bytes) (at : ℕ) (words words' : List ℕ) (r : Result SummandRead Stop) : Type 0 where
  pub said : StopsOr read s at (SummandAt read old new s at words') r
  pub kept : Within factor_at goal_at words words'

-- the one of PAC's product, and those of its sum
abbrev pub multiplied_pair : Reader (PairOf Name)
multiplied_pair = do j ← constant; symbol (code ","); q ← poly; give (pair_of j q)

abbrev pub id_pair : Reader (PairOf Name)
id_pair = do j ← constant; give (pair_of j one)

-- ---- no pairs
pub record NoPairs (x : SumRead) : Type 0 where
  pub why : x.why ≡ ACCEPTED
  pub bad : x.bad ≡ false
  pub summed : (k : ℕ) (store : Store) (words : List ℕ) → Summed k store [] words x.sum

-- ---- one pair more behind those of x: r but for the sum
pub record Behind (x : SumRead) (q : SummandRead) (r : SumRead) : Type 0 where
  pub end : r.end ≡ q.end
  pub why : r.why ≡ lesser_of x.why q.why
  pub bad : r.bad ≡ (x.bad || q.bad)

pub record AddedAt (k : ℕ) (store : Store) (read : Reader (PairOf Name)) (old new : Numbering) (s : Bytes) (at : ℕ) (words words' : List ℕ) (x r : SumRead) : Type 0 where
  pub value : PairOf Name
  pub taken : Got read s at value r.end
  pub verdict : r.why ≡ lesser_of x.why (verdict_of (summand_ranged value) (summand_few value))
  pub own : Bool
  pub some : r.bad ≡ (x.bad || own)
  pub named : NamesAre old new (names_of value.factor) own
  pub summed : r.why ≡ ACCEPTED → r.bad ≡ false → (qs : List Pair) → Summed k store qs words x.sum
      → Summed k store (qs ++ (renamed_pair (number_in new) value ∷ [])) words' r.sum

pub record AddedIs (k : ℕ) (store : Store) (read : Reader (PairOf Name)) (old new : Numbering) (s : Bytes) (at : ℕ) (words words' : List ℕ) (x : SumRead) (r : Result SumRead Stop) : Type 0 where
  pub said : StopsOr read s at (AddedAt k store read old new s at words words' x) r
  pub kept : Kept words words'

-- the pair of an id alone, whose factor is 1
pub record OneAdded (k : ℕ) (store : Store) (i : IdRead) (words words' : List ℕ) (x r : SumRead) : Type 0 where
  pub behind : Behind x (record { index = i.value; terms = 1; end = i.end; why = i.why; bad = false }) r
  pub summed : r.why ≡ ACCEPTED → r.bad ≡ false → (f : Name → ℕ) (qs : List Pair) → Summed k store qs words x.sum
      → Summed k store (qs ++ (renamed_pair f (pair_of i.value one) ∷ [])) words' r.sum
  pub kept : Kept words words'

-- ---- pairs, with their sum over a store at k
abbrev pub SumAt : ℕ → Store → Reader (List (PairOf Name)) → Numbering → Numbering → Bytes → ℕ → List ℕ → SumRead → Type 0
SumAt k store pairs old new s at words' r =
    NamedAt pairs (every summand_ranged) (every summand_few) (gather (λ q. names_of q.factor)) (λ f qs. Summed k store (map (renamed_pair f) qs) words' r.sum)
    old new s at r.end r.why r.bad

pub record SumIs (k : ℕ) (store : Store) (pairs : Reader (List (PairOf Name))) (old new : Numbering) (s : Bytes) (at : ℕ) (words words' : List ℕ) (r : Result SumRead Stop) : Type 0 where
  pub said : StopsOr pairs s at (SumAt k store pairs old new s at words') r
  pub kept : Kept words words'

-- ---- which pairs stand behind a sign, and the polynomial behind a comma
abbrev pub pairs_behind : ℕ → Reader (List (PairOf Name))
pairs_behind b = cond (eqb b (code "%")) summands (cond (eqb b (code "+")) addends multiplied)

abbrev pub comma_poly : Reader (WrittenOf Name)
comma_poly = do symbol (code ","); poly
