-- Names and constants as they are read, with their numbers. Assumes nothing.
use mathlib.Core.Path.{◌≡◌, refl, sym, ap, ap₂, ◌∙◌}
use mathlib.Core.Bool.{Bool, true, false, ◌||◌, not}
use mathlib.Core.List.{List, [], ◌∷◌, ◌++◌, map}
use mathlib.Core.Logic.{⊎_elim}
use Prim.Native.Nat.{ℕ, suc, ◌+◌, ◌-◌, ◌^◌, ◌≤◌}
use Prim.Native.Char.{code}
use native.Mathlib.Numerals.{add-one}
use native.Mathlib.Omega.{arith}
use lib.Bits.{bit_or, or_comm, or_zero_r}
use lib.ListN.{length, get_or}
use lib.Seq.{drop-cons}
use Rattle.ground.proofs.Tests.{or_none_left, or_none_right}
use Rattle.std.specs.Prelude.{Option, Some, None, is_some, is_none}
use Rattle.algebra.proofs.Unions.{or_assoc}
use Rattle.words.specs.Parts.{part}
use Rattle.words.specs.Words.{number_of}
use Rattle.paper.specs.Grammar.{Bytes, Read, Reader, next, ◌>>◌, give}
use Rattle.paper.specs.Statement.{set_of}
use Rattle.paper.specs.Published.{Name, is_letter, spaces, token, name_rest, name, more_names}
use Rattle.paper.proofs.Names.{never}
use Rattle.paper.proofs.PublishedReading.{name_first, name_not, name_end, takes_factor}
use Rattle.reader.specs.Places.{Got, Fails}
use Rattle.reader.specs.Fields.{stands_at}
use Rattle.reader.proofs.Following.{got_then, got_give, fails_then, ItemsUpTo, passed_none, passed_more, passed_stuck}
use Rattle.reader.proofs.Fields.{stands, set_of_more}
use Rattle.names.specs.Numbered.{NumberedIs}
use Rattle.names.specs.declared.numbering.Numbering.{Numbering}
use Rattle.named.specs.Reads.{is_at, NamesAre, number_in, NameAt}
use Rattle.named.specs.declared.name.NameRead.{NameRead}
use Rattle.named.proofs.Tokens.{is_here, is_not}
use Rattle.named.proofs.Naming.{names_none, names_one, number_one, number_fits, names_then, numbers_stay}

-- ---- one name
module _ (s : Bytes) (at : ℕ) where
  pub no_name : at ≤ length s → is_at is_letter s at ≡ false → Fails name s at at
  no_name l q = record { reads = ⊎_elim (λ h. name_not s at h.0 h.1) (λ h. name_end s at h) (is_not is_letter s at q); onward = omega arith; inside = l }

  name_taken : {e f : ℕ} → is_at is_letter s at ≡ true → Got name_rest s (at + 1) (part (at + 1) (e - (at + 1)) s) e → Got spaces s e tt f → Got name s at (part at (e - at) s) f
  name_taken {e} {f} q g h =
      let k = is_here is_letter s at q in
      let o = g.onward in
      let j = h.onward in
      let w : e - at ≡ suc (e - (at + 1)) = omega arith in
      let d : part at (e - at) s ≡ get_or s at 0 ∷ part (at + 1) (e - (at + 1)) s = rw (w, drop-cons s at 0 k.0, add-one at) in
      let t = got_then spaces _ h (got_give (get_or s at 0 ∷ part (at + 1) (e - (at + 1)) s) h.inside) in
      rw d (record {
        reads = name_first s at k.0 k.1 ∙ ap (λ (r : Read Name). next r (λ n. token (give (get_or s at 0 ∷ n)))) g.reads ∙ t.reads;
        onward = omega arith;
        inside = h.inside;
      })

  pub name_read : (old new : Numbering) (e f : ℕ) (r : Option ℕ) → NumberedIs old new (part at (e - at) s) r → is_at is_letter s at ≡ true
      → Got name_rest s (at + 1) (part (at + 1) (e - (at + 1)) s) e → Got spaces s e tt f → NameAt old new s at (record { number = r; end = f })
  name_read old new e f r h q g k = record {
    value = part at (e - at) s;
    taken = name_taken q g k;
    number = number_one old new (part at (e - at) s) r h;
    fits = number_fits old new (part at (e - at) s) r h;
    names = names_one old new (part at (e - at) s) r h;
  }

-- ---- names behind a first set of variables
pub map_append : {A B : Type 0} (f : A → B) (xs ys : List A) → map f (xs ++ ys) ≡ map f xs ++ map f ys
map_append f [] ys = refl
map_append f (x ∷ xs) ys = ap (λ (l : List _). f x ∷ l) (map_append f xs ys)

abbrev pub next_name : Reader Name
next_name = do spaces; name

-- names stand from at up to i
abbrev pub NamesTo : Numbering → Numbering → Bytes → ℕ → ℕ → List ℕ → Bool → ℕ → Type 0
NamesTo old new s at begin set bad i =
    ItemsUpTo (code "*") next_name (λ ns. (bad ≡ false → number_of set ≡ bit_or begin (set_of (map (number_in new) ns))) × NamesAre old new ns bad) s at i

pub names_start : (m : Numbering) (s : Bytes) (at : ℕ) (set : List ℕ) → at ≤ length s → NamesTo m m s at (number_of set) set false at
unfolding set_of
names_start m s at set l = passed_none (code "*") next_name s at l ((λ _. sym (or_zero_r (number_of set))), names_none m)

-- a set with a name's number
abbrev pub WithNumber : Option ℕ → List ℕ → List ℕ → Type 0
WithNumber number set set' = (v : ℕ) → number ≡ Some v → number_of set' ≡ bit_or (2 ^ v) (number_of set)

-- where `is_none` says so
pub no_number : (o : Option ℕ) (b : Bool) → is_some o ≡ not b → b ≡ is_none o
no_number o true e = sym (ap not e)
no_number o false e = sym (ap not e)

pub numbered : (r : Option ℕ) → is_none r ≡ false → (v : ℕ) × (r ≡ Some v)
numbered None e = never e
numbered (Some v) e = (v, refl)

module _ (old mid : Numbering) (s : Bytes) (at begin : ℕ) (set : List ℕ) (bad : Bool) (i : ℕ)
    (p : NamesTo old mid s at begin set bad i) (here : stands_at s i (code "*") ≡ true) (j : ℕ) (g : Got spaces s (i + 1) tt j) where
  pub names_stuck : {q : ℕ} → Fails name s j q → Fails more_names s at q
  names_stuck f = passed_stuck (code "*") next_name s at i p (stands s i (code "*") here).0 (stands s i (code "*") here).1 (fails_then spaces _ g f)

  pub names_more : (new : Numbering) (v : NameRead) → NameAt mid new s j v → (set' : List ℕ) → WithNumber v.number set set'
      → NamesTo old new s at begin set' (bad || is_none v.number) v.end
  names_more new v h set' w =
      passed_more (code "*") next_name s at i p (stands s i (code "*") here).0 (stands s i (code "*") here).1 takes_factor (got_then spaces _ g h.taken)
      (λ ns k. ((λ e. with_one ns (or_none_left bad (is_none v.number) e) (or_none_right bad (is_none v.number) e) (k.0 (or_none_left bad (is_none v.number) e)) k.1), names_then k.1 h.names))
    where
      with_one : (ns : List Name) → bad ≡ false → is_none v.number ≡ false → number_of set ≡ bit_or begin (set_of (map (number_in mid) ns)) → NamesAre old mid ns bad
          → number_of set' ≡ bit_or begin (set_of (map (number_in new) (ns ++ (h.value ∷ []))))
      with_one ns b c e k =
          let x = numbered v.number c in
          let f = number_in new in
          let old_map : map f ns ≡ map (number_in mid) ns = numbers_stay k h.names b c in
          let more : set_of (map f (ns ++ (h.value ∷ []))) ≡ bit_or (2 ^ x.0) (set_of (map (number_in mid) ns))
          = ap set_of (map_append f ns (h.value ∷ [])) ∙ set_of_more (map f ns) (f h.value) ∙ ap₂ (λ (y : ℕ) (l : List ℕ). bit_or (2 ^ y) (set_of l)) (sym (h.number x.0 x.1)) old_map in
          w x.0 x.1 ∙ ap (bit_or (2 ^ x.0)) e
          ∙ sym (or_assoc (2 ^ x.0) begin (set_of (map (number_in mid) ns)))
          ∙ ap (λ (y : ℕ). bit_or y (set_of (map (number_in mid) ns))) (or_comm (2 ^ x.0) begin)
          ∙ or_assoc begin (2 ^ x.0) (set_of (map (number_in mid) ns))
          ∙ ap (bit_or begin) (sym more)
