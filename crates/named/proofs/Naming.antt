-- Names read one after the other: which of them are bad, what is held then, and that numbers stay when more names come. Assumes nothing.
use mathlib.Core.Path.{◌≡◌, refl, sym, ap, ap₂, subst, ◌∙◌}
use mathlib.Core.Bool.{Bool, true, false, ◌||◌, not}
use mathlib.Core.List.{List, [], ◌∷◌, ◌++◌, map}
use mathlib.Core.Logic.{⊎_elim}
use Rattle.std.proofs.Math.Bool.{or-false, or_assoc}
use Prim.Native.Nat.{ℕ, ◌+◌, ◌<◌}
use native.Mathlib.Omega.{arith}
use lib.Dec.{ltb}
use lib.ListN.{length}
use borrow.Author.Tests.{ltb-true, not-false}
use Rattle.std.specs.Prelude.{Option, Some, None, is_none}
use Rattle.ground.specs.Lists.{any, gather}
use Rattle.ground.proofs.Tests.{split, cond_yes, cond_no, or_none_left, or_none_right}
use Rattle.limits.specs.Limits.{name_bytes, variables}
use Rattle.paper.specs.Statement.{TermOf, WrittenOf, PairOf, Written, ring, input, goal, lin, del, ext, is_variable, renamed_term, renamed_field, renamed_pair, renamed}
use Rattle.paper.specs.Published.{Name, Named}
use Rattle.paper.specs.Named.{names_of, names_in, is_plain, same_name, place_in, with_names}
use Rattle.paper.proofs.Names.{never, name_same, is_in, in_append, place_out, place_append, with_old, with_new, with_append, place_kept, name_comes}
use Rattle.paper.proofs.PlainSpelled.{plain_variable}
use Rattle.names.specs.Names.{number_by, bad_by, names_with}
use Rattle.names.specs.Numbered.{held_by, NumberFor, NumberedIs}
use Rattle.names.specs.declared.numbering.Numbering.{Numbering}
use Rattle.named.specs.Reads.{NamesAre, number_in}

-- ---- what f and g give alike for every name of some
pub in_first : (m : Name) (ns : List Name) → is_in (m ∷ ns) m ≡ true
unfolding any
in_first m ns = ap (λ (b : Bool). b || is_in ns m) (name_same m m refl)

or_right : (a b : Bool) → b ≡ true → (a || b) ≡ true
or_right true b e = refl
or_right false b e = e

in_more : (m : Name) (ns : List Name) (n : Name) → is_in ns n ≡ true → is_in (m ∷ ns) n ≡ true
unfolding any
in_more m ns n e = or_right (same_name m n) (is_in ns n) e

abbrev pub Alike : {B : Type 0} → (Name → B) → (Name → B) → List Name → Type 0
Alike f g ns = (n : Name) → is_in ns n ≡ true → f n ≡ g n

map_alike : {B : Type 0} (f g : Name → B) (ns : List Name) → Alike f g ns → map f ns ≡ map g ns
map_alike f g [] h = refl
map_alike f g (n ∷ ns) h = ap₂ ◌∷◌ (h n (in_first n ns)) (map_alike f g ns (λ m e. h m (in_more n ns m e)))

any_map : (f : Name → Bool) (ns : List Name) → any f ns ≡ any (λ b. b) (map f ns)
unfolding any
any_map f [] = refl
any_map f (n ∷ ns) = ap (λ (b : Bool). f n || b) (any_map f ns)

pub any_alike : (f g : Name → Bool) (ns : List Name) → Alike f g ns → any f ns ≡ any g ns
any_alike f g ns h = any_map f ns ∙ ap (any (λ b. b)) (map_alike f g ns h) ∙ sym (any_map g ns)

pub any_append : (f : Name → Bool) (ns os : List Name) → any f (ns ++ os) ≡ (any f ns || any f os)
unfolding any
any_append f [] os = refl
any_append f (n ∷ ns) os = ap (λ (b : Bool). f n || b) (any_append f ns os) ∙ sym (or_assoc (f n) (any f ns) (any f os))

-- the names of both parts of a row
alike_left : {B : Type 0} (f g : Name → B) (ns os : List Name) → Alike f g (ns ++ os) → Alike f g ns
alike_left f g ns os h n e = h n (in_append ns os n ∙ ap (λ (b : Bool). b || is_in os n) e)

alike_right : {B : Type 0} (f g : Name → B) (ns os : List Name) → Alike f g (ns ++ os) → Alike f g os
alike_right f g ns os h n e = h n (in_append ns os n ∙ or_right (is_in ns n) (is_in os n) e)

term_alike : (f g : Name → ℕ) (t : TermOf Name) → Alike f g t.variables → renamed_term f t ≡ renamed_term g t
unfolding renamed_term
term_alike f g t h = λ i. record { negative = t.negative; magnitude = t.magnitude; variables = map_alike f g t.variables h i }

field_alike : (f g : Name → ℕ) (p : WrittenOf Name) → Alike f g (names_of p) → renamed_field f p ≡ renamed_field g p
unfolding renamed_field names_of gather
field_alike f g [] h = refl
field_alike f g (t ∷ p) h =
    ap₂ ◌∷◌ (term_alike f g t (alike_left f g t.variables (names_of p) h)) (field_alike f g p (alike_right f g t.variables (names_of p) h))

pairs_alike : (f g : Name → ℕ) (qs : List (PairOf Name)) → Alike f g (gather (λ q. names_of q.factor) qs) → map (renamed_pair f) qs ≡ map (renamed_pair g) qs
unfolding renamed_pair gather
pairs_alike f g [] h = refl
pairs_alike f g (q ∷ qs) h =
    let ns : List Name = names_of q.factor in
    let os : List Name = gather (λ q. names_of q.factor) qs in
    ap₂ ◌∷◌ (λ i. record { index = q.index; factor = field_alike f g q.factor (alike_left f g ns os h) i }) (pairs_alike f g qs (alike_right f g ns os h))

pub statement_alike : (f g : Name → ℕ) (st : Named) → Alike f g (names_in st) → renamed f st ≡ renamed g st
unfolding renamed names_in
statement_alike f g (ring r) h = refl
statement_alike f g (input i p) h = ap (input i) (field_alike f g p h)
statement_alike f g (goal p) h = ap (λ (q : Written). goal q) (field_alike f g p h)
statement_alike f g (lin i p qs) h =
    let ns : List Name = gather (λ q. names_of q.factor) qs in
    ap₂ (lin i) (field_alike f g p (alike_right f g ns (names_of p) h)) (pairs_alike f g qs (alike_left f g ns (names_of p) h))
statement_alike f g (del i) h = refl
statement_alike f g (ext i v p) h =
    ap₂ (ext i) (h v (in_first v (names_of p))) (field_alike f g p (λ n e. h n (in_more v (names_of p) n e)))

-- ---- one name: its place does not change when it comes itself
place_self : (ms : List Name) (n : Name) → place_in (with_names ms (n ∷ [])) n ≡ place_in ms n
unfolding place_in
place_self ms n =
    ⊎_elim
    (λ e. ap (λ (l : List Name). place_in l n) (with_old ms n e))
    (λ e. ap (λ (l : List Name). place_in l n) (with_new ms n e) ∙ place_append ms (n ∷ []) n ∙ cond_no (is_in ms n) (place_in ms n) (length ms + place_in (n ∷ []) n) e
    ∙ omega (arith, place_out ms n e, cond_yes {A = ℕ} (same_name n n) 0 1 (name_same n n refl)))
    (split (is_in ms n))

number_self : (plain : Bool) (ms : List Name) (n : Name) → number_by plain (names_with plain ms (n ∷ [])) n ≡ number_by plain ms n
number_self true ms n = refl
number_self false ms n = place_self ms n

bad_self : (plain : Bool) (ms : List Name) (n : Name) → bad_by plain (names_with plain ms (n ∷ [])) n ≡ bad_by plain ms n
bad_self true ms n = refl
bad_self false ms n = ap (λ (i : ℕ). ltb name_bytes (length n) || not (is_variable i)) (place_self ms n)

-- ---- names that come behind ns change nothing of them
pub numbers_with : (plain : Bool) (ms ns os : List Name) → Alike (number_by plain (names_with plain (names_with plain ms ns) os)) (number_by plain (names_with plain ms ns)) ns
numbers_with true ms ns os n e = refl
numbers_with false ms ns os n e = place_kept (with_names ms ns) os n (name_comes ms ns n e)

pub bad_with : (plain : Bool) (ms ns os : List Name) → Alike (bad_by plain (names_with plain (names_with plain ms ns) os)) (bad_by plain (names_with plain ms ns)) ns
bad_with true ms ns os n e = refl
bad_with false ms ns os n e = ap (λ (i : ℕ). ltb name_bytes (length n) || not (is_variable i)) (place_kept (with_names ms ns) os n (name_comes ms ns n e))

with_then : (plain : Bool) (ms ns os : List Name) → names_with plain ms (ns ++ os) ≡ names_with plain (names_with plain ms ns) os
with_then true ms ns os = refl
with_then false ms ns os = with_append ms ns os

with_none : (plain : Bool) (ms : List Name) → ms ≡ names_with plain ms []
unfolding with_names
with_none true ms = refl
with_none false ms = refl

-- ---- the same of lists: ks are held behind ms, and a name of ns is bad or none is
record Came (plain : Bool) (ms ks ns : List Name) (bad : Bool) : Type 0 where
  some : bad ≡ any (bad_by plain (names_with plain ms ns)) ns
  holds : bad ≡ false → ks ≡ names_with plain ms ns

module _ (plain : Bool) {ms ks ls ns os : List Name} {b c : Bool} (p : Came plain ms ks ns b) (q : Came plain ks ls os c) where
  -- held behind both
  both : b ≡ false → names_with plain ks os ≡ names_with plain ms (ns ++ os)
  both e = ap (λ (l : List Name). names_with plain l os) (p.holds e) ∙ sym (with_then plain ms ns os)

  came_then : Came plain ms ls (ns ++ os) (b || c)
  came_then = record {
    some = sym (any_append bad ns os ∙ ap (λ (a : Bool). a || any bad os) (sym old) ∙ go b refl);
    holds = λ e. q.holds (or_none_right b c e) ∙ both (or_none_left b c e);
  }
    where
      bad : Name → Bool
      bad = bad_by plain (names_with plain ms (ns ++ os))

      old : b ≡ any bad ns
      old = p.some ∙ sym (ap (λ (l : List Name). any (bad_by plain l) ns) (with_then plain ms ns os) ∙ any_alike _ _ ns (bad_with plain ms ns os))

      go : (t : Bool) → b ≡ t → (t || any bad os) ≡ (t || c)
      go true e = refl
      go false e = sym (q.some ∙ ap (λ (l : List Name). any (bad_by plain l) os) (both e))

  came_stays : b ≡ false → c ≡ false → Alike (number_by plain ls) (number_by plain ks) ns
  came_stays e f s i =
      ap (λ (l : List Name). number_by plain l s) (q.holds f ∙ both e ∙ with_then plain ms ns os) ∙ numbers_with plain ms ns os s i
      ∙ ap (λ (l : List Name). number_by plain l s) (sym (p.holds e))

-- ---- the same, read
pub names_none : (m : Numbering) → NamesAre m m [] false
unfolding any
names_none m = record { plain = refl; some = refl; holds = λ _. with_none m.plain (held_by m) }

pub number_variable : (plain : Bool) (ms : List Name) (s : Name) → bad_by plain ms s ≡ false → is_variable (number_by plain ms s) ≡ true
number_variable true ms s e = plain_variable s (not-false (is_plain s) e)
number_variable false ms s e = not-false (is_variable (place_in ms s)) (or_none_right (ltb name_bytes (length s)) (not (is_variable (place_in ms s))) e)

module _ (old new : Numbering) (s : Name) where
  -- a name's number is a variable
  record OneIs (r : Option ℕ) : Type 0 where
    bad : is_none r ≡ bad_by old.plain (held_by old) s
    number : (v : ℕ) → r ≡ Some v → v ≡ number_by old.plain (held_by old) s
    fits : (v : ℕ) → r ≡ Some v → v < variables
    holds : is_none r ≡ false → held_by new ≡ names_with old.plain (held_by old) (s ∷ [])

  one_is : (r : Option ℕ) → NumberFor old new s r → OneIs r
  unfolding is_variable
  one_is None h = record { bad = sym h.0; number = λ v e. absurd (none_some e); fits = λ v e. absurd (none_some e); holds = λ e. never e }
    where
      none_some : {v : ℕ} → ◌≡◌ {A = Option ℕ} None (Some v) → ⊥
      none_some e = (cc)
  one_is (Some w) h = record {
    bad = sym h.0;
    number = λ v e. sym (same e) ∙ h.1;
    fits = λ v e. omega (arith, same e, h.1, ltb-true (number_by old.plain (held_by old) s) variables (number_variable old.plain (held_by old) s h.0));
    holds = λ e. h.2;
  }
    where
      same : {v : ℕ} → ◌≡◌ {A = Option ℕ} (Some w) (Some v) → w ≡ v
      same e = (cc)

  module _ (r : Option ℕ) (h : NumberedIs old new s r) where
    one : OneIs r
    one = one_is r h.number

    pub names_one : NamesAre old new (s ∷ []) (is_none r)
    unfolding any
    names_one = record {
      plain = h.plain;
      some = one.bad ∙ sym (bad_self old.plain (held_by old) s) ∙ sym (or-false (bad_by old.plain (names_with old.plain (held_by old) (s ∷ [])) s));
      holds = one.holds;
    }

    pub number_fits : (v : ℕ) → r ≡ Some v → v < variables
    number_fits = one.fits

    pub number_one : (v : ℕ) → r ≡ Some v → v ≡ number_in new s
    number_one v e =
        let f : is_none r ≡ false = ap is_none e in
        one.number v e ∙ sym (number_self old.plain (held_by old) s) ∙ ap₂ (λ (t : Bool) (l : List Name). number_by t l s) (sym h.plain) (sym (one.holds f))

module _ {old mid new : Numbering} {ns os : List Name} {b c : Bool} (p : NamesAre old mid ns b) (q : NamesAre mid new os c) where
  came : Came old.plain (held_by old) (held_by mid) ns b
  came = record { some = p.some; holds = p.holds }

  comes : Came old.plain (held_by mid) (held_by new) os c
  comes = subst (λ (t : Bool). Came t (held_by mid) (held_by new) os c) p.plain (record { some = q.some; holds = q.holds })

  pub names_then : NamesAre old new (ns ++ os) (b || c)
  names_then = let r = came_then old.plain came comes in record { plain = q.plain ∙ p.plain; some = r.some; holds = r.holds }

  -- numbers stay
  pub number_stays : b ≡ false → c ≡ false → Alike (number_in new) (number_in mid) ns
  number_stays e f s i =
      ap (λ (t : Bool). number_by t (held_by new) s) (q.plain ∙ p.plain) ∙ came_stays old.plain came comes e f s i ∙ ap (λ (t : Bool). number_by t (held_by mid) s) (sym p.plain)

  pub numbers_stay : b ≡ false → c ≡ false → map (number_in new) ns ≡ map (number_in mid) ns
  numbers_stay e f = map_alike _ _ ns (number_stays e f)

module _ {old mid new : Numbering} {os : List Name} {b c : Bool} where
  pub term_stays : (t : TermOf Name) → NamesAre old mid t.variables b → NamesAre mid new os c → b ≡ false → c ≡ false
      → renamed_term (number_in new) t ≡ renamed_term (number_in mid) t
  term_stays t p q e f = term_alike _ _ t (number_stays p q e f)

  pub field_stays : (w : WrittenOf Name) → NamesAre old mid (names_of w) b → NamesAre mid new os c → b ≡ false → c ≡ false
      → renamed_field (number_in new) w ≡ renamed_field (number_in mid) w
  field_stays w p q e f = field_alike _ _ w (number_stays p q e f)

  pub pairs_stay : (qs : List (PairOf Name)) → NamesAre old mid (gather (λ q. names_of q.factor) qs) b → NamesAre mid new os c → b ≡ false → c ≡ false
      → map (renamed_pair (number_in new)) qs ≡ map (renamed_pair (number_in mid)) qs
  pairs_stay qs p q e f = pairs_alike _ _ qs (number_stays p q e f)
