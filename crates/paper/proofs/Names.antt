-- Names: when two are one, their places, and names that come behind others. Assumes nothing.
use mathlib.Core.Path.{◌≡◌, refl, sym, ap, ap₂, ◌∙◌}
use mathlib.Core.Bool.{Bool, true, false, ◌||◌, cond}
use mathlib.Core.List.{List, [], ◌∷◌, ◌++◌}
use mathlib.Core.Logic.{⊎_elim}
use Prim.Native.Nat.{ℕ, suc, ◌+◌, ◌≤◌, ◌<◌}
use native.Mathlib.Nat.{not-suc-le-zero}
use native.Mathlib.Numerals.{add-one}
use native.Mathlib.Omega.{arith}
use lib.Dec.{eqb, ltb}
use lib.ListN.{length, drop, get_or, length-append, get_or-append}
use lib.Seq.{drop-cons, drop-length, get_or_at}
use borrow.Author.Tests.{eqb-true, eq-eqb, ltb-true, ltb-false}
use Rattle.ground.specs.Lists.{any}
use Rattle.ground.proofs.Tests.{split, by_cond, cond_yes, cond_no, and_left, and_right, and_both, or_cases, or_none_left, or_none_right}
use Rattle.paper.specs.Published.{Name}
use Rattle.paper.specs.Named.{same_name, place_in, with_names}

-- ---- the test is equality of bytes
pub never : {A : Type 0} → true ≡ false → A
never e = absurd (let z : ◌≡◌ {A = ℕ} 0 1 = cc in let y : ⊥ = omega arith in y)

pub same_name_law : (m n : Name) → same_name m n ≡ true → m ≡ n
unfolding same_name
same_name_law [] [] e = refl
same_name_law [] (c ∷ n) e = never (sym e)
same_name_law (b ∷ m) [] e = never (sym e)
same_name_law (b ∷ m) (c ∷ n) e = ap₂ ◌∷◌ (eqb-true b c (and_left (eqb b c) (same_name m n) e)) (same_name_law m n (and_right (eqb b c) (same_name m n) e))

same_self : (n : Name) → same_name n n ≡ true
unfolding same_name
same_self [] = refl
same_self (b ∷ n) = and_both (eqb b b) (same_name n n) (eq-eqb b b refl) (same_self n)

pub name_same : (m n : Name) → m ≡ n → same_name m n ≡ true
name_same m n e = ap (λ (l : Name). same_name l n) e ∙ same_self n

pub name_other : (m n : Name) → (m ≡ n → ⊥) → same_name m n ≡ false
name_other m n d = ⊎_elim (λ e. absurd (d (same_name_law m n e))) (λ e. e) (split (same_name m n))

-- ---- places
abbrev pub is_in : List Name → Name → Bool
is_in ms n = any (λ m. same_name m n) ms

pub in_append : (ms ns : List Name) (n : Name) → is_in (ms ++ ns) n ≡ (is_in ms n || is_in ns n)
unfolding any
in_append [] ns n = refl
in_append (m ∷ ms) ns n = go (same_name m n) (in_append ms ns n)
  where
    go : (b : Bool) → is_in (ms ++ ns) n ≡ (is_in ms n || is_in ns n) → (b || is_in (ms ++ ns) n) ≡ ((b || is_in ms n) || is_in ns n)
    go true ih = refl
    go false ih = ih

pub place_in_law : (ms : List Name) (n : Name) → is_in ms n ≡ true → place_in ms n < length ms
unfolding any place_in
place_in_law [] n e = never (sym e)
place_in_law (m ∷ ms) n e = go (same_name m n) e (place_in_law ms n)
  where
    go : (b : Bool) → (b || is_in ms n) ≡ true → (is_in ms n ≡ true → place_in ms n < length ms) → cond b 0 (suc (place_in ms n)) < suc (length ms)
    go true e ih = omega arith
    go false e ih = let l = ih e in omega arith

-- the place of a name that is none of them is behind them
pub place_out : (ms : List Name) (n : Name) → is_in ms n ≡ false → place_in ms n ≡ length ms
unfolding any place_in
place_out [] n e = refl
place_out (m ∷ ms) n e =
    rw (or_none_left (same_name m n) (is_in ms n) e) (ap suc (place_out ms n (or_none_right (same_name m n) (is_in ms n) e)))

-- the place tells which it is
pub in_by_place : (ms : List Name) (n : Name) → place_in ms n < length ms → is_in ms n ≡ true
in_by_place ms n l = ⊎_elim (λ t. t) (λ t. absurd (let z : ⊥ = omega (arith, place_out ms n t) in z)) (split (is_in ms n))

pub out_by_place : (ms : List Name) (n : Name) → length ms ≤ place_in ms n → is_in ms n ≡ false
out_by_place ms n e = ⊎_elim (λ t. absurd (let z : ⊥ = omega (arith, place_in_law ms n t) in z)) (λ t. t) (split (is_in ms n))

pub place_append : (ms ns : List Name) (n : Name) → place_in (ms ++ ns) n ≡ cond (is_in ms n) (place_in ms n) (length ms + place_in ns n)
unfolding any place_in
place_append [] ns n = omega arith
place_append (m ∷ ms) ns n = go (same_name m n) (is_in ms n) (place_append ms ns n)
  where
    go : (b d : Bool) → place_in (ms ++ ns) n ≡ cond d (place_in ms n) (length ms + place_in ns n)
        → cond b 0 (suc (place_in (ms ++ ns) n)) ≡ cond (b || d) (cond b 0 (suc (place_in ms n))) (suc (length ms) + place_in ns n)
    go true d ih = refl
    go false true ih = ap suc ih
    go false false ih = omega arith

-- at its place stands the name
pub name_at : (ms : List Name) (n : Name) → is_in ms n ≡ true → get_or ms (place_in ms n) [] ≡ n
unfolding any place_in
name_at [] n e = never (sym e)
name_at (m ∷ ms) n e = go (same_name m n) refl e (name_at ms n)
  where
    go : (b : Bool) → same_name m n ≡ b → (b || is_in ms n) ≡ true → (is_in ms n ≡ true → get_or ms (place_in ms n) [] ≡ n) → get_or (m ∷ ms) (cond b 0 (suc (place_in ms n))) [] ≡ n
    go true s e ih = same_name_law m n s
    go false s e ih = ih e

-- a search from the front: the place is behind the first i, none of which is the name
module _ (ms : List Name) (n : Name) (i : ℕ) (e : place_in ms n ≡ i + place_in (drop i ms) n) where
  pub place_here : i < length ms → same_name (get_or ms i []) n ≡ true → place_in ms n ≡ i
  unfolding place_in
  place_here h s = e ∙ rw (drop-cons ms i [] h, s) (omega arith)

  pub place_further : i < length ms → same_name (get_or ms i []) n ≡ false → place_in ms n ≡ i + 1 + place_in (drop (i + 1) ms) n
  unfolding place_in
  place_further h s =
      let d : place_in (drop i ms) n ≡ suc (place_in (drop (suc i) ms) n) = rw (drop-cons ms i [] h, s) in
      rw (add-one i) (omega arith)

  pub place_behind : i ≡ length ms → place_in ms n ≡ i
  unfolding place_in
  place_behind h = let d : drop i ms ≡ [] = ap (λ (k : ℕ). drop k ms) h ∙ drop-length ms in e ∙ rw d (omega arith)

-- ---- names that come behind others
pub with_old : (ms : List Name) (n : Name) → is_in ms n ≡ true → with_names ms (n ∷ []) ≡ ms
unfolding with_names
with_old ms n e = cond_yes (is_in ms n) ms (ms ++ (n ∷ [])) e

pub with_new : (ms : List Name) (n : Name) → is_in ms n ≡ false → with_names ms (n ∷ []) ≡ ms ++ (n ∷ [])
unfolding with_names
with_new ms n e = cond_no (is_in ms n) ms (ms ++ (n ∷ [])) e

pub with_append : (ms ns os : List Name) → with_names ms (ns ++ os) ≡ with_names (with_names ms ns) os
unfolding with_names
with_append ms [] os = refl
with_append ms (n ∷ ns) os = with_append (with_names ms (n ∷ [])) ns os

-- what holds of ms and stays where one more comes, holds with all of ns
with_each : (P : List Name → Type 0) → ((ms : List Name) (n : Name) → P ms → P (with_names ms (n ∷ []))) → (ms ns : List Name) → P ms → P (with_names ms ns)
unfolding with_names
with_each P one ms [] p = p
with_each P one ms (n ∷ ns) p = with_each P one (with_names ms (n ∷ [])) ns (one ms n p)

in_more : (ms : List Name) (m n : Name) → is_in ms n ≡ true → is_in (ms ++ (m ∷ [])) n ≡ true
in_more ms m n e = rw (in_append ms (m ∷ []) n, e)

-- a name of ms stays in it
stays_one : (n : Name) (ms : List Name) (m : Name) → is_in ms n ≡ true → is_in (with_names ms (m ∷ [])) n ≡ true
unfolding with_names
stays_one n ms m e = by_cond (λ (l : List Name). is_in l n ≡ true) (is_in ms m) (λ _. e) (λ _. in_more ms m n e)

pub name_stays : (ms ns : List Name) (n : Name) → is_in ms n ≡ true → is_in (with_names ms ns) n ≡ true
name_stays ms ns n e = with_each (λ (l : List Name). is_in l n ≡ true) (stays_one n) ms ns e

-- at its place
pub place_kept : (ms ns : List Name) (n : Name) → is_in ms n ≡ true → place_in (with_names ms ns) n ≡ place_in ms n
unfolding with_names
place_kept ms ns n e = (with_each (λ (l : List Name). (is_in l n ≡ true) × (place_in l n ≡ place_in ms n)) one ms ns (e, refl)).1
  where
    one : (l : List Name) (m : Name) → (is_in l n ≡ true) × (place_in l n ≡ place_in ms n) → (is_in (with_names l (m ∷ [])) n ≡ true) × (place_in (with_names l (m ∷ [])) n ≡ place_in ms n)
    one l m p =
        by_cond (λ (k : List Name). (is_in k n ≡ true) × (place_in k n ≡ place_in ms n)) (is_in l m) (λ _. p)
        (λ _. (in_more l m n p.0, place_append l (m ∷ []) n ∙ cond_yes (is_in l n) (place_in l n) (length l + place_in (m ∷ []) n) p.0 ∙ p.1))

-- and every name of ns is in it
comes_one : (ms : List Name) (n : Name) → is_in (with_names ms (n ∷ [])) n ≡ true
unfolding any with_names
comes_one ms n = by_cond (λ (l : List Name). is_in l n ≡ true) (is_in ms n) (λ e. e) (λ e. rw (in_append ms (n ∷ []) n, e, same_self n))

pub name_comes : (ms ns : List Name) (n : Name) → is_in ns n ≡ true → is_in (with_names ms ns) n ≡ true
unfolding any with_names
name_comes ms [] n e = never (sym e)
name_comes ms (m ∷ ns) n e =
    ⊎_elim
    (λ s. name_stays (with_names ms (m ∷ [])) ns n (rw (same_name_law m n s) (comes_one ms n)))
    (λ h. name_comes (with_names ms (m ∷ [])) ns n h)
    (or_cases (same_name m n) (is_in ns n) e)

-- ---- each name stands at its place alone
abbrev pub EachOnce : List Name → Type 0
EachOnce ms = (i : ℕ) → i < length ms → place_in ms (get_or ms i []) ≡ i

place_alone : (n : Name) → place_in (n ∷ []) n ≡ 0
unfolding place_in
place_alone n = rw (same_self n)

-- with a new one behind them
once_more : (ms : List Name) (n : Name) → is_in ms n ≡ false → EachOnce ms → EachOnce (ms ++ (n ∷ []))
once_more ms n e a i h = ⊎_elim (λ t. before (ltb-true i (length ms) t)) (λ t. behind (ltb-false i (length ms) t)) (split (ltb i (length ms)))
  where
    before : i < length ms → place_in (ms ++ (n ∷ [])) (get_or (ms ++ (n ∷ [])) i []) ≡ i
    before l =
        let m : Name = get_or ms i [] in
        rw (get_or-append ms (n ∷ []) [] i l)
        (place_append ms (n ∷ []) m ∙ cond_yes (is_in ms m) (place_in ms m) (length ms + place_in (n ∷ []) m) (in_by_place ms m (omega (arith, a i l))) ∙ a i l)

    behind : length ms ≤ i → place_in (ms ++ (n ∷ [])) (get_or (ms ++ (n ∷ [])) i []) ≡ i
    behind l =
        let q : length ms ≡ i = omega (arith, length-append ms (n ∷ [])) in
        rw (get_or_at ms n [] [] i q)
        (place_append ms (n ∷ []) n ∙ cond_no (is_in ms n) (place_in ms n) (length ms + place_in (n ∷ []) n) e ∙ omega (arith, place_alone n))

once_one : (ms : List Name) (n : Name) → EachOnce ms → EachOnce (with_names ms (n ∷ []))
unfolding with_names
once_one ms n a = by_cond EachOnce (is_in ms n) (λ _. a) (λ e. once_more ms n e a)

pub once_with : (ms ns : List Name) → EachOnce ms → EachOnce (with_names ms ns)
once_with ms ns a = with_each EachOnce once_one ms ns a

pub names_once : (ns : List Name) → EachOnce (with_names [] ns)
names_once ns = once_with [] ns (λ i h. absurd (not-suc-le-zero h))
