-- Plain names: each is x and the spelling of its number, so that it is short; and numbers tell names apart. Assumes nothing.
use mathlib.Core.Path.{◌≡◌, refl, sym, ap, ap₂, ◌∙◌}
use mathlib.Core.Bool.{Bool, true, false, cond}
use mathlib.Core.List.{List, [], ◌∷◌, ◌++◌, append-nil, append_assoc}
use mathlib.Core.Logic.{⊎_elim}
use Prim.Native.Nat.{ℕ, ◌+◌, ◌-◌, ◌*◌, ◌/◌, ◌%◌, ◌≤◌, ◌<◌}
use Prim.Native.Char.{code}
use native.Mathlib.Omega.{arith}
use lib.Dec.{eqb, leb}
use lib.ListN.{length, get_or}
use borrow.Author.Tests.{eqb-true, eqb-false, leb-true, ltb-true}
use Rattle.limits.specs.Limits.{name_bytes, variables}
use Rattle.ground.specs.Lists.{any, every}
use Rattle.ground.proofs.Tests.{and_left, and_right, or_cases}
use Rattle.paper.specs.Grammar.{Bytes, bytes, Read, got, stuck, Reader, next, ◌>>=◌, ◌>>◌, give, literal, end, is_digit, digits, decimal}
use Rattle.paper.specs.Statement.{is_variable}
use Rattle.paper.specs.Spelling.{spell_number}
use Rattle.paper.specs.Published.{Name}
use Rattle.paper.specs.Named.{after_x, plain_number, is_plain, same_name, place_in, with_names, numbering}
use Rattle.paper.proofs.Reading.{clash, parted}
use Rattle.paper.proofs.Numbers.{number_small, number_more, number_most}
use Rattle.paper.proofs.Names.{never, same_name_law, is_in, name_at, name_comes}

-- ---- a decimal has no leading zero: it is the spelling of its value
digit_back : (b : ℕ) → is_digit b ≡ true → (code "0" + (b - code "0") ≡ b) × (b - code "0" < 10)
unfolding is_digit
digit_back b e =
    let l = leb-true 48 b (and_left (leb 48 b) (leb b 57) e) in
    let u = leb-true b 57 (and_right (leb 48 b) (leb b 57) e) in
    (omega arith, omega arith)

spelled_more : (v b : ℕ) → 0 < v → is_digit b ≡ true → spell_number (v * 10 + (b - code "0")) ≡ spell_number v ++ (b ∷ [])
spelled_more v b p e =
    let d = digit_back b e in
    let l = d.1 in
    let q : (v * 10 + (b - 48)) / 10 ≡ v = omega arith in
    let r : 48 + (v * 10 + (b - 48)) % 10 ≡ b = omega (arith, d.0) in
    number_more (v * 10 + (b - 48)) (omega arith) ∙ ap₂ (λ (x y : ℕ). spell_number x ++ (y ∷ [])) q r

digits_spelled : (v : ℕ) (s : Bytes) (n : ℕ) (r : Bytes) → 0 < v → digits v s ≡ got n r → spell_number v ++ s ≡ spell_number n ++ r
unfolding digits
digits_spelled v [] n r p e = let q : v ≡ n = cc in let z : [] ≡ r = cc in ap₂ (λ (x : ℕ) (y : Bytes). spell_number x ++ y) q z
digits_spelled v (b ∷ s) n r p e = go (is_digit b) refl e (digits_spelled (v * 10 + (b - code "0")) s n r (omega arith))
  where
    go : (t : Bool) → is_digit b ≡ t → cond t (digits (v * 10 + (b - code "0")) s) (got v (b ∷ s)) ≡ got n r
        → (digits (v * 10 + (b - code "0")) s ≡ got n r → spell_number (v * 10 + (b - code "0")) ++ s ≡ spell_number n ++ r)
        → spell_number v ++ (b ∷ s) ≡ spell_number n ++ r
    go true d e ih = sym (append_assoc (spell_number v) (b ∷ []) s) ∙ ap (λ (l : Bytes). l ++ s) (sym (spelled_more v b p d)) ∙ ih e
    go false d e ih = let q : v ≡ n = cc in let z : (b ∷ s) ≡ r = cc in ap₂ (λ (x : ℕ) (y : Bytes). spell_number x ++ y) q z

decimal_spelled : (s : Bytes) (n : ℕ) (r : Bytes) → decimal s ≡ got n r → s ≡ spell_number n ++ r
unfolding decimal
decimal_spelled [] n r e = absurd (clash e)
decimal_spelled (b ∷ s) n r e = go (eqb b (code "0")) (is_digit b) refl refl e
  where
    go : (t u : Bool) → eqb b (code "0") ≡ t → is_digit b ≡ u → cond t (got 0 s) (cond u (digits (b - code "0") s) (stuck (b ∷ s))) ≡ got n r
        → b ∷ s ≡ spell_number n ++ r
    go true u z d e =
        let q : 0 ≡ n = cc in
        let y : s ≡ r = cc in
        ap₂ ◌∷◌ (eqb-true b 48 z) y ∙ ap (λ (l : Bytes). l ++ r) (sym (number_small 0 (omega arith))) ∙ ap (λ (x : ℕ). spell_number x ++ r) q
    go false true z d e =
        let b' = digit_back b d in
        let f : b ≡ 48 → ⊥ = eqb-false b 48 z in
        let w : spell_number (b - 48) ≡ b ∷ [] = number_small (b - 48) b'.1 ∙ ap (λ (x : ℕ). x ∷ []) b'.0 in
        ap (λ (l : Bytes). l ++ s) (sym w) ∙ digits_spelled (b - 48) s n r (omega (arith, b'.0)) e
    go false false z d e = absurd (clash e)

-- ---- plain names
ended : (s : Bytes) (x : Unit {0}) (r : Bytes) → end s ≡ got x r → s ≡ []
unfolding end
ended [] x r e = refl
ended (b ∷ s) x r e = absurd (clash e)

after_x_law : (n : Name) (v : ℕ) (r : Bytes) → after_x n ≡ got v r → n ≡ code "x" ∷ spell_number v
unfolding literal bytes
after_x_law [] v r e = absurd (clash e)
after_x_law (b ∷ s) v r e = go (eqb b (code "x")) refl e
  where
    behind : Unit {0} → Reader ℕ
    behind _ = do v ← decimal; end; give v

    go : (t : Bool) → eqb b (code "x") ≡ t → next (cond t (got tt s) (stuck (b ∷ s))) behind ≡ got v r → b ∷ s ≡ code "x" ∷ spell_number v
    go true q e =
        let d = parted (decimal s) _ e in
        let f = parted (end d.rest) _ d.second in
        let w : d.value ≡ v = (let y = f.second in cc) in
        ap₂ ◌∷◌ (eqb-true b 120 q)
        (decimal_spelled s d.value d.rest d.first ∙ ap₂ (λ (x : ℕ) (y : Bytes). spell_number x ++ y) w (ended d.rest _ _ f.first) ∙ append-nil (spell_number v))
    go false q e = absurd (clash e)

plain_spelled : (n : Name) → is_plain n ≡ true → n ≡ code "x" ∷ spell_number (plain_number n)
unfolding is_plain plain_number
plain_spelled n e = go (after_x n) refl e
  where
    go : (a : Read ℕ) → after_x n ≡ a → elim a [ got v r ↦ is_variable v | stuck r ↦ false ] ≡ true → n ≡ code "x" ∷ spell_number (elim a [ got v r ↦ v | stuck r ↦ 0 ])
    go (got v r) q e = after_x_law n v r q
    go (stuck r) q e = never (sym e)

-- its number is a variable, of three digits at the most
pub plain_variable : (n : Name) → is_plain n ≡ true → is_variable (plain_number n) ≡ true
unfolding is_plain plain_number
plain_variable n e = go (after_x n) e
  where
    go : (a : Read ℕ) → elim a [ got v r ↦ is_variable v | stuck r ↦ false ] ≡ true → is_variable (elim a [ got v r ↦ v | stuck r ↦ 0 ]) ≡ true
    go (got v r) e = e
    go (stuck r) e = never (sym e)

pub plain_short : (n : Name) → is_plain n ≡ true → length n ≤ name_bytes
unfolding is_variable
plain_short n e =
    let l = ltb-true (plain_number n) variables (plain_variable n e) in
    omega (arith, ap length (plain_spelled n e), number_most 2 (plain_number n) (omega arith))

plain_of : (ns : List Name) (n : Name) → every is_plain ns ≡ true → is_in ns n ≡ true → is_plain n ≡ true
unfolding any every
plain_of [] n p e = never (sym e)
plain_of (m ∷ ns) n p e =
    ⊎_elim
    (λ s. ap is_plain (sym (same_name_law m n s)) ∙ and_left (is_plain m) (every is_plain ns) p)
    (λ h. plain_of ns n (and_right (is_plain m) (every is_plain ns) p) h)
    (or_cases (same_name m n) (is_in ns n) e)

-- ---- one number is of one name
pub numbers_apart : (ns : List Name) (m n : Name) → is_in ns m ≡ true → is_in ns n ≡ true → numbering ns m ≡ numbering ns n → m ≡ n
unfolding numbering
numbers_apart ns m n p q e = go (every is_plain ns) refl e
  where
    ms : List Name
    ms = with_names [] ns

    go : (b : Bool) → every is_plain ns ≡ b → cond b (plain_number m) (place_in ms m) ≡ cond b (plain_number n) (place_in ms n) → m ≡ n
    go true a e = plain_spelled m (plain_of ns m a p) ∙ ap (λ (v : ℕ). code "x" ∷ spell_number v) e ∙ sym (plain_spelled n (plain_of ns n a q))
    go false a e = sym (name_at ms m (name_comes [] ns m p)) ∙ ap (λ (i : ℕ). get_or ms i []) e ∙ name_at ms n (name_comes [] ns n q)
