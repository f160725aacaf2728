-- The products of a run with itself. Assumes nothing.
use mathlib.Core.Path.{◌≡◌, ap, ap₂, ◌∙◌}
use mathlib.Core.Bool.{Bool}
use mathlib.Core.List.{List, ◌++◌}
use mathlib.Core.Logic.{⊎_elim}
use Prim.Native.Nat.{ℕ, ◌+◌, ◌*◌, ◌≤◌}
use native.Mathlib.Nat.{mul-le-mul}
use native.Mathlib.Omega.{arith}
use lib.Dec.{ltb}
use lib.ListN.{length, drop}
use borrow.Author.Tests.{ltb-true, ltb-false}
use Rattle.words.proofs.Parts.{within_wider}
use Rattle.ground.proofs.Tests.{split}
use Rattle.limits.specs.Limits.{line_products, term_words}
use Rattle.algebra.specs.Polynomial.{Poly, products, equal, reduce, product}
use Rattle.terms.specs.Terms.{decode, rounded, Leaves, Appended}
use Rattle.terms.proofs.Decode.{decode_above}
use Rattle.terms.proofs.Runs.{equal_swap}
use Rattle.terms.proofs.Rounding.{reduce_rounded}
use Rattle.scratch.specs.Scratch.{stated_at}
use Rattle.scratch.proofs.Products.{front_appended}

-- ---- how long the side of a square can be, and how many products are in its rows
pub side : (n : ℕ) → n * n ≤ line_products → n ≤ 32
side n h = ⊎_elim (λ e. let l : 33 ≤ n = ltb-true 32 n e in absurd (omega (arith, mul-le-mul l l))) (λ e. ltb-false 32 n e) (split (ltb 32 n))

-- the square of the n terms of the stated region of s
abbrev pub Squared : ℕ → List ℕ → List ℕ → Type 0
Squared n s x = Leaves line_products (rounded (products (decode n (drop stated_at s)) (decode n (drop stated_at s)))) s x (n * n)

-- the words before the stated region, f, were lent and came back as ys
pub squared : (n : ℕ) {s f b ys : List ℕ} → n * n ≤ line_products → s ≡ f ++ b → length f ≡ stated_at → b ≡ drop stated_at s
    → Appended 0 0 (n * n) (rounded (products (decode n b) (decode n b))) f ys → Squared n s (ys ++ b)
unfolding decode
squared n {s} {f} {b} {ys} h e l k a =
    let x : List ℕ = ys ++ b in
    let c : Appended 0 0 (n * n) (rounded (products (decode n b) (decode n b))) s x = front_appended 0 (n * n) _ s f b ys e (omega arith) a in
    let z : n * n ≡ 0 + n * n = omega arith in
    record {
      terms = ap (λ (m : ℕ). decode m x) z ∙ c.terms ∙ ap (λ (w : List ℕ). rounded (products (decode n w) (decode n w))) k;
      few = h;
      within = within_wider 0 (0 + 0 * term_words) (0 + (0 + n * n) * term_words) (line_products * term_words) s x (omega arith) (omega arith) c.within;
    }

-- ---- b tells whether the square, reduced, is the stated region
pub square_equal : (k n : ℕ) (s x : List ℕ) → Squared n s x → (b : Bool) → k ≤ 64 → b ≡ equal (decode n (drop stated_at x)) (reduce k (decode (n * n) x))
    → b ≡ equal (product k (decode n (drop stated_at s)) (decode n (drop stated_at s))) (decode n (drop stated_at s))
unfolding product
square_equal k n s x a b h e =
    let p : Poly = decode n (drop stated_at s) in
    e ∙ ap₂ equal (decode_above n stated_at 0 stated_at s x a.within (omega arith)) (ap (reduce k) a.terms ∙ reduce_rounded k h (products p p)) ∙ equal_swap p (product k p p)
