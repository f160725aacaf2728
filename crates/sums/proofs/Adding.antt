-- One pair's products behind those of the pairs before it. Assumes nothing.
use mathlib.Core.Path.{◌≡◌, sym, ap, ap₂, subst, transport, ◌∙◌}
use mathlib.Core.Bool.{Bool}
use mathlib.Core.List.{List, [], ◌∷◌, ◌++◌}
use Prim.Native.Nat.{ℕ, ◌+◌, ◌-◌, ◌*◌, ◌≤◌, ◌<◌}
use native.Mathlib.Omega.{arith}
use lib.Bits.{bit_or}
use lib.ListN.{length, drop}
use borrow.Author.Tests.{lt-ltb, le-ltb}
use Rattle.std.specs.Prelude.{Result, Ok, Err}
use Rattle.words.specs.Parts.{part}
use Rattle.limits.specs.Limits.{field_terms, line_products, term_words}
use Rattle.limits.specs.declared.refusal.Refusal.{Refusal}
use Rattle.limits.specs.declared.refusal.Refusal.TheVariants.{Products}
use Rattle.limits.specs.Verdicts.{PRODUCTS}
use Rattle.algebra.specs.Polynomial.{Poly, products}
use Rattle.words.specs.Words.{number_of}
use Rattle.terms.specs.Terms.{decode, rounded, Appended}
use Rattle.terms.proofs.Decode.{decode_length, decode_part}
use Rattle.paper.specs.Rules.{first}
use Rattle.scratch.specs.Scratch.{factor_at, Kept}
use Rattle.scratch.specs.declared.Reduced.{Reduced}
use Rattle.scratch.proofs.Keeping.{kept_refl, kept_trans, kept_front}
use Rattle.scratch.proofs.Products.{front_appended}
use Rattle.sums.specs.declared.Sum.{Sum}
use Rattle.sums.specs.Sums.{Extends, Extended}

-- ---- what is said of a sum where there is one
pub of_ok : (P : Sum → Type 0) (x : Sum) → P x → (m : Sum) → ◌≡◌ {A = Result Sum Refusal} (Ok x) (Ok m) → P m
of_ok P x p m e = let q : x ≡ m = cc in subst P q p

pub of_err : (P : Sum → Type 0) (why : Refusal) (m : Sum) → ◌≡◌ {A = Result Sum Refusal} (Err why) (Ok m) → P m
of_err P why m e = cc

-- ---- the products of the factor's terms with m terms of the pool
module _ (f : Reduced) (m start : ℕ) (old : Sum) (pool s : List ℕ) where
  abbrev factor : Poly
  factor = decode f.terms (drop factor_at s)

  abbrev other : Poly
  other = decode m (drop start pool)

  long : length factor * length other ≡ f.terms * m
  long = ap₂ ◌*◌ (decode_length f.terms (drop factor_at s)) (decode_length m (drop start pool))

  pub extended_over : line_products < old.terms + f.terms * m → Extended factor other (number_of f.shown) old s s (Err Products)
  unfolding first
  extended_over h = record {
    verdict = sym (ap (λ (b : Bool). first ((PRODUCTS, b) ∷ [])) (lt-ltb line_products (old.terms + length factor * length other) (omega (arith, long))));
    some = of_err (Extends factor other (number_of f.shown) old s s) Products;
    kept = kept_refl;
  }

  -- the words before the factor's region, a, were lent and came back as ys
  pub extended_all : (a b ys all : List ℕ) → f.terms ≤ field_terms → s ≡ a ++ b → length a ≡ factor_at → b ≡ drop factor_at s → start + m * term_words ≤ length pool
      → old.terms + f.terms * m ≤ line_products
      → Appended 0 old.terms (f.terms * m) (rounded (products (decode f.terms b) (decode m (part start (length pool - start) pool)))) a ys
      → number_of all ≡ bit_or (number_of f.shown) (number_of old.seen)
      → Extended factor other (number_of f.shown) old s (ys ++ b) (Ok (record { terms = old.terms + f.terms * m; seen = all }))
  unfolding first
  extended_all a b ys all few e l d p h c v = record {
    verdict = sym (ap (λ (b : Bool). first ((PRODUCTS, b) ∷ [])) (le-ltb line_products (old.terms + length factor * length other) (omega (arith, long))));
    some = of_ok (Extends factor other (number_of f.shown) old s (ys ++ b)) (record { terms = old.terms + f.terms * m; seen = all }) (record {
      count = omega (arith, long);
      most = h;
      run = whole.terms ∙ ap₂ (λ (x : List ℕ) (q : Poly). decode old.terms s ++ rounded (products (decode f.terms x) q)) d
          (decode_part m start (length pool - start) pool (omega arith));
      seen = v;
    });
    kept = kept_front (0 + old.terms * term_words) (0 + (old.terms + f.terms * m) * term_words) s (ys ++ b) whole.within (omega arith);
  }
    where
      whole : Appended 0 old.terms (f.terms * m) (rounded (products (decode f.terms b) (decode m (part start (length pool - start) pool)))) s (ys ++ b)
      whole = front_appended old.terms (f.terms * m) _ s a b ys e (omega arith) c

-- the same of equal polynomials and variables, from words in which another region than that of the products was other
pub extended_as : {p p' q q' : Poly} {v v' : ℕ} {old : Sum} {s x r : List ℕ} {sum : Result Sum Refusal} → p ≡ p' → q ≡ q' → v ≡ v' → decode old.terms x ≡ decode old.terms s → Kept s x
    → Extended p q v old x r sum → Extended p' q' v' old s r sum
extended_as {p} {p'} {q} {q'} {v} {v'} {old} {s} {x} {r} {sum} ep eq ev d k a = record { verdict = b.verdict; some = some; kept = kept_trans k b.kept }
  where
    b : Extended p' q' v' old x r sum
    b = transport (λ i. Extended (ep i) (eq i) (ev i) old x r sum) a

    some : (m : Sum) → sum ≡ Ok m → Extends p' q' v' old s r m
    some m e =
        let c = b.some m e in
        record { count = c.count; most = c.most; run = c.run ∙ ap (λ (y : Poly). y ++ rounded (products p' q')) d; seen = c.seen }
