-- The contract of `reduce` decides how many terms are left, their words, and all words outside the region; the others of
-- the region are left open. Assumes nothing.
use Rattle.std.proofs.Common.{◌≡◌, ℕ, ◌*◌, List, length, take, drop, sym, ap, ◌∙◌}
use Rattle.limits.specs.Limits.{term_words}
use Rattle.algebra.specs.Polynomial.{Poly}
use Rattle.words.specs.Parts.{part, Within}
use Rattle.words.proofs.Laws.{Words}
use Rattle.terms.specs.Terms.{decode, Leaves}
use Rattle.terms.proofs.Decode.{decode_length}
use Rattle.terms.proofs.Decided.{one_run_at}

-- of two runs in the region from word a up to e
pub record SameRun (a e : ℕ) (r q : List ℕ) (i j : ℕ) : Type 0 where
  pub count : i ≡ j
  pub words : part a (i * term_words) r ≡ part a (i * term_words) q
  pub before : take a r ≡ take a q
  pub after : drop e r ≡ drop e q
  pub length : length r ≡ length q

pub same_run : (a e : ℕ) (p : Poly) (s r q : List ℕ) (i j : ℕ) → Words r → Words q → Within a e s r → Within a e s q → decode i (drop a r) ≡ p → decode j (drop a q) ≡ p
    → SameRun a e r q i j
same_run a e p s r q i j f g v w x y =
    let c : i ≡ j = sym (decode_length i (drop a r)) ∙ ap length (x ∙ sym y) ∙ decode_length j (drop a q) in
    let d : decode i (drop a r) ≡ decode i (drop a q) = x ∙ sym y ∙ ap (λ (k : ℕ). decode k (drop a q)) (sym c) in
    record {
      count = c;
      words = one_run_at a i r q (v.same ∙ sym w.same) f g d;
      before = v.before ∙ sym w.before;
      after = v.after ∙ sym w.after;
      length = v.same ∙ sym w.same;
    }

pub left_alike : (n : ℕ) (p : Poly) (s r q : List ℕ) (i j : ℕ) → Words r → Words q → Leaves n p s r i → Leaves n p s q j → SameRun 0 (n * term_words) r q i j
left_alike n p s r q i j f g x y = same_run 0 (n * term_words) p s r q i j f g x.within y.within x.terms y.terms
