-- The contracts of `terms` decide their results and buffers. Assumes nothing.
use mathlib.Core.Path.{◌≡◌, refl, sym, ap, ap₂, ◌∙◌}
use mathlib.Core.List.{List, ◌++◌}
use Prim.Native.Nat.{ℕ, zero, suc, min, ◌+◌, ◌-◌, ◌*◌, ◌^◌, ◌≤◌}
use native.Mathlib.Omega.{arith}
use lib.ListN.{length, take, drop, length-take, length-drop, take-append-drop}
use lib.Seq.{take_all, take-add, drop-drop}
use Rattle.ground.proofs.Lists.{drop_take}
use Rattle.limits.specs.Limits.{set_words, term_words}
use Rattle.algebra.specs.Polynomial.{Term, Poly}
use Rattle.words.specs.Parts.{part, Within}
use Rattle.words.specs.Words.{number_of}
use Rattle.words.proofs.Laws.{Words, words_take, words_drop, number_inj, number_take}
use Rattle.words.proofs.Decided.{one_within}
use Rattle.terms.specs.Terms.{term_of, decode, Appended}
use Rattle.terms.proofs.Decode.{term_part}

-- ---- `term_of`: a term by what it stands for
number_of_law : (t : List ℕ) → length t ≤ term_words → number_of t ≡ (term_of t).coef * 2 ^ (64 * set_words) + (term_of t).set
unfolding term_of
number_of_law t l = ap number_of (sym (take_all term_words t l)) ∙ number_take t set_words

pub one_term : (t u : List ℕ) → length t ≡ length u → length t ≤ term_words → Words t → Words u → term_of t ≡ term_of u → t ≡ u
one_term t u l m f g e =
    number_inj t u l f g (number_of_law t m ∙ ap (λ (x : Term). x.coef * 2 ^ (64 * set_words) + x.set) e ∙ sym (number_of_law u (omega arith)))

-- ---- the words of a run by its terms
pub one_run : (n : ℕ) (a b : List ℕ) → length a ≡ length b → Words a → Words b → decode n a ≡ decode n b → take (n * term_words) a ≡ take (n * term_words) b
unfolding decode
one_run zero a b l f g e = refl
one_run (suc n) a b l f g e =
    let first : term_of a ≡ term_of b = cc in
    let rest : decode n (drop term_words a) ≡ decode n (drop term_words b) = cc in
    let w : suc n * term_words ≡ term_words + n * term_words = omega arith in
    let even : length (take term_words a) ≡ length (take term_words b)
    = length-take term_words a ∙ ap (min term_words) l ∙ sym (length-take term_words b) in
    let front : take term_words a ≡ take term_words b
    = one_term (take term_words a) (take term_words b) even (omega (arith, length-take term_words a))
    (words_take term_words a f) (words_take term_words b g) (term_part a ∙ first ∙ sym (term_part b)) in
    let back : take (n * term_words) (drop term_words a) ≡ take (n * term_words) (drop term_words b)
    = one_run n (drop term_words a) (drop term_words b) (omega (arith, length-drop term_words a, length-drop term_words b))
    (words_drop term_words a f) (words_drop term_words b g) rest in
    rw w (take-add term_words (n * term_words) a ∙ ap₂ ◌++◌ front back ∙ sym (take-add term_words (n * term_words) b))

-- the same from word out on
pub one_run_at : (out n : ℕ) (a b : List ℕ) → length a ≡ length b → Words a → Words b → decode n (drop out a) ≡ decode n (drop out b)
    → part out (n * term_words) a ≡ part out (n * term_words) b
one_run_at out n a b l f g e =
    one_run n (drop out a) (drop out b) (omega (arith, length-drop out a, length-drop out b)) (words_drop out a f) (words_drop out b g) e

-- a run at the front of a buffer that is else as it was
pub one_front : (n : ℕ) (s r q : List ℕ) → Words r → Words q → Within 0 (n * term_words) s r → Within 0 (n * term_words) s q → decode n r ≡ decode n q → r ≡ q
one_front n s r q f g v w e =
    sym (take-append-drop (n * term_words) r)
    ∙ ap₂ ◌++◌ (one_run n r q (v.same ∙ sym w.same) f g e) (v.after ∙ sym w.after)
    ∙ take-append-drop (n * term_words) q

-- ---- `append_times`
pub one_appended : (out n m : ℕ) (p : Poly) (s r q : List ℕ) → Words r → Words q → Appended out n m p s r → Appended out n m p s q → r ≡ q
one_appended out n m p s r q f g x y =
    one_within (out + n * term_words) (out + (n + m) * term_words) s r q (omega arith) x.within y.within
    (region r ∙ ap (drop (n * term_words)) runs ∙ sym (region q))
  where
    runs : part out ((n + m) * term_words) r ≡ part out ((n + m) * term_words) q
    runs = one_run_at out (n + m) r q (x.within.same ∙ sym y.within.same) f g (x.terms ∙ sym y.terms)

    region : (l : List ℕ) → part (out + n * term_words) (out + (n + m) * term_words - (out + n * term_words)) l
        ≡ drop (n * term_words) (part out ((n + m) * term_words) l)
    region l =
        let d : out + (n + m) * term_words - (out + n * term_words) ≡ m * term_words = omega arith in
        let e : n * term_words + m * term_words ≡ (n + m) * term_words = omega arith in
        ap₂ take d (sym (drop-drop (n * term_words) out l))
        ∙ sym (drop_take (n * term_words) (m * term_words) (drop out l))
        ∙ ap (λ (k : ℕ). drop (n * term_words) (part out k l)) e
