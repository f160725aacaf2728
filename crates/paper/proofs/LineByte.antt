-- The byte of bad form of a line. Assumes nothing.
use mathlib.Core.Path.{◌≡◌, refl, sym, subst, ◌∙◌}
use mathlib.Core.Logic.{⊎_elim}
use mathlib.Core.List.{List, [], ◌∷◌}
use Prim.Native.Nat.{ℕ, suc, ◌-◌}
use native.Mathlib.Omega.{arith}
use lib.ListN.{length}
use Rattle.ground.proofs.Tests.{split, by_cond, cond_yes, cond_no}
use Rattle.paper.specs.Statement.{Statement}
use Rattle.paper.specs.Grammar.{Bytes, Line, Read, got, stuck, Reader, next, give, literal, end, LineKind, kinds, begins_alike, whole_line, one_of, statement}
use Rattle.paper.specs.Beginnings.{FormByte}
use Rattle.paper.proofs.Reading.{clash, next_assoc}
use Rattle.paper.proofs.Exact.{exact_then}
use Rattle.paper.proofs.ExactBytes.{exact_literal}
use Rattle.paper.proofs.ExactLines.{ExactKind, exact_ring, exact_input, exact_goal, exact_lin, exact_del, exact_ext}
use Rattle.paper.proofs.FormByte.{FailsAt, whole, whole_all, whole_fails, fails_byte, ended_fails, none_fails, fails_alike}

module _ (k : LineKind) where
  -- a keyword and the fields, and then the end
  line_whole : (s : Bytes) → whole (λ s. next (literal k.0 s) (λ _. k.1)) s ≡ whole_line k s
  line_whole s = next_assoc (literal k.0 s) (λ _. k.1) (λ st r. next (end r) (λ _. give st))

  line_fails : ExactKind k → (s u : Bytes) → whole_line k s ≡ stuck u → FailsAt (whole_line k) s u
  line_fails e s u d =
      subst (λ (r : Reader Statement). FailsAt r s u) (λ i s. line_whole s i)
      (whole_fails (λ s. next (literal k.0 s) (λ _. k.1)) (exact_then (literal k.0) (λ _. k.1) (λ b h. refl) (exact_literal k.0) (λ _. e.exact)) s u (line_whole s ∙ d))

-- the first byte decides
alike_first : (w : Bytes) (b : ℕ) (s z : Bytes) → begins_alike w (b ∷ s) ≡ begins_alike w (b ∷ z)
unfolding begins_alike
alike_first [] b s z = refl
alike_first (c ∷ w) b s z = refl

abbrev AllExact : List LineKind → Type 0
AllExact [] = Unit {0}
AllExact (k ∷ ks) = ExactKind k × AllExact ks

one_empty : (ks : List LineKind) → one_of ks [] ≡ stuck []
unfolding one_of begins_alike
one_empty [] = refl
one_empty (([], read) ∷ ks) = one_empty ks
one_empty ((c ∷ w, read) ∷ ks) = one_empty ks

-- nothing is left of what was read
one_all : (ks : List LineKind) (s : Bytes) (x : Statement) (r : Bytes) → one_of ks s ≡ got x r → r ≡ []
unfolding one_of
one_all [] s x r e = absurd (clash e)
one_all (k ∷ ks) s x r e =
    by_cond (λ (q : Read Statement). q ≡ got x r → r ≡ []) (begins_alike k.0 s)
    (λ _ d. whole_all (λ s. next (literal k.0 s) (λ _. k.1)) s x r (line_whole k s ∙ d)) (λ _ d. one_all ks s x r d) e

-- the kind that the first byte picks stops, or there is none
one_fails : (ks : List LineKind) → AllExact ks → (s u : Bytes) → one_of ks s ≡ stuck u → FailsAt (one_of ks) s u
unfolding one_of
one_fails [] g s u e = let q : s ≡ u = cc in subst (FailsAt (one_of []) s) q (none_fails s (λ b v w d. refl))
one_fails (k ∷ ks) g [] u e =
    let q : [] ≡ u = (let d = one_empty (k ∷ ks) in cc) in
    subst (FailsAt (one_of (k ∷ ks)) []) q (none_fails [] (λ b v w d. absurd (let z : ◌≡◌ {A = ℕ} 0 1 = cc in let y : ⊥ = omega arith in y)))
one_fails (k ∷ ks) g (b ∷ s) u e =
    ⊎_elim (λ h. fails_alike {read = whole_line k} b (λ z. sym (cond_yes (begins_alike k.0 (b ∷ z)) (whole_line k (b ∷ z)) (one_of ks (b ∷ z)) (alike_first k.0 b z s ∙ h))) s u
    (line_fails k g.0 (b ∷ s) u (sym (cond_yes (begins_alike k.0 (b ∷ s)) (whole_line k (b ∷ s)) (one_of ks (b ∷ s)) h) ∙ e)))
    (λ h. fails_alike {read = one_of ks} b (λ z. sym (cond_no (begins_alike k.0 (b ∷ z)) (whole_line k (b ∷ z)) (one_of ks (b ∷ z)) (alike_first k.0 b z s ∙ h))) s u
    (one_fails ks g.1 (b ∷ s) u (sym (cond_no (begins_alike k.0 (b ∷ s)) (whole_line k (b ∷ s)) (one_of ks (b ∷ s)) h) ∙ e)))
    (split (begins_alike k.0 (b ∷ s)))

-- where the reader of a line stops
pub line_stops : (l : Line) (r : Bytes) → statement l ≡ stuck r → FailsAt (one_of kinds) l.content r
unfolding statement kinds
line_stops l r e =
    ended_fails (one_all kinds) (one_fails kinds (exact_ring, (exact_input, (exact_goal, (exact_lin, (exact_del, (exact_ext, tt))))))) l.ended l.content r e

-- it is the byte of the form
pub line_byte_law : (l : Line) (r : Bytes) → statement l ≡ stuck r → FormByte (one_of kinds) l.content (suc (length l.content - length r))
line_byte_law l r e = fails_byte (line_stops l r e)
