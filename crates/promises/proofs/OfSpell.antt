-- The promises of `spell`, from the equations of its contract. Assumes nothing.
use mathlib.Core.Path.{◌≡◌, refl, sym, ap, ◌∙◌, subst}
use mathlib.Core.Bool.{true, ◌&&◌}
use mathlib.Core.Logic.{⊎_elim}
use mathlib.Core.List.{[]}
use Prim.Native.Nat.{ℕ, ◌≤◌}
use native.Mathlib.Omega.{arith}
use lib.Dec.{ltb}
use lib.ListN.{length, take, drop}
use lib.Seq.{take-append_seam}
use borrow.Author.Tests.{le-ltb, ltb-true, ltb-false}
use Rattle.ground.proofs.Tests.{split, by_cond, and_left, and_right, cond_no}
use Rattle.limits.specs.Limits.{line_bytes, field_terms, least_spelling_scratch}
use Rattle.limits.specs.Verdicts.{ACCEPTED, SHORT, LONGLINE, FORM, NUMBER, TERMS, FULL}
use Rattle.paper.specs.Grammar.{Bytes, Read, got, stuck}
use Rattle.paper.specs.Statement.{Written, modulo, is_ring, in_range, too_many_terms, reduced}
use Rattle.paper.specs.Spelling.{Spelled, refuse, spell, spell_read, whole_field, spell_field, output_after}
use Rattle.paper.proofs.Ranges.{ring_some}
use Rattle.speller.specs.Spells.{Answer, written_of, Gives, fitted, Accepts}
use Rattle.speller.proofs.Judging.{request_number, request_terms, request_fitted, accepted_fitted}
use Rattle.promises.specs.Promises.{Writes, Says, SpelledReadsBack, SpelledAgain, SpelledAlike, SpelledLength, NeverFull}
use Rattle.promises.proofs.Lengths.{whole_polynomial}
use Rattle.promises.proofs.Bound.{field_bound}
use Rattle.promises.proofs.Spelling.{read_back, reduced_few, reduced_field, one_spelling}

-- ---- by the verdict: refused before any room is looked at, or as the output has room
module _ (P : Spelled → Type 0) (field : Bytes) (k room : ℕ) (refused : (v : ℕ) → (v ≡ ACCEPTED → ⊥) → (v ≡ FULL → ⊥) → P (refuse v))
    (fits : length field ≤ line_bytes → is_ring (modulo k) ≡ true → (f : Written) → Says field f → P (fitted (spell k (reduced k f)) room)) where
  by_read : length field ≤ line_bytes → (r : Read Written) → whole_field field ≡ r → P (spell_read k room r)
  unfolding spell_read too_many_terms
  by_read l (stuck s) e = refused FORM (λ z. omega arith) (λ z. omega arith)
  by_read l (got f s) e =
      let w = whole_polynomial field f s e in
      subst (λ (t : Bytes). P (spell_read k room (got f t))) (sym w.1)
      (⊎_elim
      (λ r. ⊎_elim
      (λ t. subst P (sym (request_terms k room f r t)) (refused TERMS (λ z. omega arith) (λ z. omega arith)))
      (λ t. subst P (sym (request_fitted k room f r t)) (fits l (and_left (is_ring (modulo k)) (in_range f) r) f
      (record { reads = e ∙ ap (got f) w.1; range = and_right (is_ring (modulo k)) (in_range f) r; few = ltb-false field_terms (length f) t })))
      (split (too_many_terms f)))
      (λ r. subst P (sym (request_number k room f r)) (refused NUMBER (λ z. omega arith) (λ z. omega arith)))
      (split (is_ring (modulo k) && in_range f)))

  by_verdict : (scratch : ℕ) → P (spell_field field k scratch room)
  unfolding spell_field
  by_verdict scratch =
      by_cond P (ltb scratch least_spelling_scratch) (λ _. refused SHORT (λ z. omega arith) (λ z. omega arith))
      (λ _. by_cond P (ltb line_bytes (length field)) (λ _. refused LONGLINE (λ z. omega arith) (λ z. omega arith))
      (λ l. by_read (ltb-false line_bytes (length field) l) (whole_field field) refl))

-- ---- accepted
record Accepted (field : Bytes) (k : ℕ) (s : Bytes) : Type 0 where
  value : Written
  says : Says field value
  ring : is_ring (modulo k) ≡ true
  short : length field ≤ line_bytes
  spelled : s ≡ spell k (reduced k value)

bytes_written : (x : Spelled) (out out' : Bytes) (r : Answer) → Gives x out out' r → take (written_of r) out' ≡ x.spelling
unfolding output_after
bytes_written x out out' r g = rw (g.written, g.output) (take-append_seam x.spelling (drop (length x.spelling) out))

accepted : (field : Bytes) (k : ℕ) (s : Bytes) → Writes field k s → Accepted field k s
unfolding fitted
accepted field k s w =
    subst (Accepted field k) (sym (w.bytes ∙ bytes_written x w.out w.out' w.result w.call.gives))
    (by_verdict (λ (y : Spelled). y.verdict ≡ ACCEPTED → Accepted field k y.spelling) field k (length w.out) (λ v a b z. absurd (a z))
    (λ l e f h. by_cond (λ (y : Spelled). y.verdict ≡ ACCEPTED → Accepted field k y.spelling) (ltb (length w.out) (length (spell k (reduced k f))))
    (λ _ z. absurd (let y : ⊥ = omega arith in y))
    (λ _ _. record { value = f; says = h; ring = e; short = l; spelled = refl }))
    (length w.scratch) (sym w.call.gives.verdict ∙ w.accepts))
  where
    x : Spelled
    x = spell_field field k (length w.scratch) (length w.out)

-- ---- read back
module _ (field : Bytes) (k : ℕ) (s : Bytes) (a : Accepted field k s) where
  record Again : Type 0 where
    value : Written
    says : Says s value
    means : reduced k value ≡ reduced k a.value

  again : Again
  again =
      let b = read_back k (reduced k a.value) a.ring (reduced_field k a.value a.says.range) in
      record {
        value = b.0;
        says = record {
          reads = ap whole_field a.spelled ∙ b.1;
          range = b.2;
          few = omega (arith, b.3, reduced_few k a.value, a.says.few);
        };
        means = b.4;
      }

pub spelled_reads_back : SpelledReadsBack
spelled_reads_back field k s w =
    let a = accepted field k s w in
    let b = again field k s a in
    (a.value, b.value, a.says, b.says, b.means)

-- ---- spelled again
-- a field with room for its spelling
field_spelled : (s : Bytes) (k scratch room : ℕ) (f : Written) → is_ring (modulo k) ≡ true → Says s f → least_spelling_scratch ≤ scratch → length s ≤ line_bytes
    → length (spell k (reduced k f)) ≤ room → spell_field s k scratch room ≡ record { verdict = ACCEPTED; spelling = spell k (reduced k f) }
unfolding spell_field fitted too_many_terms
field_spelled s k scratch room f e y h l r =
    rw (le-ltb scratch least_spelling_scratch h, le-ltb line_bytes (length s) l)
    (accepted_fitted s k room a ∙ cond_no (ltb room (length (spell k (reduced k f)))) (refuse FULL) _ (le-ltb room (length (spell k (reduced k f))) r))
  where
    a : Accepts s k
    a = record {
      value = f;
      reads = (whole_polynomial s f [] y.reads).0;
      ranged = y.range;
      short = le-ltb field_terms (length f) y.few;
      ring = e;
    }

pub spelled_again : SpelledAgain
spelled_again field k s w l scratch out r scratch' out' h o c =
    let a = accepted field k s w in
    let b = again field k s a in
    let same : spell k (reduced k b.value) ≡ s = ap (spell k) b.means ∙ sym a.spelled in
    let x : spell_field s k (length scratch) (length out) ≡ record { verdict = ACCEPTED; spelling = spell k (reduced k b.value) }
    = field_spelled s k (length scratch) (length out) b.value a.ring b.says h l (omega (arith, ap length same)) in
    (c.gives.verdict ∙ ap (λ (y : Spelled). y.verdict) x, bytes_written (spell_field s k (length scratch) (length out)) out out' r c.gives ∙ ap (λ (y : Spelled). y.spelling) x ∙ same)

-- ---- alike
same_value : {r : Read Written} {f g : Written} {s t : Bytes} → r ≡ got f s → r ≡ got g t → f ≡ g
same_value p q = let e = sym p ∙ q in cc

pub spelled_alike : SpelledAlike
spelled_alike k a b s t f g w u ef eg =
    let x = accepted a k s w in
    let y = accepted b k t u in
    let p : s ≡ spell k (reduced k f) = x.spelled ∙ ap (λ (e : Written). spell k (reduced k e)) (same_value x.says.reads ef) in
    let q : t ≡ spell k (reduced k g) = y.spelled ∙ ap (λ (e : Written). spell k (reduced k e)) (same_value y.says.reads eg) in
    let o = one_spelling k f g (in_range_law x ef) (in_range_law y eg) in
    (λ e. o.0 (sym p ∙ e ∙ q), λ h. p ∙ o.1 h ∙ sym q)
  where
    in_range_law : {c d : Bytes} {e : Written} (z : Accepted c k d) → whole_field c ≡ got e [] → in_range e ≡ true
    in_range_law z h = ap in_range (sym (same_value z.says.reads h)) ∙ z.says.range

-- ---- how long
pub spelled_length : SpelledLength
spelled_length field k s f w e =
    let a = accepted field k s w in
    let b = field_bound k (ring_some k a.ring) field a.value a.says.reads in
    let n = ap length (same_value a.says.reads e) in
    let t = ap length a.spelled in
    (omega arith, omega (arith, a.says.few, a.short))

pub never_full : NeverFull
unfolding fitted
never_full field k scratch out r scratch' out' c h z =
    by_verdict (λ (y : Spelled). y.verdict ≡ FULL → ⊥) field k (length out) (λ v a b. b)
    (λ l e f s. by_cond (λ (y : Spelled). y.verdict ≡ FULL → ⊥) (ltb (length out) (length (spell k (reduced k f))))
    (λ t _. omega (arith, ltb-true (length out) (length (spell k (reduced k f))) t, field_bound k (ring_some k e) field f s.reads, s.few))
    (λ _ y. omega arith))
    (length scratch) (sym c.gives.verdict ∙ z)
