-- Plain names: an x, a decimal, and nothing behind it. Assumes nothing.
use mathlib.Core.Path.{◌≡◌, refl, sym, ap, subst, ◌∙◌}
use mathlib.Core.Bool.{Bool, true, false, cond}
use mathlib.Core.List.{[], ◌∷◌}
use mathlib.Core.Logic.{⊎_elim}
use Prim.Native.Nat.{ℕ, ◌-◌, ◌≤◌}
use Prim.Native.Char.{code}
use native.Mathlib.Omega.{arith}
use lib.Dec.{eqb, ltb}
use lib.ListN.{length, drop, get_or, drop_of_length-le}
use lib.Seq.{drop-length, drop-cons}
use borrow.Author.Tests.{eqb-true, eqb-false, eq-eqb, ne_eqb, lt-ltb, ltb-true}
use Rattle.std.specs.Prelude.{Some, None, Result, Ok, Err}
use Rattle.std.specs.Result.{result_ok}
use Rattle.ground.proofs.Tests.{split, by_cond}
use Rattle.limits.specs.Limits.{variables}
use Rattle.paper.specs.Grammar.{Bytes, bytes, Read, got, stuck, next, literal, end, decimal}
use Rattle.paper.specs.Statement.{is_variable, within}
use Rattle.paper.specs.Published.{Name}
use Rattle.paper.specs.Named.{after_x, is_plain, plain_number}
use Rattle.paper.proofs.Names.{never}
use Rattle.reader.specs.Places.{Got, Fails}
use Rattle.reader.specs.Numbers.{InRange, OutOfRange, NumberAt, NumberIs}
use Rattle.reader.specs.declared.number.Number.{Number}
use Rattle.reader.specs.declared.stop.Stop.{Stop}
use Rattle.reader.proofs.Numbers.{within_yes}
use Rattle.names.specs.Names.{behind_x}

-- ---- what is left to read behind the x
to_end : Read ℕ → Read ℕ
to_end d = next d (λ v s. next (end s) (λ _ r. got v r))

with_x : (s : Name) → get_or s 0 0 ≡ code "x" → after_x s ≡ to_end (decimal (drop 1 s))
unfolding literal bytes to_end
with_x [] e = absurd (let z : ⊥ = omega arith in z)
with_x (b ∷ s) e = rw (eq-eqb b 120 e)

without_x : (s : Name) → (get_or s 0 0 ≡ code "x" → ⊥) → after_x s ≡ stuck s
unfolding literal bytes
without_x [] d = refl
without_x (b ∷ s) d = rw (ne_eqb b 120 d)

-- ---- what the decimal tells of a name
abbrev tells_plain : Read ℕ → Bool
tells_plain d = elim d [ got v r ↦ is_variable v | stuck r ↦ false ]

abbrev tells_number : Read ℕ → ℕ
tells_number d = elim d [ got v r ↦ v | stuck r ↦ 0 ]

record SaysPlain (s : Name) (d : Read ℕ) : Type 0 where
  plain : is_plain s ≡ tells_plain d
  number : plain_number s ≡ tells_number d

tells : (s : Name) (d : Read ℕ) → after_x s ≡ d → SaysPlain s d
unfolding is_plain plain_number
tells s d e = record { plain = ap tells_plain e; number = ap tells_number e }

-- without an x there is none
tells_none : (s : Name) (r t : Bytes) → SaysPlain s (stuck r) → SaysPlain s (stuck t)
tells_none s r t h = record { plain = h.plain; number = h.number }

tells_behind : (s : Name) (d : Read ℕ) → decimal (drop (behind_x s) s) ≡ d → SaysPlain s (to_end d)
unfolding decimal to_end
tells_behind s d e = go (eqb (get_or s 0 0) (code "x")) refl e
  where
    go : (b : Bool) → eqb (get_or s 0 0) (code "x") ≡ b → decimal (drop (cond b 1 (length s)) s) ≡ d → SaysPlain s (to_end d)
    go true q e = tells s (to_end d) (with_x s (eqb-true (get_or s 0 0) 120 q) ∙ ap to_end e)
    go false q e =
        let z : stuck [] ≡ d = sym (ap decimal (drop-length s)) ∙ e in
        rw (← z) (tells_none s s [] (tells s (stuck s) (without_x s (eqb-false (get_or s 0 0) 120 q))))

end_at : (s : Name) (v e : ℕ) → e ≤ length s → to_end (got v (drop e s)) ≡ cond (eqb e (length s)) (got v []) (stuck (drop e s))
unfolding to_end end
end_at s v e h = go (eqb e (length s)) refl
  where
    go : (b : Bool) → eqb e (length s) ≡ b → to_end (got v (drop e s)) ≡ cond b (got v []) (stuck (drop e s))
    go true q = rw (drop_of_length-le s {i = e} (omega (arith, eqb-true e (length s) q)))
    go false q = let d : e ≡ length s → ⊥ = eqb-false e (length s) q in rw (drop-cons s e 0 (omega arith))

-- ---- a number's answer taken apart
module _ (low high : ℕ) (s : Bytes) (at : ℕ) where
  pub number_stops : (r : Result Number Stop) → None ≡ result_ok r → NumberIs decimal low high s at r → (p : ℕ) × Fails decimal s at p
  number_stops (Ok n) q h = absurd (let y : ⊥ = (cc) in y)
  number_stops (Err e) q h = (e.at, h)

  pub number_reads : {d : Number} (r : Result Number Stop) → Some d ≡ result_ok r → NumberIs decimal low high s at r → NumberAt decimal low high s at d
  number_reads {d} (Ok n) q h = let e : n ≡ d = (cc) in rw (← e) h
  number_reads (Err e) q h = absurd (let y : ⊥ = (cc) in y)

-- ---- `plain_number`
no_variable : (v : ℕ) → within 0 (variables - 1) v ≡ false → is_variable v ≡ false
unfolding is_variable
no_variable v o = ⊎_elim (λ t. never (sym (within_yes 0 (variables - 1) v (omega arith) (omega (arith, ltb-true v variables t))) ∙ o)) (λ t. t) (split (ltb v variables))

module _ (s : Name) (at : ℕ) (q : at ≡ behind_x s) where
  -- what is read up to the end or not tells
  told : {v e : ℕ} → Got decimal s at v e → SaysPlain s (cond (eqb e (length s)) (got v []) (stuck (drop e s)))
  told {v} {e} g = rw (← end_at s v e g.inside) (tells_behind s (got v (drop e s)) (rw (← q) g.reads))

  pub plain_stuck : {p : ℕ} → Fails decimal s at p → is_plain s ≡ false
  unfolding to_end
  plain_stuck {p} f = (tells_behind s (stuck (drop p s)) (rw (← q) f.reads)).plain

  pub plain_out : {e : ℕ} → OutOfRange decimal 0 (variables - 1) s at e → is_plain s ≡ false
  plain_out {e} x =
      (told x.taken).plain ∙ by_cond (λ (d : Read ℕ). tells_plain d ≡ false) (eqb e (length s)) (λ _. no_variable x.value x.outside) (λ _. refl)

  module _ {v e : ℕ} (r : InRange decimal 0 (variables - 1) s at v e) where
    pub plain_left : (e ≡ length s → ⊥) → is_plain s ≡ false
    plain_left d = (subst (λ (b : Bool). SaysPlain s (cond b (got v []) (stuck (drop e s)))) (ne_eqb e (length s) d) (told r.taken)).plain

    pub plain_read : e ≡ length s → (is_plain s ≡ true) × (v ≡ plain_number s)
    unfolding is_variable
    plain_read d =
        let t : SaysPlain s (got v []) = subst (λ (b : Bool). SaysPlain s (cond b (got v []) (stuck (drop e s)))) (eq-eqb e (length s) d) (told r.taken) in
        let b = r.below in
        (t.plain ∙ lt-ltb v variables (omega arith), sym t.number)
