-- What a line asks for, by its decimal and the byte behind it; and how far a spelling reaches into the output. Assumes nothing.
use mathlib.Core.Path.{◌≡◌, refl, sym, ap, ◌∙◌}
use mathlib.Core.Bool.{true, false}
use Prim.Native.Nat.{ℕ, ◌+◌, ◌≤◌, ◌<◌}
use native.Mathlib.Omega.{arith}
use lib.ListN.{length, drop, length-append}
use Rattle.std.proofs.Common.{Option, Some, None, Result, Ok, Err, IfOk}
use Rattle.std.specs.Result.{result_ok}
use Rattle.std.proofs.lemmas.Option.{none-some}
use Rattle.std.specs.Option.{unwrap_or}
use Rattle.limits.specs.Limits.{greatest_ring}
use Rattle.paper.specs.Grammar.{Bytes, decimal}
use Rattle.paper.specs.Spelling.{Spelled, output_after}
use Rattle.reader.specs.Places.{Got}
use Rattle.reader.specs.Numbers.{ValueAt, DecimalAt, DecimalIs}
use Rattle.reader.specs.Fields.{stands_at}
use Rattle.reader.specs.declared.number.Number.{Number}
use Rattle.reader.specs.declared.stop.Stop.{Stop}
use Rattle.reader.proofs.Decided.{same_end}
use Rattle.reader.proofs.Fields.{stands}
use Rattle.speller.specs.Spells.{Answer, Gives}
use Rattle.lpac_spell.specs.Asks.{tab_at, AskedIs}

-- the byte behind the decimal is a tab, or another
pub tab_stands : (s : Bytes) (i : ℕ) → stands_at s i 9 ≡ tab_at s i
unfolding stands_at tab_at
tab_stands s i = refl

-- a decimal ends at e, and k stands for it
record StandsFor (s : Bytes) (e k : ℕ) : Type 0 where
  value : ℕ
  taken : Got decimal s 0 value e
  small : value ≤ greatest_ring → k ≡ value
  large : greatest_ring < value → greatest_ring < k

module _ (s : Bytes) (n : Number) (h : DecimalAt decimal s 0 n) where
  stands_for : StandsFor s n.end (unwrap_or n.value (greatest_ring + 1))
  stands_for = go n.value h
    where
      go : (o : Option ℕ) → ValueAt decimal s 0 n.end o → StandsFor s n.end (unwrap_or o (greatest_ring + 1))
      go (Some v) g = record { value = v; taken = g; small = λ l. refl; large = λ l. l }
      go None t =
          let b = t.large in
          record { value = t.value; taken = t.taken; small = λ l. absurd (let z : ⊥ = omega arith in z); large = λ l. omega arith }

  pub asks_not : stands_at s n.end 9 ≡ false → AskedIs s None
  asks_not t m e g u =
      let y : true ≡ false = sym u ∙ ap (tab_at s) (same_end decimal s 0 g stands_for.taken).1 ∙ sym (tab_stands s n.end) ∙ t in
      let z : ◌≡◌ {A = ℕ} 0 1 = cc in
      omega arith

  pub asks_some : (k : ℕ) → k ≡ unwrap_or n.value (greatest_ring + 1) → stands_at s n.end 9 ≡ true → AskedIs s (Some (record { k = k; at = n.end + 1 }))
  asks_some k q t =
      let v = stands_for in
      rw q (record {
        value = v.value;
        tab = n.end;
        taken = v.taken;
        tabbed = sym (tab_stands s n.end) ∙ t;
        behind = refl;
        inside = omega (arith, (stands s n.end 9 t).0);
        small = v.small;
        large = v.large;
      })

-- the decimal that was read
pub decimal_of : (s : Bytes) (r : Result Number Stop) (n : Number) → DecimalIs decimal s 0 r → Some n ≡ result_ok r → DecimalAt decimal s 0 n
decimal_of s (Ok m) n h q = let e : n ≡ m = cc in rw e h
decimal_of s (Err e) n h q = absurd (none-some n (sym q))

-- the spelling stands within the output
pub written_inside : (x : Spelled) {out out' : Bytes} (r : Answer) → Gives x out out' r → IfOk r (λ n. n ≤ length out')
unfolding output_after
written_inside x {out} (Ok n) g = omega (arith, g.written, ap length g.output ∙ length-append x.spelling (drop (length x.spelling) out))
written_inside x (Err why) g = tt
