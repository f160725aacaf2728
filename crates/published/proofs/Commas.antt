-- Readers that stop or go on as another does, and a polynomial behind a comma. Assumes nothing.
use mathlib.Core.Path.{sym}
use Prim.Native.Nat.{ℕ}
use lib.ListN.{drop}
use Rattle.std.proofs.Common.{Result, Ok, Err}
use Rattle.paper.specs.Grammar.{Bytes, Reader, next}
use Rattle.paper.specs.Statement.{WrittenOf}
use Rattle.paper.specs.Published.{Name, symbol, poly}
use Rattle.paper.proofs.Reading.{next_assoc}
use Rattle.reader.specs.Places.{Got, Fails, StopsOr}
use Rattle.reader.specs.declared.stop.Stop.{Stop}
use Rattle.reader.proofs.Following.{got_then, fails_first}
use Rattle.named.proofs.Tokens.{got_as, fails_as}
use Rattle.published.specs.Pairs.{comma_poly}

-- ---- a reader that stops or goes on as another does
pub stops_as : {A A' B : Type 0} {read : Reader A} {read' : Reader A'} {s : Bytes} {at at' : ℕ} {P P' : B → Type 0} (r : Result B Stop)
    → StopsOr read s at P r → ((e : ℕ) → Fails read s at e → Fails read' s at' e) → ((x : B) → P x → P' x) → StopsOr read' s at' P' r
stops_as (Ok x) h f g = g x h
stops_as (Err e) h f g = f e.at h

-- ---- a comma, a polynomial, and what G reads behind it
abbrev behind_comma : {B : Type 0} → (WrittenOf Name → Reader B) → Reader B
behind_comma G = λ r. next (symbol 44 r) (λ _ t. next (poly t) G)

module _ {B : Type 0} (G : WrittenOf Name → Reader B) {s : Bytes} {at : ℕ} where
  pub comma_got : {q : WrittenOf Name} {m e : ℕ} {x : B} → Got comma_poly s at q m → Got (G q) s m x e → Got (behind_comma G) s at x e
  comma_got f g = got_as (behind_comma G) (λ r. next (comma_poly r) G) (sym (next_assoc (symbol 44 (drop at s)) (λ _. poly) G)) (got_then comma_poly G f g)

  pub comma_fails : {e : ℕ} → Fails comma_poly s at e → Fails (behind_comma G) s at e
  comma_fails f = fails_as (behind_comma G) (λ r. next (comma_poly r) G) (sym (next_assoc (symbol 44 (drop at s)) (λ _. poly) G)) (fails_first comma_poly G f)
