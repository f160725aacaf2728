-- A list in which a gap is being closed: a turn of the loop, and what stands where at its end. Assumes nothing.
use mathlib.Core.Path.{◌≡◌, sym, ap, ◌∙◌}
use mathlib.Core.List.{List, ◌++◌}
use Prim.Native.Nat.{ℕ, ◌+◌, ◌-◌, ◌≤◌, ◌<◌}
use native.Mathlib.Nat.{sub-zero}
use native.Mathlib.Omega.{arith}
use lib.ListN.{length, take, drop, get_or, length-drop}
use lib.Seq.{paste, take-append-le, take-take, drop-drop, length-take-le}
use Rattle.ground.proofs.Lists.{drop_take}
use Rattle.words.specs.Parts.{part}
use Rattle.words.proofs.Parts.{drop_to_paste}
use Rattle.table.specs.Columns.{Closed, Shifted, Lowered}

-- m elements that were moved stood len further on
pub moved_part : (d : List ℕ) (at len used b m : ℕ) → at ≤ b → b + len + m ≤ used → used ≤ length d
    → part b m (paste d at (drop (at + len) d) (used - (at + len))) ≡ part (b + len) m d
moved_part d at len used b m h k l =
    let n : ℕ = used - (at + len) in
    let s : List ℕ = drop (at + len) d in
    let r : List ℕ = paste d at s n in
    let i : ℕ = b - at in
    let hs : n ≤ length s = simp length-drop (omega arith) in
    let ln : length (take n s) ≡ n = length-take-le n s hs in
    let eb : at + i ≡ b = omega arith in
    let ef : at + len + i ≡ b + len = omega arith in
    let p : drop i (drop at r) ≡ drop b r = drop-drop i at r ∙ ap (λ (q : ℕ). drop q r) eb in
    let t : take (i + m) (take n s ++ drop (at + n) d) ≡ take (i + m) s
    = take-append-le (i + m) (take n s) (drop (at + n) d) (omega arith) ∙ take-take (i + m) n s (omega arith) in
    ap (take m) (sym p ∙ ap (drop i) (drop_to_paste d at s n (omega arith) hs))
    ∙ sym (drop_take i m (take n s ++ drop (at + n) d)) ∙ ap (drop i) t ∙ drop_take i m s
    ∙ ap (take m) (drop-drop i (at + len) d ∙ ap (λ (q : ℕ). drop q d) ef)

-- ---- a column
pub closed_column : (a r : List ℕ) (j n : ℕ) → j < n → Shifted a j 1 n r → Closed a j n 0 r
closed_column a r j n h c = record { before = λ k l. c.1 k 0 l; behind = behind; rest = λ k l. c.2 k 0 (omega arith) }
  where
    behind : (k : ℕ) → j ≤ k → k + 1 < n → get_or r k 0 ≡ get_or a (k + 1) 0 - 0
    behind k l m =
        let e : j + 1 + (k - j) ≡ k + 1 = omega arith in
        c.0 k 0 l (omega arith) ∙ ap (λ (i : ℕ). get_or a i 0) e ∙ sym (sub-zero _)

pub closed_lowered : (a r q : List ℕ) (j n fall : ℕ) → j < n → Closed a j n 0 r → Lowered r j (n - 1) fall q → Closed a j n fall q
closed_lowered a r q j n fall h c l = record {
  before = λ k b. l.before k b ∙ c.before k b;
  behind = λ k b m. l.inside k b (omega arith) ∙ ap (λ (x : ℕ). x - fall) (c.behind k b m ∙ sub-zero _);
  rest = λ k b. l.rest k (omega arith) ∙ c.rest k b;
}
