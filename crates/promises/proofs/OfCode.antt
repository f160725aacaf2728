-- The promises of the code, from the equations of its contract. Assumes nothing.
use mathlib.Core.Path.{◌≡◌, sym, ap, ◌∙◌}
use mathlib.Core.List.{List}
use Prim.Native.Nat.{ℕ}
use lib.ListN.{length}
use Rattle.ground.proofs.Decided.{by_equation}
use Rattle.paper.specs.Answer as paper
use Rattle.paper.specs.Answer.{room_after}
use Rattle.checker.specs.declared.answer.Answer.{Answer}
use Rattle.checker.specs.Checked.{answer_of}
use Rattle.limits.specs.Limits.{host_pool, host_scratch}
use Rattle.lpac_host.proofs.Hosting.{hosted_verdict, hosted_line, hosted_accepted}
use Rattle.promises.specs.Promises.{Decided, CheckedIsSound, HostDecided, HostTells, HostedIsSound}
use Rattle.promises.proofs.Promises.{accepted_is_sound}

-- the six numbers are all there is of an answer
same_answer : (a b : Answer) → answer_of a ≡ answer_of b → a ≡ b
same_answer a b e = λ i. record {
  verdict = (e i).verdict;
  line = (e i).line;
  index = (e i).index;
  products = (e i).products;
  polynomials = (e i).polynomials;
  terms = (e i).terms;
}

same_room : (room : List ℕ) {p r : List ℕ} {v w : ℕ} → v ≡ w → p ≡ room_after v room → r ≡ room_after w room → p ≡ r
same_room room e f g = f ∙ ap (λ (x : ℕ). room_after x room) e ∙ sym g

-- two answers by one of the paper, with their rooms afterwards
pub same_results : {x : paper.Answer} (pool scratch : List ℕ) {a b : Answer} {p q r s : List ℕ} → answer_of a ≡ x → answer_of b ≡ x → p ≡ room_after a.verdict pool → q ≡ room_after a.verdict scratch
    → r ≡ room_after b.verdict pool → s ≡ room_after b.verdict scratch → (a ≡ b) × (p ≡ r) × (q ≡ s)
same_results pool scratch {a} {b} f g p q r s =
    let e : answer_of a ≡ answer_of b = f ∙ sym g in
    let v : a.verdict ≡ b.verdict = ap (λ (x : paper.Answer). x.verdict) e in
    (same_answer a b e, same_room pool v p r, same_room scratch v q s)

pub decided : Decided
decided text pool scratch a b p q r s c d = same_results pool scratch c.answer d.answer c.pool_after c.scratch_after d.pool_after d.scratch_after

pub checked_is_sound : CheckedIsSound
checked_is_sound text pool scratch a p q c e =
    accepted_is_sound text (length pool) (length scratch) (sym (ap (λ (x : paper.Answer). x.verdict) c.answer) ∙ e)

pub host_decided : HostDecided
host_decided text r s = by_equation

pub host_tells : HostTells
host_tells text r h = (hosted_verdict text r h, hosted_line text r h)

pub hosted_is_sound : HostedIsSound
hosted_is_sound text r h e = accepted_is_sound text host_pool host_scratch (hosted_accepted text r h e)
