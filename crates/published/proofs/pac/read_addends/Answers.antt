-- `published::pac::read_addends` meets its contract: an id, a comma and an id in a row, and the sum of what they name. No loop.
-- Assumes nothing.
use native.Mathlib.Omega.{arith}
use Rattle.reader.proofs.Following.{same_err}
use Rattle.reader.proofs.Verdicts.{lesser_accepted}
use Rattle.scratch.proofs.Keeping.{kept_refl, kept_trans}
use Rattle.published.proofs.Summing.{one_added, addends_unread, addends_parted, addends_stuck, addends_took}
use Rattle.published.proofs.pac.read_addends.Goals as goal

pub returns-in_err-i : goal.returns-in_err-i
returns-in_err-i c = λ names. rw (same_err c.from_residual.result c.from_residual.ensures.1) (record { said = addends_unread c.in_err-i.ensures; kept = kept_refl })

pub returns-in_err-symbol_at : goal.returns-in_err-symbol_at
returns-in_err-symbol_at c = λ names.
    rw (same_err c.from_residual-in_err-symbol_at.result c.from_residual-in_err-symbol_at.ensures.1)
    (record { said = addends_parted c.in_ok-i.ensures c.in_err-symbol_at.ensures; kept = kept_refl })

pub returns-in_err-j : goal.returns-in_err-j
returns-in_err-j c = λ names.
    rw (same_err c.from_residual-in_err-j.result c.from_residual-in_err-j.ensures.1)
    (record { said = addends_stuck c.in_ok-i.ensures c.in_ok-symbol_at.ensures c.in_err-j.ensures; kept = kept_refl })

pub add_one-first-requires : goal.add_one-first-requires
add_one-first-requires c = (c.requires.1, λ a d. (_, c.none.ensures.summed _ _ _))

pub add_one-requires : goal.add_one-requires
add_one-requires c = (
  omega (arith, c.requires.1, c.add_one-first.ensures.kept.same),
  λ a d. (_, c.add_one-first.ensures.summed (lesser_accepted c.add_one-first.result.why c.in_ok-j.j.why a).0 d (λ n. 0) _ (c.none.ensures.summed _ _ _)),
)

pub returns : goal.returns
returns c = λ names. record {
  said = addends_took c.none.ensures (one_added names c.in_ok-i.ensures c.add_one-first.ensures) c.add_one-first.ensures.behind.end c.in_ok-symbol_at.ensures
      (one_added names c.in_ok-j.ensures c.add_one.ensures);
  kept = kept_trans c.add_one-first.ensures.kept c.add_one.ensures.kept;
}
