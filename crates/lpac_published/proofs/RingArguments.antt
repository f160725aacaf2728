-- What the argument K says, by its number and where that ends. Assumes nothing.
use mathlib.Core.Path.{◌≡◌, refl}
use mathlib.Core.Bool.{false}
use Prim.Native.Nat.{ℕ}
use lib.ListN.{length}
use Rattle.std.proofs.Common.{Option, Some, None}
use Rattle.std.specs.Option.{unwrap_or}
use Rattle.limits.specs.Limits.{greatest_ring}
use Rattle.paper.specs.Grammar.{Bytes, decimal}
use Rattle.paper.specs.Statement.{within, is_ring}
use Rattle.paper.specs.Named.{Texts, published_answer}
use Rattle.reader.specs.Numbers.{RangedAt, NumberAt}
use Rattle.reader.specs.declared.number.Number.{Number}
use Rattle.reader.proofs.Numbers.{number_takes}
use Rattle.reader.proofs.Decided.{same_end}
use Rattle.lpac_host.specs.Hosted.{published_host_answer}
use Rattle.lpac_published.specs.RingArgument.{StandsFor, RingArgumentIs}

-- all that are out of range have one answer
same_outside : (k n : ℕ) → within 1 greatest_ring k ≡ false → within 1 greatest_ring n ≡ false → (t : Texts) → published_host_answer k t ≡ published_host_answer n t
unfolding published_host_answer published_answer is_ring
same_outside k n a b t = rw (a, b) refl

module _ (word : Bytes) (n : Number) (h : NumberAt decimal 1 greatest_ring word 0 n) where
  pub ring_whole : (k : ℕ) → k ≡ unwrap_or n.value 0 → n.end ≡ length word → StandsFor word k
  ring_whole k q w = rw q (go n.value h)
    where
      go : (o : Option ℕ) → RangedAt decimal 1 greatest_ring word 0 n.end o → StandsFor word (unwrap_or o 0)
      go (Some v) r = record { value = v; whole = rw (← w) r.taken; answers = λ t. refl }
      go None r = record { value = r.value; whole = rw (← w) r.taken; answers = same_outside 0 r.value refl r.outside }

  pub ring_not : (n.end ≡ length word → ⊥) → RingArgumentIs word None
  ring_not w m g = w (same_end decimal word 0 (number_takes decimal 1 greatest_ring word 0 n h).1 g).1
