-- The promises of published texts, each by the law behind it. Assumes nothing.
use mathlib.Core.Path.{sym, ap, ◌∙◌}
use lib.ListN.{length}
use Rattle.ground.proofs.Decided.{by_equation}
use Rattle.limits.specs.Limits.{host_pool, host_scratch}
use Rattle.paper.specs.Answer.{Answer}
use Rattle.paper.specs.Named.{all_names}
use Rattle.paper.proofs.PlainSpelled.{numbers_apart}
use Rattle.paper.proofs.PublishedText.{line_text_says, published_as_lines}
use Rattle.paper.proofs.PublishedSound.{published_sound, published_counts}
use Rattle.lpac_host.proofs.Hosting.{published_hosted_verdict, published_hosted_line, published_hosted_accepted}
use Rattle.promises.specs.Published.{OneNumberAName, LineTextSays, PublishedAsLines, PublishedIsSound, PublishedCountsAreSums, PublishedDecided, PublishedCheckedIsSound, PublishedHostDecided, PublishedHostTells, PublishedHostedIsSound}
use Rattle.promises.proofs.OfCode.{same_results}

pub one_number_a_name : OneNumberAName
one_number_a_name t = numbers_apart (all_names t)

pub line_text_is_said : LineTextSays
line_text_is_said = line_text_says

pub as_lines : PublishedAsLines
as_lines = published_as_lines

pub published_is_sound : PublishedIsSound
published_is_sound k t pool scratch e =
    let s = published_sound k t pool scratch e in
    record { forced = s.goal_zero; met = λ a z. let d = s.all_zero a z in (d.now, d.only, d.null) }

pub published_counts_are_sums : PublishedCountsAreSums
published_counts_are_sums k t pool scratch e n m =
    let c = published_counts k t pool scratch e n m in
    record { products = c.products; polynomials = c.polynomials; terms = c.terms }

-- ---- the code
pub published_decided : PublishedDecided
published_decided k t pool scratch a b p q r s c d =
    same_results pool scratch c.answer d.answer c.pool_after c.scratch_after d.pool_after d.scratch_after

pub published_checked_is_sound : PublishedCheckedIsSound
published_checked_is_sound k t pool scratch a p q c e =
    published_is_sound k t (length pool) (length scratch) (sym (ap (λ (x : Answer). x.verdict) c.answer) ∙ e)

pub published_host_decided : PublishedHostDecided
published_host_decided k t r s = by_equation

pub published_host_tells : PublishedHostTells
published_host_tells k t r h = (published_hosted_verdict k t r h, published_hosted_line k t r h)

pub published_hosted_is_sound : PublishedHostedIsSound
published_hosted_is_sound k t r h e = published_is_sound k t host_pool host_scratch (published_hosted_accepted k t r h e)
