-- The text is too long, or it is checked.
use Rattle.std.proofs.Common.{refl}
use Rattle.lpac_host.proofs.Hosting.{hosted_long, hosted_checked}
use Rattle.lpac_host.proofs.host_answer.Goals as goal

pub returns-then-text-gt-HOST_TEXT_BYTES : goal.returns-then-text-gt-HOST_TEXT_BYTES
returns-then-text-gt-HOST_TEXT_BYTES c = hosted_long c.args.text.now c.if-text-gt-HOST_TEXT_BYTES.true c.unread.ensures

pub returns : goal.returns
returns c = hosted_checked c.args.text.now c.if-text-gt-HOST_TEXT_BYTES.false refl refl c.check.ensures
