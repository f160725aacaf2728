-- What a keyword of the paper is, said of the code's answer.
use Rattle.std.specs.Prelude.{ℕ, Result}
use Rattle.paper.specs.Grammar.{Bytes, Reader}
use Rattle.reader.specs.Places.{Got, StopsOr}
use Rattle.reader.specs.declared.stop.Stop.{Stop}

abbrev pub WordIs : Reader (Unit {0}) → Bytes → ℕ → Result ℕ Stop → Type 0
WordIs read s at r = StopsOr read s at (λ e. Got read s at tt e) r
