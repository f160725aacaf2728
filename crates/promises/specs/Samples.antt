-- Samples 1 to 11 of the paper and those of the width, one list: what the definitions give of each, and what the paper says.
use mathlib.Core.{Path.◌≡◌, List.List, List.[], List.◌∷◌, List.map}
use Prim.Native.{Nat.ℕ, String.String}
use Rattle.limits.specs.Limits.{host_pool, host_scratch, least_spelling_scratch, line_bytes}
use Rattle.limits.specs.Verdicts.{ACCEPTED}
use Rattle.paper.specs.Grammar.{bytes}
use Rattle.paper.specs.Answer.{Answer, answer}
use Rattle.paper.specs.Spelling.{Spelled, spell_field}

pub record Sample : Type 0 where
  pub found : List ℕ
  pub said : List ℕ

unfoldable pub numbers : Answer → List ℕ
numbers a = a.verdict ∷ a.line ∷ a.index ∷ a.products ∷ a.polynomials ∷ a.terms ∷ []

-- a text in the host call's room and its six numbers; a field at k and its spelling
unfoldable pub text : String → List ℕ → Sample
text s six = record { found = numbers (answer (bytes s) host_pool host_scratch); said = six }

unfoldable pub spelling : ℕ → String → String → Sample
spelling k f s =
    let r : Spelled = spell_field (bytes f) k least_spelling_scratch line_bytes in
    record { found = r.verdict ∷ r.spelling; said = ACCEPTED ∷ bytes s }

-- 1 to 4; 5 to 8, of which the sixth has two; 9 to 11, of which the ninth and the last have two; variable 319, and none beyond it
unfoldable pub samples : List Sample
samples =
    text "ring\t8\nin\t1\t-1.2 1.0.1\ngoal\t1.2 -1.0.2\nlin\t2\t1.2 -1.0.2\t1\t1.0 -1\n" (0 ∷ 0 ∷ 0 ∷ 4 ∷ 2 ∷ 4 ∷ [])
    ∷ text "ring\t8\nin\t1\t-1.2 1.0.1\ngoal\t1.2 -1.0.2\n" (16 ∷ 3 ∷ 0 ∷ 0 ∷ 1 ∷ 2 ∷ [])
    ∷ text "ring\t8\nin\t1\t-1.2 1.0.1\ngoal\t1.2 -1.0.2\nlin\t2\t1.2\t1\t1.0 -1\n" (12 ∷ 4 ∷ 2 ∷ 0 ∷ 1 ∷ 2 ∷ [])
    ∷ text "" (15 ∷ 0 ∷ 0 ∷ 0 ∷ 0 ∷ 0 ∷ [])
    ∷ spelling 8 "1.1.0 255.0.1" "0"
    ∷ spelling 8 "128" "128"
    ∷ spelling 8 "129" "-127"
    ∷ spelling 1 "3.5.5" "1.5"
    ∷ spelling 8 "1 1.0 1.1" "1.1 1.0 1"
    ∷ text "ring\t1\ngoal\t1\next\t1\t2\t1.0 1.1\n" (16 ∷ 3 ∷ 0 ∷ 4 ∷ 1 ∷ 3 ∷ [])
    ∷ text "ring\t2\ngoal\t1\next\t1\t2\t1.0 1.1\n" (13 ∷ 3 ∷ 1 ∷ 0 ∷ 0 ∷ 0 ∷ [])
    ∷ text "ring\t8\ngoal\t1\next\t1\t2\t1.0 1.1 -2.0.1\n" (16 ∷ 3 ∷ 0 ∷ 9 ∷ 1 ∷ 4 ∷ [])
    ∷ text "ring\t1\ngoal\t1\next\t1\t2\t2.0\n" (16 ∷ 3 ∷ 0 ∷ 0 ∷ 1 ∷ 1 ∷ [])
    ∷ text "ring\t2\ngoal\t1\next\t1\t2\t2.0\n" (13 ∷ 3 ∷ 1 ∷ 0 ∷ 0 ∷ 0 ∷ [])
    ∷ spelling 8 "1.319.0" "1.0.319"
    ∷ text "ring\t8\nin\t1\t1.319\ngoal\t1.319\n" (0 ∷ 0 ∷ 0 ∷ 0 ∷ 1 ∷ 1 ∷ [])
    ∷ text "ring\t8\nin\t1\t1.320\n" (5 ∷ 2 ∷ 0 ∷ 0 ∷ 0 ∷ 0 ∷ [])
    ∷ []

-- every one comes out as it says
abbrev pub AllAsSaid : Type 0
AllAsSaid = map (λ s. s.found) samples ≡ map (λ s. s.said) samples
