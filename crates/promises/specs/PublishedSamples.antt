-- Published texts whose answers are known: short ones in one list, and one with an extension.
use mathlib.Core.{Path.◌≡◌, List.List, List.[], List.◌∷◌, List.map}
use Prim.Native.{Nat.ℕ, String.String}
use Rattle.limits.specs.Limits.{host_pool, host_scratch}
use Rattle.paper.specs.Grammar.{bytes}
use Rattle.paper.specs.Named.{Texts, published_answer}
use Rattle.promises.specs.Samples.{Sample, numbers}

abbrev pub three_texts : String → String → String → Texts
three_texts constraints goals steps = record { constraints = bytes constraints; target = bytes goals; proof = bytes steps }

-- ---- short texts at k = 8, in the host call's room, and their six numbers
unfoldable pub sample_texts : String → String → String → List ℕ → Sample
sample_texts constraints goals steps six = record { found = numbers (published_answer 8 (three_texts constraints goals steps) host_pool host_scratch); said = six }

-- white space of all kinds and omitted factors; a sum and a product of PAC; 1d among constraints is the polynomial d;
-- a coefficient without its *; an id alone; a name with a leading zero is no number
unfoldable pub published_samples : List Sample
published_samples =
    sample_texts "\r\n1\tx ;\r\n" "2 *\n x;" "3 % 1 + 1 , 2*x ;\r\n" (0 ∷ 0 ∷ 0 ∷ 2 ∷ 2 ∷ 2 ∷ [])
    ∷ sample_texts "1 a;" "2*a;" "3 + 1, 1, 2*a;" (0 ∷ 0 ∷ 0 ∷ 2 ∷ 2 ∷ 2 ∷ [])
    ∷ sample_texts "1 a;" "2*a;" "3 * 1, 2, 2*a;" (0 ∷ 0 ∷ 0 ∷ 1 ∷ 2 ∷ 2 ∷ [])
    ∷ sample_texts "1d;" "d;" "1 d;" (0 ∷ 0 ∷ 0 ∷ 0 ∷ 0 ∷ 0 ∷ [])
    ∷ sample_texts "1 2a;" "a;" "" (4 ∷ 1 ∷ 0 ∷ 0 ∷ 0 ∷ 0 ∷ [])
    ∷ sample_texts "1 a;12;" "a;" "" (4 ∷ 2 ∷ 0 ∷ 0 ∷ 1 ∷ 1 ∷ [])
    ∷ sample_texts "1 x1;" "x01;" "" (16 ∷ 2 ∷ 0 ∷ 0 ∷ 1 ∷ 1 ∷ [])
    ∷ []

-- every one comes out as it says
abbrev pub PublishedAsSaid : Type 0
PublishedAsSaid = map (λ s. s.found) published_samples ≡ map (λ s. s.said) published_samples

-- ---- PAC's resolution step, which derives a clause from two by an extension variable
unfoldable pub resolution : Texts
resolution = three_texts "1 x*y;\n2 y*z-y-z+1;\n" "-x*z+x;"
    "3 = fz, -z+1;\n4 * 3, y-1, -fz*y+fz-y*z+y+z-1;\n5 + 2, 4, -fz*y+fz;\n6 * 1, fz, fz*x*y;\n7 * 5, x, -fz*x*y+fz*x;\n8 + 6, 7, fz*x;\n9 * 3, x, -fz*x-x*z+x;\n10 + 8, 9, -x*z+x;\n"

abbrev pub ResolutionAccepted : Type 0
ResolutionAccepted = numbers (published_answer 8 resolution host_pool host_scratch) ≡ 0 ∷ 0 ∷ 0 ∷ 33 ∷ 10 ∷ 25 ∷ []
