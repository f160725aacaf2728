-- `terms::term_of` meets its contract: the coefficient stands behind the words of the set. Assumes nothing.
use Rattle.std.proofs.Common.{ℕ, List, [], ◌∷◌, ◌++◌, ap, ◌∙◌, rules}
use Rattle.terms.specs.Terms.{term_of}
use Rattle.terms.proofs.Decode.{term_made}
use Rattle.terms.proofs.term_of.Goals as goal

pub returns : goal.returns
returns c =
    let a = c.args in
    ap (λ (l : List ℕ). term_of (l ++ (a.c ∷ []))) c.copy_from_slice.ensures.after ∙ term_made a.a a.c (search rules)
