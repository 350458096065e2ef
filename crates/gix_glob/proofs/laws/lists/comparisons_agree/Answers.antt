-- The laws of the bounds.
use Rattle.std.proofs.Common.{sym, ◌∙◌}
use Rattle.std.specs.Cmp.{Equal-is}
use Rattle.gix_glob.proofs.laws.lists.comparisons_agree.Goals as goal

pub returns-clause-ties : goal.returns-clause-ties
returns-clause-ties g c = λ a b.
    let same = g.met.T.Ord.matches_eq a b in
    (λ tie. same ∙ (Equal-is _).1 tie, λ equal. (Equal-is _).0 (sym same ∙ equal))

pub returns-clause-hash : goal.returns-clause-hash
returns-clause-hash g c = g.met.T.Hash.respects_eq
