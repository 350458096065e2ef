use Rattle.pathspecs.proofs.lemmas.WhichLemmas.{IsBest}
use Rattle.pathspecs.proofs.lists.PathspecList.which.Given as goal

-- the best so far
abbrev pub invariant-elements : goal.invariant-elements
invariant-elements l = IsBest l.element-items l.path l.place l.which l.greatest
