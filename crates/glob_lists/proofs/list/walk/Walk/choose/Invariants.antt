use Rattle.glob_lists.proofs.lemmas.Lists.WalkLemmas.{IsLatestUpTo}
use Rattle.glob_lists.proofs.list.walk.Walk.choose.Given as goal

-- the latest so far
abbrev pub invariant-nexts : goal.invariant-nexts
invariant-nexts l = record {
  latest : IsLatestUpTo l.self l.n l.latest;
}
