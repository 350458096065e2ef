use Rattle.gix_glob.proofs.lemmas.Copies.{all_three}
use Rattle.gix_glob.proofs.search.pattern.list.List.clone.Goals as goal

pub returns : goal.returns
returns g c = all_three _ _ _ c.in_ok-patterns.ensures c.in_ok-source.ensures c.in_ok-base.ensures
