use Rattle.glob_lists.proofs.deciding.decide.Goals as goal

pub returns : goal.returns
returns g c = rw c.by_crate.ensures at c.decide_by.ensures
