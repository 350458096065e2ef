use Rattle.glob_trees.proofs.deciding.decide_in_tree.Goals as goal

pub returns : goal.returns
returns g c = rw c.by_crate.ensures at (c.decide_in_tree_by.ensures.exact tt)
