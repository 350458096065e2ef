use Rattle.git_index.proofs.tracked_paths.TrackedPaths.submodule_of.Goals as goal

pub returns-clause-none : goal.returns-clause-none
returns-clause-none c = rw c.self.view_is at c.submodule_above.ensures.none
