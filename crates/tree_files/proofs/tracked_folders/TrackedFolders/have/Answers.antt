use Rattle.tree_files.proofs.tracked_folders.TrackedFolders.have.Goals as goal

pub returns-in-Some : goal.returns-in-Some
returns-in-Some c = rw c.in-Some.is (c.has_below.ensures c.args.self.now.index.now (c.args.self.now.fits c.in-Some.folded c.in-Some.is))
