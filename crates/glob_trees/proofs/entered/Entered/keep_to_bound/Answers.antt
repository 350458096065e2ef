-- The fronts are there, whatever is entered.
use Rattle.glob_trees.proofs.lemmas.InFolder.{have_fronts}
use Rattle.glob_trees.proofs.entered.Entered.keep_to_bound.Goals as goal

pub forget-requires : goal.forget-requires
forget-requires g c = record { fronts = have_fronts (g.S.FolderLists.shows g.T.Pattern.Seen) g.S.FolderLists.gave g.T.Pattern.seen c.args.self.now c.requires.ready }
