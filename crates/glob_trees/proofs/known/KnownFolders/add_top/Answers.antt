-- Only the top is known, and nothing in it.
use Rattle.glob_trees.proofs.lemmas.Links.{knows_top}
use Rattle.glob_trees.proofs.known.KnownFolders.add_top.Goals as goal

pub returns : goal.returns
returns c = knows_top c.args.self.now.inner.items c.push.new.self.items c.new-top.result c.requires c.new-top.ensures.empty c.in_ok-push.ensures.items
