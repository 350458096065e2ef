use Rattle.git_index.proofs.lemmas.Holding.{is_none_by}
use Rattle.git_index.proofs.tracked_paths.TrackedPaths.is_empty.Goals as goal

pub returns : goal.returns
returns c = is_none_by c.entries.result.now c.args.self.now c.is_empty.result c.entries.ensures c.is_empty.ensures
