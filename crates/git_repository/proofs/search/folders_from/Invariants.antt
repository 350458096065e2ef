use Rattle.std.proofs.Common.{length}
use Rattle.git_repository.proofs.search.folders_from.Given as goal

abbrev pub decreases-folders : goal.decreases-folders
decreases-folders l = length l.folder
