use Rattle.std.proofs.Common.{length}
use Rattle.git_repository.proofs.branch.has.Given as goal

abbrev pub decreases-bytes : goal.decreases-bytes
decreases-bytes l = length l.rest
