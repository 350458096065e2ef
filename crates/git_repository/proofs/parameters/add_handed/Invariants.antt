use Rattle.std.proofs.Common.{length}
use Rattle.git_repository.proofs.parameters.add_handed.Given as goal

abbrev pub decreases-words : goal.decreases-words
decreases-words l = length l.rest
