use Rattle.std.proofs.Common.{◌<◌, length}
use Rattle.git_repository.proofs.parameters.unquote.Given as goal

-- what is left is shorter than the text
abbrev pub invariant-bytes : goal.invariant-bytes
invariant-bytes l = length l.rest < length l.text

abbrev pub decreases-bytes : goal.decreases-bytes
decreases-bytes l = length l.rest
