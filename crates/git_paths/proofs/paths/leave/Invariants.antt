use Rattle.std.proofs.Common.{◌≡◌, vec_len}
use Rattle.git_paths.specs.Paths.{folder_of}
use Rattle.git_paths.proofs.paths.leave.Given as goal

-- no slash was taken off
abbrev pub invariant-bytes : goal.invariant-bytes
invariant-bytes l = folder_of l.path.items ≡ folder_of l.initial.path.items

abbrev pub decreases-bytes : goal.decreases-bytes
decreases-bytes l = vec_len l.path
