-- What is known of kinds stays.
use Rattle.std.proofs.Common.{◌≡◌}
use Rattle.tree_commands.proofs.check_ignore.unlinked.UnlinkedFolders.check.Given as goal

abbrev pub invariant-bytes : goal.invariant-bytes
invariant-bytes g l = g.K.PathKinds.known l.kinds ≡ g.K.PathKinds.known l.fn.kinds
