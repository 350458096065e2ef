use Rattle.std.proofs.Common.{◌≡◌}
use Rattle.tree_commands.specs.CheckIgnore.{NoTopBefore}
use Rattle.tree_commands.proofs.check_ignore.kinds.left_behind_top.Given as goal

-- what is known stays, and no folder that was asked is known to be the top
abbrev pub invariant-folders : goal.invariant-folders
invariant-folders g l =
    (g.K.PathKinds.known l.kinds ≡ g.K.PathKinds.known l.fn.kinds) × NoTopBefore (g.K.PathKinds.known l.fn.kinds).is_top l.path l.end
