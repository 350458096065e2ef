-- The type keeps it.
use Rattle.std.proofs.Common.{subst}
use Rattle.gix_glob.specs.RepositoryPaths.{IsBasenameStart}
use Rattle.glob_lists.specs.Paths.{Path}
use Rattle.glob_lists.proofs.path.RepositoryPath.basename_start.Goals as goal

pub returns : goal.returns
returns c = subst (λ (path : Path). IsBasenameStart path.bytes c.self.inside.basename_start) c.self.view_is c.self.invariant.basename
