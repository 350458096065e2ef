-- What stands before a slash of a plain path is plain.
use Rattle.std.proofs.Common.{sym, subst}
use Rattle.gix_glob.specs.Bytes.{HasByte, slash}
use Rattle.glob_lists.specs.Paths.{Path}
use Rattle.glob_lists.proofs.lemmas.Deciding.PathsLemmas.{IsPlainPath-folder}
use Rattle.glob_lists.proofs.path.RepositoryPath.folder_before.Goals as goal

pub from_plain-requires : goal.from_plain-requires
from_plain-requires c =
    IsPlainPath-folder _ _ c.self.invariant.plain (subst (λ (path : Path). HasByte path.bytes c.args.place slash) (sym c.self.view_is) c.requires)
