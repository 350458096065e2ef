-- The path of a plain line is plain.
use Rattle.glob_lists.proofs.lemmas.Deciding.PathsLemmas.{IsPlainPath-marked}
use Rattle.glob_lists.proofs.path.RepositoryPath.of_line.Goals as goal

pub from_plain-requires : goal.from_plain-requires
from_plain-requires c = IsPlainPath-marked _ _ _ (c.plain_path.ensures.0 c.if-not-plain_path.false) c.path_of-is_dir.ensures
