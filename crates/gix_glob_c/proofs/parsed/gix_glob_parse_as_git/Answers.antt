-- The text stands in the line.
use Rattle.gix_glob_c.proofs.lemmas.PlacesLemmas.{git_read_before}
use Rattle.gix_glob_c.proofs.parsed.gix_glob_parse_as_git.Goals as goal

pub part_of-requires : goal.part_of-requires
part_of-requires c = git_read_before c.args.line.now _ _ _ c.from_git_line-view.ensures.reads
