-- The text stands in the line.
use Rattle.gix_glob_c.proofs.lemmas.PlacesLemmas.{read_before}
use Rattle.gix_glob_c.proofs.parsed.gix_glob_parse.Goals as goal

pub part_of-requires : goal.part_of-requires
part_of-requires c = read_before c.args.line.now _ _ _ _ c.in-Some.ensures.reads
