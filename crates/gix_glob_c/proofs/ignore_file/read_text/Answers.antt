-- A part of the front is a part of the bytes.
use Rattle.glob_attributes.proofs.lemmas.PartLemmas.{part_of_part}
use Rattle.gix_glob_c.proofs.ignore_file.read_text.Goals as goal

pub returns-in-Some-clause-place : goal.returns-in-Some-clause-place
returns-in-Some-clause-place c = λ yes. part_of_part c.gix_glob_parse.new.out.text c.front_part.result c.args.bytes (c.gix_glob_parse.ensures.place yes) c.front_part.ensures.place
