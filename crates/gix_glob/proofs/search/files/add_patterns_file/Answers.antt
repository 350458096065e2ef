use Rattle.std.proofs.Common.{rules}
use Rattle.gix_glob.proofs.search.files.add_patterns_file.Goals as goal

pub returns-in_ok-map_err-in-Some-clause-answer : goal.returns-in_ok-map_err-in-Some-clause-answer
returns-in_ok-map_err-in-Some-clause-answer g c = record {
  list = c.in-Some.list;
  grown = search rules;
  loaded = search rules;
}
