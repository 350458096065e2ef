-- The equation is over the reading, which the law of readings gives.
use Rattle.std.proofs.Common.{true, Option, ap}
use Rattle.std.specs.Option.{option_map, option_to_list}
use Rattle.gix_glob.specs.Equations.Readings.{Reading}
use Rattle.gix_glob.specs.Equations.Entries.{entry_with}
use Rattle.glob_uses.proofs.own_parser.whole_entries_are_these.Goals as goal

pub returns-clause-read : goal.returns-clause-read
returns-clause-read c = λ bytes text mode place reads.
    ap (λ (r : Option Reading). option_to_list (option_map (entry_with tt 1) r))
    ((c.readings_are_these.ensures.some bytes true text mode place).0 reads)
