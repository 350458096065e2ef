-- The set of all bytes and pairs has each of them.
use Rattle.std.proofs.Common.{drop}
use Rattle.glob_lists.proofs.lemmas.Asks.BitLemmas.{all_bits_hold}
use Rattle.glob_lists.proofs.asks.probe.Probe.of_end.Goals as goal

pub returns-clause-shows : goal.returns-clause-shows
returns-clause-shows g c = record {
  ends = c.end_number.ensures;
  plain = c.has_plain_end.ensures;
  bytes = all_bits_hold c.args.path.now;
  name_bytes = λ at alone. all_bits_hold (drop at c.args.path.now);
}
