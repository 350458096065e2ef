-- What else is shown stays.
use Rattle.std.proofs.Common.{List, ℕ, subst}
use Rattle.glob_lists.specs.Private.Asks.Showing.{HoldsBytes}
use Rattle.glob_lists.proofs.lemmas.Asks.KeyLemmas.{path_bits}
use Rattle.glob_lists.proofs.asks.probe.Probe.with_path.Goals as goal

pub returns-clause-shows : goal.returns-clause-shows
returns-clause-shows g c = record {
  ends = c.requires.shows.ends;
  plain = c.requires.shows.plain;
  bytes = path_bits c.args.path.now c.args.basename_start c.args.self.name_bytes c.bytes_of.result c.requires.basename c.requires.shows.name_bytes
      (subst (λ (front : List ℕ). HoldsBytes front c.bytes_of.result) c.front_part.ensures c.bytes_of.ensures);
  name_bytes = c.requires.shows.name_bytes;
}
