-- An end without slash is one of the last part.
use Rattle.std.proofs.Common.{List, ℕ, subst}
use Rattle.glob_lists.specs.Private.Asks.Showing.{HoldsBits}
use Rattle.glob_lists.proofs.lemmas.Asks.KeyLemmas.{name_bits}
use Rattle.glob_lists.proofs.asks.probe.Probe.with_name.Goals as goal

pub returns-clause-shows : goal.returns-clause-shows
returns-clause-shows g c = record {
  ends = c.requires.shows.ends;
  plain = c.requires.shows.plain;
  bytes = c.requires.shows.bytes;
  name_bytes = name_bits c.args.path.now c.args.basename_start c.bits_of.result c.requires.basename
      (subst (λ (name : List ℕ). HoldsBits name c.bits_of.result) c.last_part-name.ensures c.bits_of.ensures);
}
