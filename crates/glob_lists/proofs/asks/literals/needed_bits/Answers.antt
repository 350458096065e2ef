use Rattle.glob_lists.proofs.lemmas.Asks.BitLemmas.{AsksForBits-free, NeedsBits-or}
use Rattle.glob_lists.proofs.asks.literals.needed_bits.Goals as goal

pub returns : goal.returns
returns c = AsksForBits-free c.args.text.now _ (NeedsBits-or c.args.text.now c.needed_bytes.result c.needed_pairs.result c.needed_bytes.ensures c.needed_pairs.ensures)
