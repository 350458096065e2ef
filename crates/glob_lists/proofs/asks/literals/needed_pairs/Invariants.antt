use Rattle.glob_lists.proofs.lemmas.Asks.BitLemmas.{IsReadUpTo}
use Rattle.glob_lists.proofs.asks.literals.needed_pairs.Given as goal

-- the text was read so far
abbrev pub invariant-pairs : goal.invariant-pairs
invariant-pairs l = IsReadUpTo l.text l.n l.bits
