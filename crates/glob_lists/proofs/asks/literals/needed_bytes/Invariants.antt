use Rattle.glob_lists.proofs.lemmas.Asks.BitLemmas.{IsReadUpTo}
use Rattle.glob_lists.proofs.asks.literals.needed_bytes.Given as goal

-- the text was read so far
abbrev pub invariant-loop-byte : goal.invariant-loop-byte
invariant-loop-byte l = IsReadUpTo l.text l.byte-index l.bits
