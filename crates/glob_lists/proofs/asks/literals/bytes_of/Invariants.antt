use Rattle.glob_lists.proofs.lemmas.Asks.BitLemmas.{HoldsUpTo}
use Rattle.glob_lists.proofs.asks.literals.bytes_of.Given as goal

-- the set has the bytes so far
abbrev pub invariant-loop-byte : goal.invariant-loop-byte
invariant-loop-byte l = HoldsUpTo l.text l.byte-index l.bits
