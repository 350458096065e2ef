use Rattle.glob_lists.proofs.lemmas.Asks.BitLemmas.{AreHeldUpTo}
use Rattle.glob_lists.proofs.asks.literals.bits_of.Given as goal

-- the sets have the bytes and the pairs so far
abbrev pub invariant-bytes : goal.invariant-bytes
invariant-bytes l = AreHeldUpTo l.text l.n l.bytes l.pairs
