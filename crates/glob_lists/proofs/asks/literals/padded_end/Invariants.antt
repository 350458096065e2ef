use Rattle.glob_lists.proofs.lemmas.Asks.EndNumbers.{IsPadded}
use Rattle.glob_lists.proofs.asks.literals.padded_end.Given as goal

-- the number of the bytes so far
abbrev pub invariant-bytes : goal.invariant-bytes
invariant-bytes l = IsPadded l.text l.n l.key
