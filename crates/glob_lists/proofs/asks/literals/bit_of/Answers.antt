-- The two cases of a letter are 32 apart.
use Rattle.std.proofs.Common.{ℕ, ◌*◌, ◌%◌, ◌^◌, ap}
use Rattle.glob_lists.proofs.lemmas.Asks.BitLemmas.{same_bit}
use Rattle.glob_lists.proofs.asks.literals.bit_of.Goals as goal

pub returns : goal.returns
returns c = ap (λ (k : ℕ). 1 * 2 ^ k % 2 ^ 64) (same_bit c.args.byte)
