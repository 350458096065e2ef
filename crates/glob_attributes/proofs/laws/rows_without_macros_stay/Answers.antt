use Rattle.std.proofs.Common.{[]}
use Rattle.glob_attributes.proofs.lemmas.StateLemmas.{filled-itself, filled-without_macros}
use Rattle.glob_attributes.proofs.laws.rows_without_macros_stay.Goals as goal

pub returns : goal.returns
returns c = λ row filled. (filled-without_macros [] row filled, filled-itself [] row filled)
