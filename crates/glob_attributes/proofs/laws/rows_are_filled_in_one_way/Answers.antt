use Rattle.std.proofs.Common.{[]}
use Rattle.glob_attributes.proofs.lemmas.LawLemmas.{filled-some}
use Rattle.glob_attributes.proofs.lemmas.StateLemmas.{filled-one}
use Rattle.glob_attributes.proofs.laws.rows_are_filled_in_one_way.Goals as goal

pub returns : goal.returns
returns c = record { some = filled-some; one = λ macros row filled other. filled-one macros [] row filled other }
