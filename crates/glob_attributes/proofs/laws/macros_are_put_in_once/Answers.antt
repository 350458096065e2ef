use Rattle.glob_attributes.proofs.lemmas.LawLemmas.{filled-bounded, put-once}
use Rattle.glob_attributes.proofs.laws.macros_are_put_in_once.Goals as goal

pub returns : goal.returns
returns c = record { once = put-once; bounded = filled-bounded }
