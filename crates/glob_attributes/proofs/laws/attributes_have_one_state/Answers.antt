use Rattle.glob_attributes.proofs.lemmas.OneRowLemmas.{assigned-one}
use Rattle.glob_attributes.proofs.laws.attributes_have_one_state.Goals as goal

pub returns : goal.returns
returns c = assigned-one
