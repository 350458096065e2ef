use Rattle.glob_attributes.proofs.lemmas.StateLemmas.{state_in-front}
use Rattle.glob_attributes.proofs.laws.fronts_decide.Goals as goal

pub returns : goal.returns
returns c = state_in-front
