use Rattle.glob_attributes.proofs.lemmas.SpellingLemmas.{heads_are_these}
use Rattle.glob_attributes.proofs.laws.heads_are_these.Goals as goal

pub returns : goal.returns
returns c = heads_are_these
