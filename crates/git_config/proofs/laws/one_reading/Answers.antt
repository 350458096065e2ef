-- Each part has one outcome.
use Rattle.git_config.proofs.lemmas.OneReadingLemmas.{sources_one}
use Rattle.git_config.proofs.laws.one_reading.Goals as goal

pub returns : goal.returns
returns c = λ files around n sources a b. sources_one files around n sources a b
