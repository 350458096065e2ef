use Rattle.pathspecs.proofs.lemmas.LosingLemmas.{loses_nothing}
use Rattle.pathspecs.proofs.lists.no_path_is_lost.Goals as goal

pub returns : goal.returns
returns c = loses_nothing
