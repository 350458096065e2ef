use Rattle.git_paths.proofs.lemmas.LaneLemmas.{none_begins}
use Rattle.git_paths.proofs.usual.begins_names_in_block.Goals as goal

pub returns : goal.returns
returns c none = none_begins c.args.told.now c.args.place c.requires.0 c.requires.1 none
