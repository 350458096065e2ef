use Rattle.glob_attributes.proofs.lemmas.OneRowLemmas.{rows-off_the_way}
use Rattle.glob_attributes.proofs.laws.lists_off_the_way_say_nothing.Goals as goal

pub returns : goal.returns
returns c = λ front after list base path rules row based off. rows-off_the_way list after front base path rules based off row
