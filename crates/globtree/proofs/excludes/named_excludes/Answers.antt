use Rattle.globtree.proofs.lemmas.FrontLemmas.{file_spells}
use Rattle.globtree.proofs.excludes.named_excludes.Goals as goal

pub returns-in-Ok-Some : goal.returns-in-Ok-Some
returns-in-Ok-Some g c = file_spells _ _ (rw c.in-Ok-Some.field-0-is at c.in-Ok-Some.ensures)
