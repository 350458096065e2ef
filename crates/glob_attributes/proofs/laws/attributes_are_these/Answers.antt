use Rattle.glob_attributes.proofs.lemmas.EntryLemmas.{attributes_are_these}
use Rattle.glob_attributes.proofs.laws.attributes_are_these.Goals as goal

pub returns : goal.returns
returns c = λ reading. attributes_are_these (record { some = c.readings_are_these.ensures.some; none = c.readings_are_these.ensures.none; git = c.git_readings_are_these.ensures }) reading
