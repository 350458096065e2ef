-- Each part of a reading is fixed by what stands before it, and the equations give the parts.
use Rattle.glob_patterns.proofs.lemmas.ReadingEquations.{HasReading-none, Reads-reading_of, reading_of-none, reading_of-Reads}
use Rattle.glob_patterns.proofs.laws.patterns.readings_are_these.Goals as goal

pub returns-clause-some : goal.returns-clause-some
returns-clause-some c line may_alter text mode place = (
  reading_of-Reads may_alter line text mode place,
  Reads-reading_of may_alter line (record { text = text; mode = mode; place = place }),
)

pub returns-clause-none : goal.returns-clause-none
returns-clause-none c line may_alter = (reading_of-none may_alter line, HasReading-none may_alter line)
