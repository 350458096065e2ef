-- Each part of a line is fixed by what stands before it.
use Rattle.glob_patterns.proofs.lemmas.ReadingLemmas.{Reads-once}
use Rattle.glob_patterns.proofs.laws.patterns.line_has_one_reading.Goals as goal

pub returns : goal.returns
returns c = Reads-once
