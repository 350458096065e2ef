-- Each part of a reading is fixed by what stands before it, and the equation gives the parts.
use Rattle.glob_patterns.proofs.lemmas.GitLineLemmas.{GitReads-once, git_reading_of-GitReads}
use Rattle.glob_patterns.proofs.laws.patterns.git_readings_are_these.Goals as goal

pub returns : goal.returns
returns c line text mode place = (git_reading_of-GitReads line text mode place, GitReads-once line (record { text = text; mode = mode; place = place }))
