-- What is read makes a pattern.
use Rattle.glob_patterns.proofs.lemmas.ReadingLemmas.{IsPattern-Reads}
use Rattle.glob_patterns.proofs.pattern.view.PatternView.from_bytes.Goals as goal

pub returns-clause-lawful : goal.returns-clause-lawful
returns-clause-lawful c = IsPattern-Reads _ _ _ _ _ c.in_ok-text.ensures.reads
