-- What is read makes a pattern.
use Rattle.glob_patterns.proofs.lemmas.GitLineLemmas.{IsPattern-GitReads}
use Rattle.glob_patterns.proofs.pattern.view.PatternView.from_git_line.Goals as goal

pub returns-clause-lawful : goal.returns-clause-lawful
returns-clause-lawful c = IsPattern-GitReads _ _ _ _ c.git_pattern-first_wildcard_pos.ensures
