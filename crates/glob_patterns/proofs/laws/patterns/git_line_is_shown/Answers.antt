-- Nothing but a sign and the slashes is taken off the line.
use Rattle.glob_patterns.proofs.lemmas.GitAgreement.{shown_line-GitReads}
use Rattle.glob_patterns.proofs.laws.patterns.git_line_is_shown.Goals as goal

pub returns : goal.returns
returns c = shown_line-GitReads
