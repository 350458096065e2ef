-- The slashes at both ends are two bytes, so it doesn't count which one goes first.
use Rattle.glob_patterns.proofs.lemmas.GitAgreement.{GitReads-Reads}
use Rattle.glob_patterns.proofs.laws.patterns.both_readings_of_a_line_agree.Goals as goal

pub returns : goal.returns
returns c line text mode place bare slash signed_slash r = GitReads-Reads line text mode place r bare slash signed_slash
