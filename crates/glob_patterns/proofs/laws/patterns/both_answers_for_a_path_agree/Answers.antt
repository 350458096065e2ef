use Rattle.glob_patterns.proofs.lemmas.Foldings.{folded_answers_agree}
use Rattle.glob_patterns.proofs.lemmas.WholeFronts.{answers_agree}
use Rattle.glob_patterns.proofs.laws.patterns.both_answers_for_a_path_agree.Goals as goal

pub returns-clause-kept : goal.returns-clause-kept
returns-clause-kept c = answers_agree

pub returns-clause-folded : goal.returns-clause-folded
returns-clause-folded c = folded_answers_agree
