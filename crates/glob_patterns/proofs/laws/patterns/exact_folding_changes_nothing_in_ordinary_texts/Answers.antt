use Rattle.glob_patterns.proofs.lemmas.Foldings.{foldings_agree}
use Rattle.glob_patterns.proofs.laws.patterns.exact_folding_changes_nothing_in_ordinary_texts.Goals as goal

pub returns : goal.returns
returns c = foldings_agree
