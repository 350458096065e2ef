-- Each byte of such a text is a token of its own.
use Rattle.glob_patterns.proofs.lemmas.LiteralLemmas.{literal_splits}
use Rattle.glob_patterns.proofs.laws.patterns.literal_text_splits_itself.Goals as goal

pub returns : goal.returns
returns c = λ text value mode none. literal_splits text value mode none
