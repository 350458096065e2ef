use Rattle.glob_lines.specs.Values.{WritesAnswer}
use Rattle.glob_lines.proofs.lemmas.OneText.{text_once}
use Rattle.glob_lines.proofs.lemmas.ValuesLemmas.{answer_once}
use Rattle.glob_lines.proofs.laws.values_have_one_text.Goals as goal

pub returns : goal.returns
returns c pattern mode input text other = text_once (WritesAnswer pattern mode) (answer_once pattern mode) input text other
