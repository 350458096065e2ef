use Rattle.glob_lines.proofs.lemmas.LabelLemmas.{Label-without_tabs}
use Rattle.glob_lines.proofs.laws.lines_without_tabs_keep_their_meaning.Goals as goal

pub returns : goal.returns
returns c = Label-without_tabs c.readings_are_these.ensures.some
