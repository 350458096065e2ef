use Rattle.tree_answers.proofs.lemmas.PatternLines.{read_back}
use Rattle.tree_answers.proofs.laws.written_patterns_read_back.Goals as goal

pub returns : goal.returns
returns c = λ line text mode place r. read_back line text mode place r (c.shown_line_is_read_back.ensures line text mode place r)
