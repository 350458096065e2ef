use Rattle.tree_answers.proofs.lemmas.GitPatternLines.{written}
use Rattle.tree_answers.proofs.laws.written_git_patterns_are_their_lines.Goals as goal

pub returns : goal.returns
returns c = λ line text mode place other r. written line text mode place other r (c.git_line_is_shown.ensures line text mode place r)
