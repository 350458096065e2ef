use Rattle.glob_lines.proofs.lemmas.GitLineLemmas.{first_git_line_once}
use Rattle.glob_lines.proofs.laws.bytes_begin_with_one_git_line.Goals as goal

pub returns : goal.returns
returns c = first_git_line_once
