use Rattle.glob_lines.proofs.lemmas.IgnoreLemmas.{first_line_once}
use Rattle.glob_lines.proofs.laws.bytes_begin_with_one_line.Goals as goal

pub returns : goal.returns
returns c = first_line_once
