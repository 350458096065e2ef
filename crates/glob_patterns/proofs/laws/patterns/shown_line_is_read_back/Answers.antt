-- The sign and the slashes of what is shown are those of the line.
use Rattle.glob_patterns.proofs.lemmas.ShownLines.{Reads-shown_line}
use Rattle.glob_patterns.proofs.laws.patterns.shown_line_is_read_back.Goals as goal

pub returns : goal.returns
returns c = Reads-shown_line
