-- The backslashes at the end are as many as the bytes lose with them.
use Rattle.glob_lines.proofs.lemmas.TrimLemmas.{is_open-StandsBefore}
use Rattle.glob_lines.proofs.ignore_line.escapes_the_next.Goals as goal

pub returns : goal.returns
returns c = is_open-StandsBefore c.args.bytes.now c.without_trailing.result.now c.without_trailing.ensures
