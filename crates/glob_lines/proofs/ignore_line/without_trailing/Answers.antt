-- The last byte that is another one ends the front.
use Rattle.std.proofs.Common.{rules}
use Rattle.glob_lines.proofs.lemmas.TrimLemmas.{StandsBefore-last, StandsBefore-none}
use Rattle.glob_lines.proofs.ignore_line.without_trailing.Goals as goal

pub returns-in-Some : goal.returns-in-Some
returns-in-Some c = StandsBefore-last c.args.byte c.args.bytes.now c.in-Some.last (search rules) (search rules) (search rules)

pub returns-in-None : goal.returns-in-None
returns-in-None c = StandsBefore-none c.args.byte c.args.bytes.now (search rules)
