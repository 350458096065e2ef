-- The first tab parts the line.
use Rattle.std.proofs.lemmas.List.{take_rest}
use Rattle.glob_lines.proofs.lemmas.LabelLemmas.{GivesLabel-found, GivesLabel-none}
use Rattle.glob_lines.proofs.label.split_label.Goals as goal

pub returns-in-Some : goal.returns-in-Some
returns-in-Some c = rw take_rest (GivesLabel-found c.args.line.now c.in-Some.tab c.in-Some.ensures)

pub returns-in-None : goal.returns-in-None
returns-in-None c = GivesLabel-none c.args.line.now c.in-None.ensures
