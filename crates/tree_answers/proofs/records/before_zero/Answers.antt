use Rattle.std.proofs.Common.{sym}
use Rattle.glob_attributes.proofs.lemmas.ZeroLemmas.{before_found, before_not_found}
use Rattle.tree_answers.proofs.records.before_zero.Goals as goal

pub returns-in-Some : goal.returns-in-Some
returns-in-Some c = sym (before_found c.args.name.now c.in-Some.place c.in-Some.ensures)

pub returns-in-None : goal.returns-in-None
returns-in-None c = sym (before_not_found c.args.name.now c.in-None.ensures)
