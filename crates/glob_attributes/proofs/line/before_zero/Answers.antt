use Rattle.std.proofs.Common.{sym}
use Rattle.glob_attributes.proofs.lemmas.ZeroLemmas.{before_found, before_not_found}
use Rattle.glob_attributes.proofs.line.before_zero.Goals as goal

pub returns-in-Some-clause-bytes : goal.returns-in-Some-clause-bytes
returns-in-Some-clause-bytes c = sym (before_found c.args.bytes.now c.in-Some.place c.in-Some.ensures)

pub returns-in-None-clause-bytes : goal.returns-in-None-clause-bytes
returns-in-None-clause-bytes c = sym (before_not_found c.args.bytes.now c.in-None.ensures)
