-- What is prepared is right, where the list is lawful.
use Rattle.std.proofs.Common.{sym}
use Rattle.gix_glob_c.proofs.lists.last_of_all.Goals as goal

pub returns-clause-exact : goal.returns-clause-exact
returns-clause-exact c = λ lawful. c.last_match-2.ensures.exact lawful.patterns (lawful.prepared c.in-Some.heads.now (sym c.in-Some.ensures.value))
