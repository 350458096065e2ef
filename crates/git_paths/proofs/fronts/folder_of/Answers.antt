use Rattle.std.proofs.Common.{sym}
use Rattle.git_paths.proofs.lemmas.LastLemmas.{folder_of_found, folder_of_not_found}
use Rattle.git_paths.proofs.fronts.folder_of.Goals as goal

pub returns-in-Some : goal.returns-in-Some
returns-in-Some c = sym (folder_of_found c.args.path.now c.in-Some.at c.in-Some.ensures)

pub returns-in-None : goal.returns-in-None
returns-in-None c = sym (folder_of_not_found c.args.path.now c.in-None.ensures)
