use Rattle.std.proofs.Common.{◌+◌, subst, sym}
use Rattle.std.proofs.lemmas.List.{take_rest}
use Rattle.git_paths.specs.Paths.{IsLastName}
use Rattle.git_paths.proofs.lemmas.LastLemmas.{last_name_behind, last_name_whole}
use Rattle.git_paths.proofs.paths.last_name.Goals as goal

pub returns-in-Some : goal.returns-in-Some
returns-in-Some c =
    let path = c.args.path.now in
    subst (IsLastName path) (sym (take_rest path (c.in-Some.at + 1))) (last_name_behind path c.in-Some.at c.in-Some.ensures)

pub returns-in-None : goal.returns-in-None
returns-in-None c = last_name_whole c.args.path.now c.in-None.ensures
