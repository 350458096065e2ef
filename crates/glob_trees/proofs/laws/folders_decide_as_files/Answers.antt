use Rattle.glob_trees.proofs.lemmas.AnyKind.{file_as_folder, no_file_as_no_folder}
use Rattle.glob_trees.proofs.laws.folders_decide_as_files.Goals as goal

pub returns : goal.returns
returns g c = record {
  some = λ lists path rules. file_as_folder lists path rules;
  none = λ lists path rules. no_file_as_no_folder lists path rules;
}
