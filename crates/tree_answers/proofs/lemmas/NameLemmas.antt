-- Names in answers that stand as they are.
use Rattle.std.proofs.Common.{◌≡◌, ℕ, false, List, ap, refl, ◌++◌, codes}
use Rattle.std.specs.Prelude.{if◌then◌else◌}
use Rattle.std.specs.List.{flat_map, list_any}
use Rattle.git_paths.specs.declared.quoting.Quoting.TheVariants.{Full}
use Rattle.git_paths.specs.Quoting.{escaped, is_unusual}
use Rattle.git_paths.proofs.lemmas.UsualLemmas.{none_unusual_by}
use Rattle.tree_answers.specs.declared.form.Form.{Form}
use Rattle.tree_answers.specs.declared.form.Form.TheVariants.{Lines, Records}
use Rattle.tree_answers.specs.Lines.{name_text}

-- a name that is usual where names are quoted in full is written as it is in each form
pub usual_name_text : (form : Form) (name : List ℕ) → list_any (is_unusual Full) name ≡ false → name_text form name ≡ name
usual_name_text (Lines quoting) name usual =
    ap (λ t. if t then codes "\"" ++ (flat_map (escaped quoting) name ++ codes "\"") else name) (none_unusual_by quoting name usual)
usual_name_text Records name usual = refl
