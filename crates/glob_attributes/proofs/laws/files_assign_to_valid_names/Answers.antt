use Rattle.glob_attributes.proofs.lemmas.NamingLemmas.{attributes-names, macros-names}
use Rattle.glob_attributes.proofs.laws.files_assign_to_valid_names.Goals as goal

pub returns : goal.returns
returns c = record { entries = attributes-names; macros = macros-names }
