use Rattle.glob_attributes.proofs.lemmas.NamingLemmas.{invalid-unspecified}
use Rattle.glob_attributes.proofs.laws.invalid_names_are_unspecified.Goals as goal

pub returns : goal.returns
returns c = invalid-unspecified
