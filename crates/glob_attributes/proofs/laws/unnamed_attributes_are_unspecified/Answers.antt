use Rattle.glob_attributes.proofs.lemmas.LawLemmas.{unnamed-unspecified}
use Rattle.glob_attributes.proofs.laws.unnamed_attributes_are_unspecified.Goals as goal

pub returns : goal.returns
returns c = unnamed-unspecified
