use Rattle.gix_glob.proofs.lemmas.Bases.{base_ends}
use Rattle.gix_glob.proofs.laws.bases_end_in_a_slash.Goals as goal

pub returns : goal.returns
returns c = base_ends
