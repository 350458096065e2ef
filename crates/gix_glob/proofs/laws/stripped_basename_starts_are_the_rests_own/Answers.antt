use Rattle.gix_glob.proofs.lemmas.Places.{start_in_rest}
use Rattle.gix_glob.proofs.laws.stripped_basename_starts_are_the_rests_own.Goals as goal

pub returns : goal.returns
returns c = start_in_rest
