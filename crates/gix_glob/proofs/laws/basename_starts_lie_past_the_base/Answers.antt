use Rattle.gix_glob.proofs.lemmas.Places.{place_past_base}
use Rattle.gix_glob.proofs.laws.basename_starts_lie_past_the_base.Goals as goal

pub returns : goal.returns
returns c = place_past_base
