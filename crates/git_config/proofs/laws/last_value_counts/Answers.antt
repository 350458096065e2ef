-- Entry by entry.
use Rattle.std.proofs.Common.{None}
use Rattle.git_config.proofs.lemmas.LastLemmas.{last_counts, wrong_told}
use Rattle.git_config.proofs.laws.last_value_counts.Goals as goal

pub returns : goal.returns
returns c = record { last = λ front said s b. last_counts None said front s b; wrong = λ front more s. wrong_told None front more s }
