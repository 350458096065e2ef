use Rattle.std.proofs.Common.{inr}
use Rattle.std.proofs.lemmas.Result.{IfOk-weaker}
use Rattle.globtree.proofs.tracked.IndexFile.read_split.Goals as goal

pub returns : goal.returns
returns g c = IfOk-weaker c.from_split.result _ _ (λ index found. inr (_, _, inr (_, found))) c.from_split.ensures.found
