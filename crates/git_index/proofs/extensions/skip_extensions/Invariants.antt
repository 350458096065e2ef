use Rattle.std.proofs.Common.{List, ℕ, length}
use Rattle.git_index.specs.Format.{ArePassedOver}
use Rattle.git_index.specs.Private.Reading.{Ends}
use Rattle.git_index.proofs.lemmas.Fields.{IsBytes}
use Rattle.git_index.proofs.extensions.skip_extensions.Given as goal

abbrev pub invariant-loop-rest : goal.invariant-loop-rest
invariant-loop-rest l = record {
  fits : IsBytes l.rest;
  on : (end : List ℕ) → ArePassedOver l.rest end → ArePassedOver l.bytes end;
  back : (end : List ℕ) → Ends end → ArePassedOver l.bytes end → ArePassedOver l.rest end;
}

abbrev pub decreases-loop-rest : goal.decreases-loop-rest
decreases-loop-rest l = length l.rest
