use Rattle.std.proofs.Common.{◌≡◌, length}
use Rattle.git_index.specs.Private.Reading.{shared_number_from}
use Rattle.git_index.proofs.fields.shared_number.Given as goal

abbrev pub invariant-loop-rest : goal.invariant-loop-rest
invariant-loop-rest l = shared_number_from l.limit l.high l.rest ≡ shared_number_from l.limit 0 l.bytes

abbrev pub decreases-loop-rest : goal.decreases-loop-rest
decreases-loop-rest l = length l.rest
