use Rattle.std.proofs.Common.{map}
use Rattle.git_index.specs.Entries.{tracked}
use Rattle.git_index.specs.Private.Parts.{Fits}
use Rattle.git_index.proofs.lemmas.PassedOver.{StandBehind}
use Rattle.git_index.proofs.patterns.is_fitted.Given as goal

abbrev pub invariant-loop-entry : goal.invariant-loop-entry
invariant-loop-entry l = StandBehind (λ e. Fits e.path l.front l.pattern) (map tracked l.entries) l.entry-index
