use Rattle.std.proofs.Common.{◌≡◌, map}
use Rattle.git_index.specs.declared.entry.Kind.TheVariants.{Submodule}
use Rattle.git_index.specs.Entries.{tracked}
use Rattle.git_index.proofs.lemmas.PassedOver.{StandBehind}
use Rattle.git_index.proofs.asked_paths.has_submodules.Given as goal

abbrev pub invariant-loop-entry : goal.invariant-loop-entry
invariant-loop-entry l = StandBehind (λ e. e.kind ≡ Submodule) (map tracked l.entries) l.entry-index
