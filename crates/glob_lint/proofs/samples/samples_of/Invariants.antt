-- Each sample so far is a path that a work tree can have.
use Rattle.std.proofs.Common.{All}
use Rattle.glob_lint.specs.Lines.{IsReal}
use Rattle.glob_lint.proofs.samples.samples_of.Given as goal

abbrev pub invariant-fillings : goal.invariant-fillings
invariant-fillings l = All (λ sample. IsReal sample.path.items) l.samples.items
