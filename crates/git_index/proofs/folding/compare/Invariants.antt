use Rattle.std.proofs.Common.{◌≡◌, drop}
use Rattle.git_index.specs.Folding.{folded}
use Rattle.git_index.proofs.lemmas.Folding.{cmp}
use Rattle.git_index.proofs.folding.compare.Given as goal

-- what is left decides
abbrev pub invariant-loop-place : goal.invariant-loop-place
invariant-loop-place l = cmp (folded l.path) (folded l.other) ≡ cmp (folded (drop l.place l.path)) (folded (drop l.place l.other))
