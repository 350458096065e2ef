use Rattle.std.proofs.Common.{◌≡◌, ◌-◌, drop, length}
use Rattle.std.specs.Cmp.Lexicographic.{slice_cmp}
use Rattle.std.specs.Ordering.{nat_cmp}
use Rattle.pathspecs.proofs.texts.comes_behind.Given as goal

-- what is left compares as the whole
abbrev pub invariant-bytes : goal.invariant-bytes
invariant-bytes l = slice_cmp nat_cmp (drop l.place l.text) (drop l.place l.other) ≡ slice_cmp nat_cmp l.text l.other

abbrev pub decreases-bytes : goal.decreases-bytes
decreases-bytes l = length l.text - l.place
