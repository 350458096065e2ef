use Rattle.std.proofs.Common.{◌≡◌, take}
use Rattle.glob_trees.proofs.on_way.common_length.Given as goal

-- up to the place they are alike
abbrev pub invariant-loop-place : goal.invariant-loop-place
invariant-loop-place l = take l.place l.left ≡ take l.place l.right
