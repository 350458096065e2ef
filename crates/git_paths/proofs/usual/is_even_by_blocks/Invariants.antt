use Rattle.std.proofs.Common.{◌-◌, ◌<◌, ◌≤◌, length}
use Rattle.git_paths.specs.Private.Usual.{HasNoneOdd}
use Rattle.git_paths.proofs.usual.is_even_by_blocks.Given as goal

-- none of the bytes so far is odd
abbrev pub invariant-steps : goal.invariant-steps
invariant-steps l = (1 ≤ l.place) × (l.place < length l.told) × HasNoneOdd l.told 1 l.place

abbrev pub decreases-steps : goal.decreases-steps
decreases-steps l = length l.told - l.place
