use Rattle.std.proofs.Common.{◌-◌, ◌≤◌, length}
use Rattle.git_paths.specs.Private.Usual.{HasNoneUnusual}
use Rattle.git_paths.proofs.unusual.is_usual_by_blocks.Given as goal

-- none of the bytes so far is unusual
abbrev pub invariant-steps : goal.invariant-steps
invariant-steps l = (l.place ≤ length l.name) × HasNoneUnusual l.name 0 l.place

abbrev pub decreases-steps : goal.decreases-steps
decreases-steps l = length l.name - l.place
