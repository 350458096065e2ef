use Rattle.std.proofs.Common.{◌≡◌, ◌+◌, ◌≤◌, length}
use Rattle.std.specs.Option.{option_copied}
use Rattle.git_paths.specs.Paths.{parts_left, parts_of}
use Rattle.git_paths.specs.Private.Fronts.{front_by}
use Rattle.git_paths.specs.Standpoints.{front_left}
use Rattle.git_paths.proofs.fronts.front_left.Given as goal

-- as much stays by the parts that are left as by all; no more names stand behind the front than there were parts
abbrev pub invariant-parts : goal.invariant-parts
invariant-parts l = record {
  stays : front_by l.depth l.front (parts_left (option_copied l.rest)) ≡ front_left (length l.fn.folder) l.fn.folder (parts_of l.fn.told);
  few : l.depth + length (parts_left (option_copied l.rest)) ≤ length (parts_of l.fn.told);
}

abbrev pub decreases-parts : goal.decreases-parts
decreases-parts l = length (parts_left (option_copied l.rest))
