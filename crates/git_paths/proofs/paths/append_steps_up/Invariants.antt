use Rattle.std.proofs.Common.{◌≡◌, ◌++◌, length}
use Rattle.std.specs.Option.{option_copied}
use Rattle.git_paths.specs.Paths.{parts_left, parts_of, steps_up}
use Rattle.git_paths.proofs.paths.append_steps_up.Given as goal

-- the steps so far, and those of the parts that are left, are all
abbrev pub invariant-parts : goal.invariant-parts
invariant-parts l = l.text.items ++ steps_up (parts_left (option_copied l.parts)) ≡ l.initial.text.items ++ steps_up (parts_of l.fn.folder)

abbrev pub decreases-parts : goal.decreases-parts
decreases-parts l = length (parts_left (option_copied l.parts))
