use Rattle.std.proofs.Common.{◌≡◌, length, false}
use Rattle.std.specs.Option.{option_copied}
use Rattle.git_paths.specs.Paths.{names_folder, parts_left, parts_of, walk}
use Rattle.git_paths.proofs.paths.walk.Given as goal

-- the parts that are left lead where all of them do
abbrev pub invariant-parts : goal.invariant-parts
invariant-parts l = record {
  leads : walk l.path.items (parts_left (option_copied l.rest)) ≡ walk l.initial.path.items (parts_of l.fn.told);
  folder : names_folder l.is_folder (parts_left (option_copied l.rest)) ≡ names_folder false (parts_of l.fn.told);
}

abbrev pub decreases-parts : goal.decreases-parts
decreases-parts l = length (parts_left (option_copied l.rest))
