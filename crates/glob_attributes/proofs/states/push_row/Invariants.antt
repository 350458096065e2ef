use Rattle.std.proofs.Common.{◌≡◌, ◌++◌, map, take}
use Rattle.std.specs.List.{flat_map}
use Rattle.gix_glob.specs.EntryLists.{entry_list_of}
use Rattle.glob_attributes.specs.Private.Filling.{seen_entry}
use Rattle.glob_attributes.specs.Views.{seen_assignments}
use Rattle.glob_attributes.specs.States.{assigned_at}
use Rattle.glob_attributes.proofs.states.push_row.Given as goal

-- what the patterns of the pairs so far assign was added
abbrev pub invariant-loop-pair : goal.invariant-loop-pair
invariant-loop-pair l =
    map seen_entry l.row.items ≡ map seen_entry l.fn.row.items ++ flat_map (assigned_at (map (entry_list_of seen_assignments) l.lists)) (take l.pair-index l.pairs)
