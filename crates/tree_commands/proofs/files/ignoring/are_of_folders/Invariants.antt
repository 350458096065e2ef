use Rattle.std.proofs.Common.{map, take}
use Rattle.glob_lists.specs.Deciding.{BasesAreFolders}
use Rattle.gix_glob.specs.EntryLists.{entry_list_of}
use Rattle.tree_commands.proofs.files.ignoring.are_of_folders.Given as goal

-- the bases of the lists so far are those of folders
abbrev pub invariant-loop-list : goal.invariant-loop-list
invariant-loop-list g l = BasesAreFolders (map (entry_list_of g.T.Pattern.seen) (take l.list-index l.lists))
