use Rattle.std.proofs.Common.{map, take}
use Rattle.std.specs.Option.{option_copied}
use Rattle.std.specs.String.{string_bytes}
use Rattle.gix_glob.specs.EntryLists.{entry_list_of}
use Rattle.globline.specs.Words.{AreIgnoreLists}
use Rattle.globline.proofs.ignore_files.lists_of.Given as goal

-- the files so far gave these lists
abbrev pub invariant-loop-file : goal.invariant-loop-file
invariant-loop-file g l =
    AreIgnoreLists (option_copied l.fn.root) (map string_bytes (take l.file-index l.files)) (map (entry_list_of {V = Unit {0}} (λ _. tt)) l.lists.items)
