use Rattle.std.proofs.Common.{subst}
use Rattle.std.proofs.lemmas.Result.{IfOk-weaker}
use Rattle.gix_glob.specs.EntryLists.{entry_list_of}
use Rattle.tree_files.specs.FileLists.{IsSpelled}
use Rattle.tree_files.proofs.lemmas.FileLemmas.{file_is_spelled}
use Rattle.tree_files.proofs.sources.FolderFiles.file_list.Goals as goal

-- src/sources.rt:78:5
pub returns-in-Found : goal.returns-in-Found
returns-in-Found g c = IfOk-weaker c.seen_file_list.result _ _
    (λ list is. subst (λ name. IsSpelled {V = Unit {0}} name (entry_list_of (λ _. tt) list)) c.in_ok-file.ensures (file_is_spelled _ _ is))
    c.seen_file_list.ensures
