use Rattle.std.proofs.Common.{sym, subst}
use Rattle.glob_lists.specs.Deciding.{BasesAreFolders}
use Rattle.tree_commands.specs.Private.Listing.{seen_list, seen_lists}
use Rattle.tree_commands.proofs.lemmas.ListsLemmas.{bases_pushed}
use Rattle.tree_commands.proofs.files.lister.push_own.Goals as goal

pub returns-clause-folders : goal.returns-clause-folders
returns-clause-folders g c =
    subst BasesAreFolders (sym c.in_ok-push_if_any.ensures.adds)
    (bases_pushed (seen_lists c.args.on_way.now.lists.items) (seen_list c.in_ok-list.list) c.args.folder.now c.requires.folders c.in_ok-list.ensures.based)
