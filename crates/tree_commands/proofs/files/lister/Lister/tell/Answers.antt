use Rattle.std.proofs.Common.{sym, subst}
use Rattle.glob_lists.specs.Deciding.{BasesAreFolders}
use Rattle.tree_commands.specs.Private.Listing.{seen_lists}
use Rattle.tree_commands.proofs.lemmas.ListsLemmas.{bases_taken, seen_cut}
use Rattle.tree_commands.proofs.files.lister.Lister.tell.Goals as goal

pub tell_at-requires-clause-folders : goal.tell_at-requires-clause-folders
tell_at-requires-clause-folders g c =
    subst BasesAreFolders (sym (seen_cut _ _ _ c.truncate.ensures.items)) (bases_taken c.args.next.list_count (seen_lists c.args.self.now.on_way.lists.items) c.requires.folders)

pub returns-clause-steps : goal.returns-clause-steps
returns-clause-steps g c =
    let cut = seen_cut c.args.next.list_count c.args.self.now.on_way.lists.items c.truncate.new.self.items c.truncate.ensures.items in
    rw (← cut) c.tell_at.ensures.steps

pub returns-clause-asks : goal.returns-clause-asks
returns-clause-asks g c =
    let cut = seen_cut c.args.next.list_count c.args.self.now.on_way.lists.items c.truncate.new.self.items c.truncate.ensures.items in
    rw (← cut) c.tell_at.ensures.asks
